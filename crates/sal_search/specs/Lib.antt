pub mod Costs
pub mod Search
pub mod Subblocks
