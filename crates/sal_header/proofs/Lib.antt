pub mod Examples
mod FullHeaders
pub mod HeaderBits
pub mod Placing
pub mod MapPairs
pub mod ReadBack
pub mod Values
