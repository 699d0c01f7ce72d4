mod Examples
pub mod Sums
pub mod Choices
pub mod FirstLeast
pub mod SubLemmas
pub mod Squares
pub mod Steps
pub mod IntraLemmas
