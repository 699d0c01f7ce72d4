pub mod Digits
pub mod Kinds
pub mod Lending
pub mod Lists
pub mod Names
pub mod Picture
pub mod Pictures
pub mod Samples
