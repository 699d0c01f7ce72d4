pub mod Bits
pub mod Pairs
pub mod Put
pub mod Reading
pub mod Sizes
pub mod Syntax
pub mod Written
