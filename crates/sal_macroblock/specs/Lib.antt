pub mod Blocks
pub mod Macroblocks
pub mod Sizes
