pub mod Around
pub mod IntraModes
pub mod Modes
pub mod Near
pub mod ReadVectors
pub mod Rows
pub mod SplitVectors
pub mod Vectors
-- what modes are written as
pub mod Written
