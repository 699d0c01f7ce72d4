pub mod Coefficients
pub mod Blocks
-- what coefficients are written as
pub mod Written
