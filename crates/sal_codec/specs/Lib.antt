pub mod Coding
pub mod Plain
pub mod Raw
pub mod PlainLaws
