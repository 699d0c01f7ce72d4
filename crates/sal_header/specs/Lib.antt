pub mod Headers
pub mod Tags
pub mod Written
