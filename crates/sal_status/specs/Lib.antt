-- Both say what the contracts promise.
pub mod Numbers
pub mod Texts
