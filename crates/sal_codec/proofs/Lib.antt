pub mod Samplewise
pub mod Successive
