mod Examples
mod BlockExamples
pub mod Blocks
pub mod BlockSteps
pub mod TokenBits
pub mod WrittenBits
pub mod WrittenBlocks
pub mod WrittenMacroblocks
pub mod Taking
pub mod TakingBlocks
