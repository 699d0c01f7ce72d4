pub mod Differences
mod Examples
pub mod Frames
pub mod Parts
pub mod Places
pub mod WholeLemmas
pub mod Windows
