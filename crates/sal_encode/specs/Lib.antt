pub mod Plans
pub mod FrameBytes
pub mod Assembled
pub mod Standing
pub mod Source
pub mod Quantised
pub mod KeyPlan
