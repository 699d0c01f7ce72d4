pub mod Decode
pub mod FirstPartition
pub mod Standing
pub mod Syntax
pub mod TokenPartitions
