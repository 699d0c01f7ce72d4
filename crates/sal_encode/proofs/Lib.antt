pub mod PartitionRead
pub mod TokensAgain
pub mod ModesAgain
pub mod HeadAgain
pub mod FrameAgain
pub mod FrameSize
pub mod AssembledLaws
pub mod TokensWritten
pub mod NoneWritten
pub mod FourFactors
pub mod PlanBuilt
pub mod PlanParts
pub mod ModesWritten
pub mod FirstWritten
pub mod FirstSize
pub mod FrameMade
pub mod BlocksPut
mod Examples
mod KeyExamples
