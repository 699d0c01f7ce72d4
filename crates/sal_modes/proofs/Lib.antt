pub mod CountLemmas
mod Examples
pub mod InterLemmas
pub mod IntraLemmas
mod ModeExamples
pub mod NearLemmas
pub mod Raster
pub mod SplitLemmas
mod VectorExamples
pub mod VectorLemmas
pub mod WrittenVectors
pub mod WrittenModes
pub mod PuttingModes
pub mod ModeBounds
pub mod Suggested
