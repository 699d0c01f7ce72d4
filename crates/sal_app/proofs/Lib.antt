pub mod LoopLemmas
pub mod TopLemmas
