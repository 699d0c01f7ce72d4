pub mod LineLemmas
pub mod JudgeLemmas
pub mod CutLemmas
pub mod ReadLemmas
pub mod WordLemmas
