pub mod WordLemmas
pub mod EventLemmas
pub mod CutLemmas
pub mod JournalLemmas
pub mod LinesRead
