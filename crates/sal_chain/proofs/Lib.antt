pub mod HeldLemmas
pub mod Sharing
pub mod TableLemmas
