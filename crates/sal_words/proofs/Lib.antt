pub mod NumberLemmas
pub mod RowLemmas
pub mod WordLemmas
pub mod FormLemmas
pub mod TurnLemmas
pub mod SaidLemmas
pub mod ReadLemmas
pub mod VerbLemmas
