pub mod CoefficientLemmas
pub mod Places
