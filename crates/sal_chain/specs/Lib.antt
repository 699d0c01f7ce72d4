-- All of these say what the contracts promise, but `place_in` of Held, which serves proofs.
pub mod Held
pub mod Shares
pub mod StateTable
