pub mod Factors
pub mod Forward
pub mod Hadamard
pub mod Inverse
pub mod Residue
pub mod Residues
pub mod Small
