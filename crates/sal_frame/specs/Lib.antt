pub mod After
pub mod Built
pub mod Records
pub mod Residues
pub mod Refreshing
pub mod Intra
pub mod Inter
