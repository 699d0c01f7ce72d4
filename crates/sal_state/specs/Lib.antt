pub mod Digest
pub mod Name
pub mod States
