pub mod Edges
pub mod Intra
pub mod Sub
