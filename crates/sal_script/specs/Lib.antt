pub mod Numbered
pub mod Line
pub mod Script
pub mod Steps
pub mod Reads
