pub mod Events
pub mod Words
pub mod Parsing
pub mod Counted
pub mod Reading
pub mod Answers
