pub mod Words
pub mod Form
pub mod Numbers
pub mod Commands
