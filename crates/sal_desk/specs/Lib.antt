pub mod Calls
pub mod Desk
pub mod Histories
pub mod Seats
pub mod Stored
