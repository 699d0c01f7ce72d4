mod Acting
pub mod Back
mod Items
mod Names
mod Seats
mod Storing
mod Turns
