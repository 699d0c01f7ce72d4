pub mod Stops
pub mod Ends
pub mod Top
pub mod Printed
