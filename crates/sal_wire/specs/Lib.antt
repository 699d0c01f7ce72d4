-- All of these say what the contracts promise: Layout and Message what a datagram's bytes are, Parsing and Rules which fault comes
-- first, Fragmentation how a frame is split, Acks what an acknowledgement says.
pub mod Acks
pub mod Fields
pub mod Fragmentation
pub mod Layout
pub mod Message
pub mod Parsing
pub mod Rules
