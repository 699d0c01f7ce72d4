-- What a reader must believe: the calls so far with their answers, what they mean, and what is promised of them.
pub mod Past
pub mod Chain
pub mod OneThread
pub mod Acks
pub mod Jobs
pub mod Choosing
pub mod Answers
pub mod Sound
pub mod Promises
-- What ties the code to that: what the parts of a sender are, and how they stand for the calls so far. Contracts of private
-- functions and proofs speak of these; a public contract names them only through `Stands`.
pub mod JobWork
pub mod AckState
pub mod SentFrames
pub mod Candidates
pub mod Machine
pub mod Stands
pub mod Hearing
pub mod Planned
pub mod Packetizing
pub mod Selecting
pub mod Sending
