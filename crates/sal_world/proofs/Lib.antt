mod Toy
mod Runs
mod Journals
pub mod ListLemmas
pub mod Framed
pub mod Numbers
pub mod Windows
pub mod Cut
pub mod Given
pub mod Whole
pub mod Growing
pub mod Sending
pub mod Hearing
pub mod HandedOut
pub mod Ordered
pub mod FrameOf
pub mod Receiving
pub mod Delivering
pub mod Kept
pub mod Played
pub mod Emptied
pub mod Legal
pub mod FromInvariant
pub mod Stepping
pub mod SenderSteps
pub mod ReceiverSteps
pub mod ChoiceSteps
pub mod Stepped
pub mod OwnJobs
pub mod OwnFrames
