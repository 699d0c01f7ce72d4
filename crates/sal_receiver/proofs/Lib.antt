mod FrameLemmas
pub mod PartsLemmas
pub mod Lasting
pub mod LeastLemmas
mod LabelLemmas
mod Offering
mod Entered
pub mod Handing
mod EnteredIs
mod Deciding
mod Judging
mod Room
mod DecodedIs
mod Parting
mod Standing
mod ShareAt
mod SeenLemmas
mod BookLemmas
mod ShareLemmas
mod FeedLemmas
pub mod Was
pub mod Holding
pub mod Served
pub mod Rising
