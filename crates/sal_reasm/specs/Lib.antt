-- Complete, Offer and Split say what the contracts promise. Stands ties the slots to the fragments taken; SlotTable and Step, what is kept
-- and what one fragment does to it, serve its proof.
pub mod Complete
pub mod Offer
pub mod SlotTable
pub mod Split
pub mod Stands
pub mod Step
