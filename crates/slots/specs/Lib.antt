-- Intermediate: the code's own terms, proved to come to the definitions of `model`.
-- A call over the elements that it names: what the contracts of the families cite.
pub mod Guards
pub mod Slots
pub mod Terms
