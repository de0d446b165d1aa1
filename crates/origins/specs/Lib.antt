-- Intermediate: the code's own terms, proved to come to the definitions of `model`.
-- What stands at an origin and what it allows, from the elements read.
pub mod Authority
pub mod Numbers
pub mod Standing
pub mod Terms
