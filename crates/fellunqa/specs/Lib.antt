-- Intermediate: the code's own terms, proved to come to the definitions of `model`.
-- What a call comes to at the entry point, and what C is given.
pub mod Perform
