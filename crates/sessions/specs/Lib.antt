-- Intermediate: the code's own terms, proved to come to the definitions of `model`.
-- The calls on sessions over the elements that they name.
pub mod Sessions
