-- Intermediate: the code's own terms, proved to come to the definitions of `model`.
-- The calls that give, over the elements that they name.
pub mod Giving
