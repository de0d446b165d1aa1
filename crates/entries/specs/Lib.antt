-- Intermediate: the code's own terms, proved to come to the definitions of `model`.
-- The rules of one thing, in the program's terms; `proofs/` of `rules` shows them equal to the rules of `model`.
pub mod Limits
