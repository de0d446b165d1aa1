-- Intermediate: the code's own terms, proved to come to the definitions of `model`.
-- What the sweep computes on its way, in the program's terms; `proofs/` shows it equal to the rules of `model`.
pub mod Columns
pub mod Parties
