-- Intermediate: the code's own terms, proved to come to the definitions of `model`.
-- What the printer does to a buffer; the definitions of lines are those of `model`.
pub mod Writing
