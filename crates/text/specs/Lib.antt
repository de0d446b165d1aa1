-- Intermediate: the code's own terms, proved to come to the definitions of `model`.
-- What the readers of a line need beside the definitions of document 01.
pub mod Parts
pub mod Readers
