-- Intermediate: the code's own terms, proved to come to the definitions of `model`.
-- The rising sweep: what its contracts cite.
pub mod Sweeping
