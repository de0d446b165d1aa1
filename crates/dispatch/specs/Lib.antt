-- Intermediate: the code's own terms, proved to come to the definitions of `model`.
-- The dispatch over requests.
pub mod Decide
