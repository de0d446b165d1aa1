-- Intermediate: the code's own terms, proved to come to the definitions of `model`.
-- The elements that a request names, and where they stand.
pub mod Requests
