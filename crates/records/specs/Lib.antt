-- Intermediate: the code's own terms, proved to come to the definitions of `model`.
-- Which bytes of a record are exact; the definitions of records are those of `model`.
pub mod Exact
