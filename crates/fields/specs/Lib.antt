-- Intermediate: the code's own terms, proved to come to the definitions of `model`.
-- What the codes of fields mean; the definitions of fields are those of `model`.
pub mod Codes
