-- Intermediate: the code's own terms, proved to come to the definitions of `model`.
-- What the quick reader of checks says; the definitions of lines are those of `model`.
pub mod Quick
