-- Intermediate: the code's own terms, proved to come to the definitions of `model`.
-- The calls of administration over the elements that they name.
pub mod Administration
