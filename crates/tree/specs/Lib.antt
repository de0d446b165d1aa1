-- Intermediate: the code's own terms, proved to come to the definitions of `model`.
-- The recursion up the creation tree, the orders and the refusals: what the contracts cite.
pub mod Tree
pub mod Orders
pub mod Guards
