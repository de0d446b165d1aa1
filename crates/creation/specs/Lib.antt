-- Intermediate: the code's own terms, proved to come to the definitions of `model`.
-- The call that creates, over the elements that it names.
pub mod Creation
