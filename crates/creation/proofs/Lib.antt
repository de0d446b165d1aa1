-- The call over the elements, put back, is the call of the model.
pub mod Laws
pub mod Commits
