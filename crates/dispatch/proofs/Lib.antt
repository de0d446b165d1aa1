-- A request over its elements, put back, is the call of the model.
pub mod Commits
pub mod Columns
