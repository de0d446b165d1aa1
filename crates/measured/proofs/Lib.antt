-- What is printed, by what load found.
pub mod Laws
