-- What is read from elements is the register's.
pub mod Laws
