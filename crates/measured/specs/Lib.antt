-- What is printed for lines on a saved register.
pub mod Measured
