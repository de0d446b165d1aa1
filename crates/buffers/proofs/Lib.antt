-- Laws of writing into parts of a buffer, of writing digits, and of comparing bytes.
pub mod Parts
pub mod Digits
pub mod Comparing
