-- Laws of bytes and fields, written and read again.
pub mod Numbers
pub mod Parts
pub mod Writing
pub mod Fields
pub mod Codes
pub mod Putting
pub mod Reading
pub mod ExactFields
pub mod Window
