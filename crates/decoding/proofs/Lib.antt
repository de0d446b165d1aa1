-- Laws of an image read section by section.
pub mod Reading
pub mod Decoding
pub mod Rest
