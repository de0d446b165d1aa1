-- Laws of an image written section by section.
pub mod Turns
pub mod Putting
pub mod Marking
pub mod Whole
pub mod Lengths
