-- Intermediate: the code's own terms, proved to come to the definitions of `model`.
-- What the sections of an image are; the definitions of images are those of `model`.
pub mod Sections
