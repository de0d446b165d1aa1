-- Intermediate: the code's own terms, proved to come to the definitions of `model`.
-- Which bytes of an image are exact; the definitions of images are those of `model`.
pub mod Exact
