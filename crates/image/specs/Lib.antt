-- What holds of images; the definitions of images are those of `model`.
pub mod Laws
