-- Laws of the definitions of specs/ and of the lines of `model`.
pub mod PartLaws
pub mod NumberLaws
