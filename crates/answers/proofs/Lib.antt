-- Laws of writing into a buffer and of answers as lines.
pub mod WriteLaws
pub mod AnswerLaws
