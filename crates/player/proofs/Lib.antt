-- What is left to print of a journal, by where its next line feed is.
pub mod Transcripts
pub mod Laws
pub mod Room
