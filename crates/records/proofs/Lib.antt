-- Laws of records, written and read again.
pub mod Records
pub mod Reading
pub mod Layouts
pub mod ExactRecords
pub mod ExactWriting
