-- Lists of requests in a bounded form, and what is answered.
pub mod Batch
