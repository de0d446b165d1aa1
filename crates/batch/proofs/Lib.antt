-- What is done of a list of requests, one step further.
pub mod Laws
