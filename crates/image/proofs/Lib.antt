-- Laws of sections and of whole images, written and read again; the round trip.
pub mod Sections
pub mod RoundTrip
pub mod Accepted
pub mod ExactSections
pub mod Exact
pub mod Calls
