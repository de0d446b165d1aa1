-- Laws of the sweep.
pub mod Laws
pub mod Counts
pub mod Agreement
