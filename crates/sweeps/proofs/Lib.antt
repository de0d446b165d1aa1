-- Laws of the sweep.
pub mod SweepLaws
