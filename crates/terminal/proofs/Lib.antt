-- What a played journal leaves, and where a transfer stops.
pub mod Laws
