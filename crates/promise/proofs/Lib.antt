-- The chain of calls from C, and the whole promise from its parts.
pub mod Chain
pub mod PublicContracts
pub mod Promise
