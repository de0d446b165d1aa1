-- Masks, tests and bytes: definitions that know nothing of the register. Their laws are in `proofs/`.
pub mod Masks
pub mod Tests
pub mod Bytes
