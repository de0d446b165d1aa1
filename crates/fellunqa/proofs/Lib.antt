-- What the entry point comes to, step by step.
pub mod Laws
