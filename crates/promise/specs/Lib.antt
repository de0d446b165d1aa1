-- The whole promise on one page: `Promise.antt`.
pub mod PublicContracts
pub mod Promise
