-- The laws that the proofs of this crate and of its callers cite.
pub mod Decimal
pub mod Put
pub mod Begun
pub mod Long
mod Form
