-- What the proofs of this crate and of those above it share.
pub mod Fields
pub mod Draw
pub mod Whole
pub mod Write
pub mod Few
