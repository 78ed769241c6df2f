-- What the proofs of this crate cite.
pub mod Counting
pub mod Showing
