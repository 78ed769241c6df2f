-- Laws of a run.
pub mod Seen
pub mod Going
pub mod Stops
