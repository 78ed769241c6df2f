-- What a replay counts, and what is shown of it.
pub mod Counted
pub mod Shown
