-- What the C server's calls promise: document 01's numbers, field by field.
pub mod Replies
