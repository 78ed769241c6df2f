-- What unlinking, inserting, taking and freeing do: to a list, to the regions of a table, and to its words.
pub mod Steps
pub mod Strands
pub mod Places
pub mod Pools
