-- What a join and a leave do to the regions of a table, and what they ask of its words.
pub mod Steps
pub mod Shown
