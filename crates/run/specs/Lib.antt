-- What a run counts and reports.
pub mod Seen
pub mod Runs
