-- Laws of what is printed: document 01's cases; who waits after commands, the numbers of a report, how long the lines are, and all of them together.
pub mod Cases
pub mod Waits
mod Report
mod Lines
pub mod Short
