-- Laws of walks that count down, and of a chain of free rows.
pub mod Listed
pub mod Turns
pub mod Once
