-- Laws of the answers.
pub mod Found
pub mod Numbered
