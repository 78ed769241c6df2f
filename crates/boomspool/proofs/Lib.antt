-- That the fields of each reply are the documents' numbers, and that each promise admits one outcome.
pub mod Numbered
pub mod OneOutcome
