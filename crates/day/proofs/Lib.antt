-- Laws of the day record, and that the promise on it admits one outcome.
pub mod Added
pub mod OneOutcome
