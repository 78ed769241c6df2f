-- Laws of the calls: the lent table that is not refused, the answers, and the words afterwards.
pub mod Lent
pub mod Answers
pub mod Calls
pub mod Changed
pub mod OneOutcome
