-- Laws of the recorder.
pub mod Laid
pub mod Calls
pub mod OneOutcome
pub mod Evening
