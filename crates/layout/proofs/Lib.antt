-- Laws of lay-out and carve.
pub mod Laws
pub mod Calls
pub mod After
pub mod OneOutcome
