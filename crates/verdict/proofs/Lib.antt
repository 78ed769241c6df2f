-- Laws of the verdict.
pub mod Together
pub mod Passed
pub mod Tests
