-- Laws of a replay.
pub mod Tests
pub mod Totals
pub mod Stops
pub mod Replaying
