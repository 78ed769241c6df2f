-- What the day record holds after a run.
pub mod Day
