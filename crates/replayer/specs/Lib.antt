-- What a replay reports.
pub mod Replays
