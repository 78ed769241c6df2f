-- What the calls offered outside promise: functions of the lent words alone.
pub mod Lent
pub mod Questions
pub mod Calls
pub mod Runs
