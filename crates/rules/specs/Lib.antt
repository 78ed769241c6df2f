-- What the documents say, as definitions, in the order in which to read them.
pub mod History
pub mod Numbers
pub mod Rows
pub mod Tells
pub mod Spread
pub mod Picture
pub mod Steps
pub mod Commands
pub mod Run
pub mod Draw
pub mod Linked
pub mod Parts
pub mod Sound
pub mod Ready
pub mod Verdict
pub mod Cases
