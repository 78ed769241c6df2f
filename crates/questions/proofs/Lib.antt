-- Laws of the questions. The layers above name `Kept` alone: what the lookup asks of a ready table, and what it finds there.
pub mod Kept
mod Ends
mod Walk
mod Order
mod Listings
mod Own
mod Tell
