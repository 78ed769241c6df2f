-- What the order layer does to the regions of a table, and what its functions ask.
pub mod Moves
pub mod Asks
