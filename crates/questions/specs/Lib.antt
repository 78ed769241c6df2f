-- The row of a client, what a listing reads, and the output after it.
pub mod Row
pub mod Walk
pub mod Output
