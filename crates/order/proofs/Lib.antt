-- Laws of the order of clients.
pub mod Joined
pub mod Sorted
pub mod Ends
pub mod Grouped
pub mod Bridge
pub mod Moved
pub mod Coming
pub mod Going
pub mod Writes
pub mod Moving
pub mod Counts
pub mod Together
pub mod Few
