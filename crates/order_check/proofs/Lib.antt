-- Laws of the check of the clients.
pub mod Groups
pub mod Turns
pub mod Counted
pub mod Present
pub mod Means
