-- Laws of the waiting items, and of the functions' writes.
pub mod Items
pub mod Ends
pub mod Owner
pub mod Apart
pub mod Joined
pub mod Left
pub mod Read
pub mod Leaving
pub mod Few
pub mod Shown
pub mod Writes
