-- Laws of the items' part of the check.
pub mod Lists
pub mod WindowTurns
pub mod Means
