-- Laws of the lists, and of the code's writes.
pub mod Lists
pub mod Strands
pub mod Pools
pub mod Few
pub mod Stays
