-- Laws of the steps.
pub mod Others
pub mod Clients
pub mod Joining
pub mod Leaving
pub mod Choices
pub mod Reading
pub mod Still
pub mod Few
