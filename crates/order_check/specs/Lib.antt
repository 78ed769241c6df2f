-- The clients' part of soundness, and the check of it.
pub mod Clients
pub mod Check
