-- The clients' lines, the listing, the run from where nobody waits, and the page: what the proofs of the functions cite; and that `print` has one outcome.
mod Clients
pub mod Listed
mod Session
mod Page
pub mod OneOutcome
