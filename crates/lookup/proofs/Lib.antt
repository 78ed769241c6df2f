-- What the proofs of the lookup share. No other crate can name it.
mod Chains
mod Walks
mod Ids
mod Writers
mod Rooms
mod Checking
mod Paths
mod Quick
