-- What the parts of lay-out and of carve cite; their promises are in crate rules (specs/Verdict.antt).
pub mod Laid
pub mod Carve
