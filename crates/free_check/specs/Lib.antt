-- What the check of a chain of free rows tells, and what any walk of the soundness check that counts down does.
pub mod Listed
pub mod Free
