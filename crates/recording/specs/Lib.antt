-- Document 02's recordings: the numbers of the format, the bytes that it has for commands, the tests of its blocks, and what a replay carries out.
pub mod Kind
pub mod Block
pub mod Replay
pub mod Cases
