-- The code's command, beside what the rules say of its bytes.
pub mod Bytes
