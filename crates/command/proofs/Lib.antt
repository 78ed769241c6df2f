-- Laws of a command's bytes.
pub mod Reading
