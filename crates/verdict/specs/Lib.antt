-- What the header's part of the check tells.
pub mod Zeros
