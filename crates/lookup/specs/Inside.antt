-- What the promise is made of: which clients stand in which chains and the steps on them, what the loops read, and laws of both.
pub mod Filed
pub mod Reading
pub mod Buckets
pub mod Filing
pub mod Drawing
