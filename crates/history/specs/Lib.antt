-- What a host may do with a slice of words after a lay-out: the plain history of it, its words, what sharing means, the day record, and the whiteboard's cases as calls.
pub mod Plain
pub mod Words
pub mod Sharing
pub mod Day
pub mod Cases
