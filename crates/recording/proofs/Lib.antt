-- Laws of recordings: the check and what it notices, the bytes that are written, and a replay piece by piece.
pub mod Noticed
pub mod Sum
pub mod Torn
pub mod Written
pub mod Pieces
pub mod Blocks
pub mod Altered
pub mod Cases
