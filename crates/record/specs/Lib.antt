-- What comes of the commands of one block.
pub mod Fills
