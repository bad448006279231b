-- What a place says of its block.
pub mod Parents
pub mod Placed
