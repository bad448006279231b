-- What the rules remember, and what they know of a place by it.
pub mod Codes
pub mod Parent
pub mod State
pub mod Place
