-- Laws of numbers in bytes: by width, by sign, by the bits of a double; of lists that begin alike, of bytes written over others, and of the
-- greatest byte first.
pub mod Width
pub mod Signed
pub mod Double
pub mod Front
pub mod Bytes
pub mod Turned
pub mod OneOutcome
