-- Laws of chunks: the field that is named, and what a chunk without a bad field satisfies.
pub mod Order
pub mod Rules
pub mod OneOutcome
pub mod BehindName
