-- Laws that several proofs cite, and what packing promises.
pub mod Until
pub mod Places
pub mod Reach
pub mod Counted
pub mod Passing
pub mod Ahead
pub mod Packing
pub mod Bound
pub mod WayBack
pub mod Counts
pub mod Answers
