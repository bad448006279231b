-- Laws that several proofs cite, and what reading promises.
pub mod Stream
pub mod FullPackets
pub mod PlaneTests
pub mod Promises
pub mod OneOutcome
