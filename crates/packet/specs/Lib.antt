-- What packets mean, and what reading them answers and leaves.
pub mod Stream
pub mod FullPackets
pub mod Reading
pub mod Standing
