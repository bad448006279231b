-- What listing into records leaves, and the library's version.
pub mod Recorded
pub mod Version
