-- The limits, by name.
pub mod Limits
