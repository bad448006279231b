-- Numbers of so many bytes.
pub mod Number
