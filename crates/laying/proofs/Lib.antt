-- Laws of what is laid into a buffer, and of the second pass.
pub mod Laid
pub mod Laying
