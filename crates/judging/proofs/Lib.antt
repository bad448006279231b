-- Laws of the first pass.
pub mod Judged
