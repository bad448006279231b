-- Laws about the kinds of block.
pub mod Judging
pub mod Read
