-- The saved form of a table: its versions, the file, what writing and reading leave, what holds between the two, and between them and those of version 1 alone.
pub mod Version
pub mod Saved
pub mod Kept
pub mod Earlier
