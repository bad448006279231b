-- What one look owes the walk, and the analysis of a step behind it.
pub mod Edges
pub mod Passed
pub mod Stepped
pub mod Read
pub mod Owed
pub mod OneOutcome
