-- Answers by name, and on paper.
pub mod Answers
