-- Laws of answers by name.
pub mod Names
pub mod OneOutcome
