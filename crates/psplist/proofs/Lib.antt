-- One outcome of the program's listing.
pub mod OneOutcome
