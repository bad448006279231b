-- One look at one place: the order of tests, and what is known before a header is read.
pub mod Step
pub mod Edge
