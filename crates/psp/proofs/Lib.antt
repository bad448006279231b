-- Laws of listing into records: what the records hold, and that the count fits both.
pub mod Records
pub mod Listed
