-- What the exported functions promise: one outcome of each, an entry asked for beside a table, clipping in any order, and saved tables. Each is
-- stated over what the kit reads of an export's own clauses, so that a weaker clause breaks it.
pub mod Outcomes
pub mod Checked
pub mod Clipping
pub mod Kept
