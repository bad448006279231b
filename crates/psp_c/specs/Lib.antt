-- What calls of the exported functions have to do with one another: an entry asked for beside a table.
pub mod Checked
