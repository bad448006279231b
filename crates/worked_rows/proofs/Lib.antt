-- The rows that document 01 marks to be proved.
pub mod Proved
