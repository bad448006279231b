-- Laws of saved tables: the form of the file, its version, the tests of writing and reading in their order, the way back, request (iv) and now, one
-- outcome, worked files.
pub mod Form
pub mod Versions
pub mod Tests
pub mod Back
pub mod Keeps
pub mod Succeeds
pub mod Answers
pub mod Worked
