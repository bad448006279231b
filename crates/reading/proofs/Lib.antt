-- What the readers answer and leave.
pub mod Answers
