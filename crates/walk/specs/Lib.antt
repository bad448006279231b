-- A walk of nested blocks by any rules: what it lists, what the rules owe it, and what follows.
pub mod Walk
pub mod Room
pub mod Unit
pub mod Parents
pub mod Owed
pub mod Promised
pub mod Course
pub mod Invariant
