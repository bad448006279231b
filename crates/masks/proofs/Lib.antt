-- Laws about selections and alpha channels.
pub mod Read
