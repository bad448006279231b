-- Laws about layers and channels.
pub mod Read
