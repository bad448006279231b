-- Each kind of block, once its header has passed.
pub mod Headed
pub mod Blocks
pub mod Unread
