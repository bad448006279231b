-- The headers of a file and of a block, the kinds of blocks, and where the first block stands.
pub mod FileHeader
pub mod BlockHeader
pub mod Kind
pub mod Places
