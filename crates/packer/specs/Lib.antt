-- The packed form, what the packer answers and leaves, the packets one after another, and the counts of a stream.
pub mod Packing
pub mod Pieces
pub mod Counts
