-- The kinds of block inside the bank, once a header has passed.
pub mod Layers
