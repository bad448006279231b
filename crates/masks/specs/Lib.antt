-- Selections, alpha banks and alpha channels, once a header has passed.
pub mod Masks
