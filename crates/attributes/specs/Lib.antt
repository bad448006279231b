-- The general image attributes: faults, depths, resolutions, the chunk, and its rules by name.
pub mod Fault
pub mod Depth
pub mod Resolution
pub mod ImageAttributes
pub mod Rules
