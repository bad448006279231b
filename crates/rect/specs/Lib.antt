-- Rectangles: their rules, their rows and planes, the pixels that two share, and clipping in any order.
pub mod Rect
pub mod Rows
pub mod Shared
pub mod Clipping
