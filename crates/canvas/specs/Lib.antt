-- A plane on a canvas: its pixels, its rows, the answers of placing, and the pixels that it touches.
pub mod Placing
pub mod Blocks
pub mod Touching
