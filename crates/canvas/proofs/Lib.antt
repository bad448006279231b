-- Laws of placing: a block of rows, the corners that an axis and a canvas side share, the canvas's pixels, the clipped block, the tests, an accepted call, the answers, a plane that is placed again, and the pixels that it touches.
pub mod Block
pub mod Axes
pub mod Pixels
pub mod Clipped
pub mod PlaceTests
pub mod Placed
pub mod Answers
pub mod Twice
pub mod Touched
pub mod Called
