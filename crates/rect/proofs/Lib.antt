-- Laws of rectangles: the order of coordinates, signed values that the code moves, the corners of an axis and their distance, the tests, rows and planes, the forms of a row, pixels, and clipping in any order.
pub mod Order
pub mod Moved
pub mod Axis
pub mod Tests
pub mod Rows
pub mod Forms
pub mod Pixels
pub mod Corners
pub mod Clipping
pub mod Groups
pub mod Clips
pub mod OneOutcome
