-- Laws of the image attributes: counts against a depth; the earliest bad field of any rule, and that it is the one to name; what an image chunk without one satisfies;
-- the value of a resolution and its dots per centimetre.
pub mod Counts
pub mod Earliest
pub mod Named
pub mod Order
pub mod Rules
pub mod Value
pub mod Density
pub mod Worked
pub mod OneOutcome
