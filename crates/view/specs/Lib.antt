-- The views: their questions and refusals, the parts that they show, the facts that they give; the same at a place that is given.
pub mod NotShown
pub mod Asked
pub mod Whole
pub mod Zeros
pub mod Facts
pub mod Shown
pub mod Palette
pub mod Name
pub mod At
