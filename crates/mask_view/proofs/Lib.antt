-- Laws of these views: what was found is right and lies inside the input, facts satisfy the rules, a view has one outcome; and what stands at
-- a place that is given.
pub mod Found
pub mod Views
pub mod Given
