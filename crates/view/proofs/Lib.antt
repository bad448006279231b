-- Laws of the views: their ways, what they may decode, where a part lies, the rules that facts satisfy, that a view has one outcome; and
-- what stands at a place that is given.
pub mod Asked
pub mod Accepted
pub mod Place
pub mod Zero
pub mod Zeros
pub mod Here
pub mod Views
pub mod Rules
pub mod Given
