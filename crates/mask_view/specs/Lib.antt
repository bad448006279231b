-- Views of the selection and of alpha channels, and the same at a place that is given.
pub mod Sought
pub mod Facts
pub mod Name
pub mod At
