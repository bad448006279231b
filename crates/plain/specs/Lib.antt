-- Plain blocks: where a walk may pass blocks without a look, and what is owed where it does: the looks it has left out would have led along this
-- course.
pub mod Standing
pub mod Skips
pub mod Channels
pub mod Layer
