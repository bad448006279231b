-- The reply in numbers; what is asked and replied is crate pencil's.
pub mod Told
