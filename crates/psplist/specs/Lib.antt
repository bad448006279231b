-- What the listing program lists of an input.
pub mod Program
