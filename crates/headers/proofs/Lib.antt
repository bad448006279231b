-- Laws of headers: a header is signed exactly where its bytes are the signature, kinds and ids determine one another, and each decoding and test
-- has one outcome.
pub mod Signature
pub mod OneOutcome
pub mod Ids
