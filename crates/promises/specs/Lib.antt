-- The mission's three demands, over the definitions that the contracts of the library are stated by; and which field answer 8 names; what request (vii) adds; and what has no say,
-- request (xiv).
pub mod EveryInput
pub mod TableAndPlanes
pub mod MoreInput
pub mod WhichField
pub mod Masks
pub mod Spoiled
