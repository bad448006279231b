-- The demands, shown; and that every listing's table can be saved.
pub mod EveryInput
pub mod TableAndPlanes
pub mod MoreInput
pub mod WhichField
pub mod Masks
pub mod EveryTable
pub mod Spoiled
