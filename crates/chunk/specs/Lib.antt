-- The chunks of palettes, layers, channels, selections, alpha banks and alpha channels, the size of each with its header, and the rules of
-- chunks by name.
pub mod Area
pub mod Mask
pub mod ColorPalette
pub mod LayerInformation
pub mod ChannelInformation
pub mod SelectionInformation
pub mod AlphaBankInformation
pub mod AlphaInformation
pub mod Heads
pub mod Rules
