-- Laws of plain blocks: what the rule says where one stands, and what is stored block by block.
pub mod Stored
pub mod EnteredStep
pub mod SkipStep
pub mod ChannelStep
pub mod LayerStep
