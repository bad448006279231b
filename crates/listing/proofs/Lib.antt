-- Laws of the listing: what is asked of it, what its one walk leaves, also where it passes plain blocks, and what holds of every listing.
pub mod Noted
pub mod Heads
pub mod WalkOutcome
pub mod PassedOn
pub mod Numbers
pub mod Tiled
pub mod Prefix
pub mod Blind
pub mod OneOutcome
pub mod CodesRemembered
pub mod Holding
pub mod StateMeaning
pub mod RightEntries
