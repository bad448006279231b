-- Laws of the pencil: where it stands beside the walk of the listing, what a turn makes of that, that both listings agree, and what code that
-- makes the turns knows of its paper.
pub mod Stands
pub mod Turns
pub mod Agree
pub mod Follows
