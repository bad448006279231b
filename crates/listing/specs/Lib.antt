-- The listing: the walk behind a good file header, what a view asks of it, what the code leaves; and what holds of every listing.
pub mod Question
pub mod Listing
pub mod Walks
pub mod Right
