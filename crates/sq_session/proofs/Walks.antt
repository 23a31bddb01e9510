-- Walks over the rows of a table by rising numbers or by a key.
pub mod Assigned
pub mod KeyedWalk
pub mod Listing
pub mod NextNumber
pub mod QuietWalks
pub mod TableWalk
pub mod Unread
