-- The views that CREATE VIEW makes: names, queries, and what their owners hold.
pub mod Quiet
pub mod ViewAlone
pub mod ViewFound
pub mod ViewHeld
pub mod ViewMade
pub mod ViewNames
pub mod ViewQueries
