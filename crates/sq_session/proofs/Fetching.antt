-- FETCH: the row that a cursor comes to, and what it shows.
pub mod Coming
pub mod Fetched
pub mod Reached
pub mod Shown
