-- Steps and lists that are made one after the other.
pub mod Distinct
pub mod Found
pub mod Listed
pub mod NamesAdded
pub mod Pushed
pub mod Turns
pub mod Twice
pub mod Zips
