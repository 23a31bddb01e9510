-- What names mean in a catalog.
pub mod Entries
pub mod Known
pub mod Seen
pub mod UserNames
