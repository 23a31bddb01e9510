-- The constraints hold after a change, and testing only what it can have broken decides them.
pub mod Obeyed
pub mod OnRows
pub mod ReferencesKept
pub mod Referred
pub mod RowTests
