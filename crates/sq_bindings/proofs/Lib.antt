pub mod Added
pub mod Guards
pub mod Listed
pub mod Unused
