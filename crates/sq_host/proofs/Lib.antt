mod Opened
pub mod Places
mod Rows
pub mod Values
pub mod Telling
