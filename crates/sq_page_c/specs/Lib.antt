pub mod Texts
pub mod Outcome
pub mod Shown
