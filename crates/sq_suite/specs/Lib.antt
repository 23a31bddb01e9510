pub mod Bytes
pub mod Edits
pub mod Folder
pub mod Glob
pub mod Lines
pub mod Outcome
