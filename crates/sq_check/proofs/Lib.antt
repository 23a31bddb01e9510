pub mod Columns
pub mod Complete
pub mod Cursors
pub mod Modules
pub mod Places
pub mod Sole
pub mod Walk
