pub mod Sound
pub mod Taken
pub mod Unique
pub mod Ends
pub mod Reading
