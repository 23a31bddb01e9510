pub mod Filtered
pub mod Rises
pub mod Search
pub mod Sound
pub mod Unique
pub mod Walk
