pub mod Alike
pub mod Joined
pub mod Steps
