pub mod Alike
pub mod Listing
pub mod Near
