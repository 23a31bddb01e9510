pub mod Says
pub mod Showing
