pub mod Fit
pub mod Left
