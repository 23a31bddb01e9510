pub mod Asked
pub mod Calls
pub mod Changes
pub mod Host
pub mod Kept
pub mod Outputs
pub mod Told
pub mod Unfit
