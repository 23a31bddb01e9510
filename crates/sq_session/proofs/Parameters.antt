-- The values with which parameters start, and the targets that are set.
pub mod Fitting
pub mod Outputs
pub mod Started
pub mod Taken
pub mod Targets
