pub mod Expected
pub mod Line
pub mod Named
pub mod Passed
