pub mod Comparison
pub mod Pattern
pub mod SetFunctions
