pub mod Changed
pub mod Constraints
pub mod Given
pub mod Lost
pub mod Made
pub mod Performed
pub mod Reference
pub mod Statement
