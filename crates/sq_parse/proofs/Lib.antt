pub mod Cut
pub mod NoTree
pub mod Parsed
