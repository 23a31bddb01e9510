pub mod Fault
pub mod OverWriter
