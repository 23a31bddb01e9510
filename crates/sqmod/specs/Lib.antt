pub mod Bind
pub mod Fault
pub mod Judged
pub mod Request
