-- A call of a procedure: which statement it is, what it asks for, reads and ends with.
pub mod Asking
pub mod Changing
pub mod Ending
pub mod Failed
pub mod Found
pub mod Metering
pub mod Named
pub mod Read
pub mod Reading
pub mod Selected
