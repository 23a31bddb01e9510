-- What GRANT adds.
pub mod Granting
pub mod Grants
