pub mod Modules
pub mod Remark
pub mod Rule
pub mod Schemas
