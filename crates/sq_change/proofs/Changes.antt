-- The effects of INSERT, UPDATE and DELETE on the tables, and the rows that they change.
pub mod Applied
pub mod Chosen
pub mod Held
pub mod KeyedChange
pub mod Made
pub mod Performed
pub mod RowsChanged
