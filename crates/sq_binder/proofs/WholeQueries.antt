-- Query expressions, and the cursors over them.
pub mod Commons
pub mod CursorTrees
pub mod Orders
pub mod Queries
pub mod Unions
