-- Findings in a query that are made exactly if they are asked of one of its sites.
pub mod ColumnsSeen
pub mod Outermost
pub mod Privileges
pub mod RowsSeen
pub mod Seen
pub mod SeenConds
pub mod Subqueries
pub mod UserFound
