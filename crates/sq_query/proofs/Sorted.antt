-- The order of rows.
pub mod Sorting
pub mod StableSort
