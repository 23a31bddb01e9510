-- The parts that INSERT, UPDATE and DELETE change: tables, columns, rows and the values that they get.
pub mod Bases
pub mod ChangedRows
pub mod Columns
pub mod Deletes
pub mod Inserts
pub mod Receivers
pub mod Sources
pub mod Targets
pub mod Updatables
