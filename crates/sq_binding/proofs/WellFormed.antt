-- Cursors, statements, views and conditions of CHECK that are bound are well formed, and are those that are written.
pub mod Checks
pub mod Cursors
pub mod Inserts
pub mod Joined
pub mod Named
pub mod NewValues
pub mod NotNull
pub mod OnRows
pub mod Outputs
pub mod Over
pub mod PlainText
pub mod Rows
pub mod Shown
pub mod Statements
pub mod Updates
pub mod Views
