-- Query specifications and search conditions, clause by clause.
pub mod AllColumns
pub mod Conditions
pub mod FromClauses
pub mod FromItems
pub mod Inside
pub mod Predicates
pub mod Scopes
pub mod SelectLists
pub mod Specifications
pub mod Specified
pub mod Subqueries
