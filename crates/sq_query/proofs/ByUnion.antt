-- The rows of a query expression, UNION by UNION.
pub mod Bringable
pub mod BroughtRows
pub mod JoinedTerms
pub mod QuerySizes
pub mod Repeats
pub mod Terms
pub mod UnionRows
pub mod Unions
