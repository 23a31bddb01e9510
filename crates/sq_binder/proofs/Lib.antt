pub mod OneByOne
pub mod Expressions
pub mod Clauses
pub mod WholeQueries
pub mod Changes
pub mod Statements
