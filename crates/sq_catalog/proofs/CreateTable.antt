-- The tables that CREATE TABLE makes: columns, keys, references and conditions.
pub mod Bases
pub mod ChecksMade
pub mod Columns
pub mod NotNull
pub mod References
pub mod ReferencesBound
pub mod TableNames
pub mod TablesMade
pub mod WrittenParts
pub mod WrittenRules
