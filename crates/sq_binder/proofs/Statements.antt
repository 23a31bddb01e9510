-- Statements, and what the program relies on of what is bound.
pub mod IntoTargets
pub mod Promised
pub mod PromisedStatements
pub mod SelectRows
pub mod There
pub mod WholeStatements
