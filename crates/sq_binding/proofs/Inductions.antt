-- Inductions over parts that are bound one after the other, and over each expression, condition and query, case by case.
pub mod AnyDepth
pub mod BoundCases
pub mod Cases
pub mod EachPart
pub mod Lists
pub mod Parts
pub mod Pieces
pub mod QueryCases
pub mod Steps
pub mod Turns
