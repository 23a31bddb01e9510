-- Parts that are bound one after another, and lists that are bound in turn.
pub mod Behind
pub mod Chains
pub mod ColumnLoops
pub mod ColumnsInTurn
pub mod EachHolds
pub mod Finds
pub mod InTurn
pub mod Parts
pub mod Positions
pub mod Steps
pub mod Turned
pub mod Turns
pub mod Twice
