pub mod Runs
pub mod Kinds
pub mod Texts
pub mod Symbols
pub mod Pieces
pub mod Ruled
pub mod RowsRead
