-- A text is bound to the same text with its names placed.
pub mod MoreKnown
pub mod Placed
pub mod PlacedChange
pub mod PlacedCursor
pub mod PlacedInsert
pub mod PlacedParts
pub mod PlacedQuery
pub mod PlacedStatement
pub mod PlacedTargets
pub mod PlacedUnion
pub mod PlacedView
pub mod SameParameters
pub mod Unprivileged
