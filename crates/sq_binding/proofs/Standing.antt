-- A bound tree is well formed at the levels of its scopes, and means the same as the part of it that the definitions see.
pub mod BoundLaws
pub mod CondsStand
pub mod ExprsStand
pub mod Levels
pub mod QueriesStand
pub mod SeenExprs
pub mod SeenLevels
pub mod SeenNotes
pub mod SeenNumbers
pub mod SeenQueries
pub mod SeenTrees
pub mod SelectsStand
