-- Queries over one table that may be changed: which are updatable, and what is bound alike over scopes of one table.
pub mod Alike
pub mod AlikeConds
pub mod AlikeParts
pub mod CursorKnown
pub mod LeafScopes
pub mod PlainRows
pub mod ShownColumns
pub mod UpdatableRule
pub mod UpdatableSame
