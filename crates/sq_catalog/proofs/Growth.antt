-- A catalog grows table by table and view by view, and what was known stays known.
pub mod Added
pub mod Building
pub mod Declared
pub mod Extending
pub mod Gains
pub mod GainsViews
pub mod StillKnown
pub mod Stored
