-- The rows that a target means, and how they are found.
pub mod Chosen
pub mod ChosenNumbers
pub mod KnownConditions
pub mod Levels
pub mod NumbersThere
pub mod QuietTargets
pub mod TargetKeys
pub mod TargetRows
pub mod TargetSearch
pub mod WalkedRows
