pub mod FilledKeys
pub mod Keys
pub mod Targets
pub mod PlainViews
pub mod Needs
pub mod ByUnion
pub mod Sorted
