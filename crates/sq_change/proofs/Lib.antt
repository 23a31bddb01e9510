pub mod OneByOne
pub mod NewRows
pub mod Changes
pub mod Keys
pub mod Constraints
