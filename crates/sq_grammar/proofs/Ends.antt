-- The end of a rule: the tokens that may not follow it, and the places where reading stops.
pub mod Behind
pub mod Follows
pub mod Stops
