-- How the code reads: items again and again, and words by their ranks.
pub mod Many
pub mod Ranks
