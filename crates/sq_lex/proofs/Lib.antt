pub mod FirstLetters
pub mod LiteralLemmas
pub mod Longest
mod Places
pub mod Quoted
mod ReadingLemmas
mod Rows
mod Runs
pub mod Spelled
pub mod SymbolLemmas
pub mod WordLemmas
