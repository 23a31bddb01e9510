-- Elements that are tested or made in turn, and steps one after another.
pub mod AllMet
pub mod AllSatisfied
pub mod Among
pub mod Gathered
pub mod InTurn
pub mod Outcomes
