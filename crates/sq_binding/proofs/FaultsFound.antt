-- The fault that is answered is one that the rules find at a site of the text.
pub mod CondFaults
mod Examples
pub mod Faults
pub mod FoundKinds
pub mod FromFaults
pub mod Judged
pub mod Known
pub mod PredicateFaults
pub mod QueryFaults
pub mod SelectFaults
pub mod Sites
pub mod UnionFaults
