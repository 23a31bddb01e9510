-- A bound text breaks no rule at its sites.
pub mod Clean
pub mod CleanBound
pub mod CleanConds
pub mod CleanExprs
pub mod CleanQuery
pub mod CleanSelect
pub mod CleanUnion
pub mod ResultNames
