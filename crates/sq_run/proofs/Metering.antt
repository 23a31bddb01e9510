-- How many rows a call reads.
pub mod KeyedTests
pub mod QuietSame
pub mod KeyedClauses
pub mod KeyedPlaced
pub mod KeyedReads
pub mod KeyedTables
pub mod KeyedTargets
pub mod QuietReads
pub mod QuietTargets
pub mod ReadCalls
pub mod KeyedCalls
pub mod KeyedFetches
pub mod KeyedSelects
pub mod Quiet
pub mod FetchReads
