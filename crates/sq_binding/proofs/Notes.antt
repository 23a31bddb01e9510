-- The notes on bound parts are true: statuses, columns further out, groups, numbers of subqueries, privileges.
pub mod ColumnNames
pub mod GroupsNoted
pub mod Noted
pub mod NotedParts
pub mod NotedQueries
pub mod Outward
pub mod PrivilegesFound
pub mod SubqueryNumbers
pub mod TestsNoted
