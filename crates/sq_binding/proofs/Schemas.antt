-- Schema texts are accepted exactly if the rules refuse nothing, and make the catalog of their elements.
pub mod Answers
pub mod BoundReferences
pub mod Catalogs
pub mod Constraints
pub mod Created
pub mod Granted
pub mod GrantedPrivileges
pub mod GrantsAdded
pub mod KnownTables
pub mod Made
pub mod Names
pub mod ReferencedKeys
pub mod References
pub mod Refused
pub mod Subsets
pub mod Tables
