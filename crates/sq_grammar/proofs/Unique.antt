-- Two trees with one list of tokens are one.
pub mod OneCond
pub mod OneExpr
pub mod OneModule
pub mod OneName
pub mod OneQuery
pub mod OneSchema
pub mod OneScript
pub mod OneStatement
pub mod OneToken
pub mod OneTree
pub mod OneType
