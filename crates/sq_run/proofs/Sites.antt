-- What the rules take is well formed in the sense of evaluation.
pub mod ColumnSites
pub mod CondLiterals
pub mod ConditionSites
pub mod ExprLiterals
pub mod ExpressionSites
pub mod QueryLiterals
pub mod QuerySites
pub mod SiteLaws
pub mod SortSites
pub mod StatementAnswers
pub mod ViewSites
pub mod ChecksRead
pub mod StarRules
pub mod Stars
pub mod NoParameters
pub mod NoNull
pub mod Rules
