-- Value expressions: literals, operations and kinds, and what the definitions see of them.
pub mod Images
pub mod ItemNames
pub mod KindLaws
pub mod Literals
pub mod NewValues
pub mod Operations
pub mod Sums
pub mod Trees
