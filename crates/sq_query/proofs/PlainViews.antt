-- What plain views show of the rows underneath, and of some of them.
pub mod AskedCells
pub mod AskedRows
pub mod AskedViews
pub mod Classes
pub mod FewRows
pub mod QuietExprs
pub mod SureRows
pub mod Thinned
pub mod ThroughViews
pub mod ViewItems
pub mod ViewPaths
pub mod ViewsThere
pub mod Wanted
