-- The rows that are put in: given values, defaults, domains, and what may be stored.
pub mod Defaults
pub mod Domains
pub mod Endings
pub mod Fitting
pub mod GivenRows
pub mod Storable
pub mod Stored
pub mod UpdatedRows
pub mod WholeRows
