-- The tokens that spell a tree are read as it, or a bracket too many is refused.
pub mod CondTakes
pub mod DataTypeTakes
pub mod ExprTakes
pub mod ModuleTakes
pub mod NamesTakes
pub mod QueryTakes
pub mod Refused
pub mod SchemaTakes
pub mod ScriptTakes
pub mod SelectTakes
pub mod StatementTakes
pub mod TableTakes
pub mod TailTakes
pub mod Takes
pub mod TextTakes
