-- The tree that a rule has read is spelled by the tokens that it took, and is no deeper than it may be.
pub mod CondSound
pub mod DataTypeSound
pub mod ExprSound
pub mod ModuleSound
pub mod NamesSound
pub mod QuerySound
pub mod SchemaSound
pub mod ScriptSound
pub mod SelectSound
pub mod Spells
pub mod StatementSound
