-- Kinds of declarations.
use Rattle.std.specs.Prelude.{Bool, true, false}
use Rattle.sq_tree.specs.declared.module.Declaration.{Declaration}
use Rattle.sq_tree.specs.declared.module.Declaration.TheVariants.{Parameter, Sqlcode, Sqlstate}

abbrev pub is_sqlstate : Declaration → Bool
is_sqlstate (Parameter name data_type) = false
is_sqlstate Sqlcode = false
is_sqlstate Sqlstate = true

abbrev pub is_sqlcode : Declaration → Bool
is_sqlcode (Parameter name data_type) = false
is_sqlcode Sqlcode = true
is_sqlcode Sqlstate = false
