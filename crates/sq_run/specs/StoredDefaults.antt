-- The default of each column can be stored in it (ISO/IEC 9075:1992, 11.5 and 13.8): an INSERT that leaves columns out ends with no
-- status because of their defaults.
use Rattle.std.specs.List.{AllByRecursion}
use Rattle.std.specs.Prelude.{◌≡◌, ⊤, true, is_ok, None}
use Rattle.sq_tree.specs.declared.schema.SchemaElement.{SchemaElement}
use Rattle.sq_tree.specs.declared.schema.SchemaElement.TheVariants as element
use Rattle.sq_meaning.specs.Change.{Setting, value_or_default}
use Rattle.sq_meaning.specs.Schema.{Elements, column_definitions}

-- in each column of a table a row that has no value for it gets one
abbrev pub StoresDefaults : Setting → SchemaElement → Type 0
StoresDefaults s (element.Table t) =
    AllByRecursion (λ c. is_ok (value_or_default s c None) ≡ true) (column_definitions t)
StoresDefaults s _ = ⊤

-- so it is in each declared table, whoever calls
abbrev pub DefaultsAreStored : Elements → Type 0
DefaultsAreStored elements = (s : Setting) → AllByRecursion (λ e. StoresDefaults s e.element) elements
