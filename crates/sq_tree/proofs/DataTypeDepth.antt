-- Data types: the depth of each tree, from the depth of its parts.
use Rattle.std.specs.Prelude.{ℕ, Option, Some, None}
use Rattle.sq_tree.specs.declared.data_type.DataType.{DataType}
use Rattle.sq_tree.specs.declared.data_type.DataType.TheVariants.{Exact, Character, Varying}

-- 1 where a part in brackets is written
abbrev pub bracket_depth : {A : Type 0} → Option A → ℕ
bracket_depth None = 0
bracket_depth (Some x) = 1

abbrev pub data_type_depth : DataType → ℕ
data_type_depth (Exact name precision) = bracket_depth precision
data_type_depth (Character name length) = bracket_depth length
data_type_depth (Varying name length) = 1
data_type_depth _ = 0
