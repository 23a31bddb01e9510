-- The parameters of a procedure, and how its statement uses them (ISO/IEC 9075:1992, 6.2, 12.3, 13.3 and 13.5).
use Rattle.std.specs.Prelude.{ℕ, ◌*◌, ◌+◌, ◌-◌, Bool, true, false, ◌||◌, List, ◌∷◌, Option, Some, None, fold, min, nat_eq}
use Rattle.std.specs.List.{list_any}
use Rattle.std.specs.Option.{option_map_or}
use Rattle.std.specs.Cmp.Lexicographic.{pointwise}
use Rattle.sq_lex.specs.declared.name.Name.{Name}
use Rattle.sq_tree.specs.Tree.{Tokens, optional}
use Rattle.sq_tree.specs.Cond.{select_list_tokens, table_expression_tokens}
use Rattle.sq_tree.specs.Statement.{fetch_from_tokens}
use Rattle.sq_tree.specs.declared.data_type.DataType.{DataType}
use Rattle.sq_tree.specs.declared.data_type.DataType.TheVariants.{Smallint, Integer, Int, Exact, Character, Varying}
use Rattle.sq_tree.specs.declared.data_type.ExactWord.{ExactWord}
use Rattle.sq_tree.specs.declared.data_type.ExactWord.TheVariants as word
use Rattle.sq_tree.specs.declared.data_type.Precision.{Precision}
use Rattle.sq_tree.specs.declared.list.CommaList.{CommaList}
use Rattle.sq_tree.specs.declared.names.Parameter.{Parameter}
use Rattle.sq_tree.specs.declared.names.Indicator.{Indicator}
use Rattle.sq_tree.specs.declared.statement.Statement.{Statement}
use Rattle.sq_tree.specs.declared.statement.Statement.TheVariants as statement
use Rattle.sq_bindings.specs.declared.parameter.Kind.{Kind}
use Rattle.sq_bindings.specs.declared.parameter.Kind.TheVariants as kind
use Rattle.sq_bindings.specs.declared.parameter.Role.{Role}
use Rattle.sq_bindings.specs.declared.parameter.Role.TheVariants.{Reads, Sets, Both}
use Rattle.sq_bindings.specs.Mention.{mentions}

-- one more digit, up to 255
abbrev pub with_digit : ℕ → ℕ → ℕ
with_digit value code = min (min (value * 10) 255 + (code - 48)) 255

-- the number that digits say, up to 255; a module with a greater one is refused
abbrev pub number_of : List ℕ → ℕ
number_of codes = fold with_digit 0 codes

-- a scale is 0 if it is omitted
abbrev pub scale_of : Precision → ℕ
scale_of p = option_map_or number_of p.scale 0

abbrev pub exact : ExactWord → ℕ → ℕ → Kind
exact word.Numeric digits scale = kind.Numeric digits scale
exact word.Decimal digits scale = kind.Decimal digits scale
exact word.Dec digits scale = kind.Decimal digits scale

-- a precision is 18 if it is omitted, a length of characters 1
abbrev pub kind_of : DataType → Kind
kind_of Smallint = kind.Small
kind_of Integer = kind.Integer
kind_of Int = kind.Integer
kind_of (Exact name None) = exact name 18 0
kind_of (Exact name (Some p)) = exact name (number_of p.precision) (scale_of p)
kind_of (Character name None) = kind.Fixed 1
kind_of (Character name (Some length)) = kind.Fixed (number_of length)
kind_of (Varying name length) = kind.Varying (number_of length)

abbrev pub same : Name → Name → Bool
same a b = pointwise nat_eq a b

-- A target or its indicator has this name.
abbrev pub names : Name → Parameter → Bool
names name p = same p.name name || option_map_or (λ (i : Indicator). same i.name name) p.indicator false

abbrev pub is_target : Name → CommaList Parameter → Bool
is_target name targets = names name targets.first || list_any (names name) targets.rest

abbrev pub role_of : Bool → Bool → Role
role_of false is_read = Reads
role_of true false = Sets
role_of true true = Both

-- how a statement uses the parameter of this name
abbrev pub role_in : Statement → Name → Role
role_in (statement.Fetch f) name = role_of (is_target name f.targets)
    (mentions name (optional fetch_from_tokens f.from))
role_in (statement.Select s) name = role_of (is_target name s.targets)
    (mentions name (select_list_tokens s.list) || mentions name (table_expression_tokens s.table))
role_in other name = Reads
