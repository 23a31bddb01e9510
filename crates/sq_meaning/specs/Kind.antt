-- The kind of an expression's values, known before it is evaluated: a scale, a length, or a greatest length (ISO/IEC
-- 9075:1992, 6.11 to 6.13, 7.9 and 7.10).
use Rattle.std.specs.Prelude.{ℕ, ◌+◌, ◌-◌, max, nat_le, if◌then◌else◌, List, [], ◌∷◌, length, Ok}
use Rattle.std.specs.List.{flat_map}
use Rattle.sq_value.specs.declared.domain.Kind.{Kind}
use Rattle.sq_value.specs.declared.domain.Kind.TheVariants.{Num, Chars, Vary}
use Rattle.sq_value.specs.declared.value.Value.{Value}
use Rattle.sq_value.specs.declared.value.Value.TheVariants as value
use Rattle.sq_tree.specs.declared.expr.TimesSign.{TimesSign}
use Rattle.sq_tree.specs.declared.expr.TimesSign.TheVariants.{Times, Over}
use Rattle.sq_tree.specs.declared.expr.SetFunction.{SetFunction}
use Rattle.sq_tree.specs.declared.expr.SetFunction.TheVariants.{Count, Sum, Avg, Min, Max}
use Rattle.sq_meaning.specs.Status.{Outcome, ◌>>=◌, each, not_well_formed}
use Rattle.sq_meaning.specs.Syntax.{Naming, Expr, literal, parameter, user, column, count_rows, set_function, signed, added, scaled, bracketed, SelectList, all_columns, expressions, Select, select, Query, specification, union}

-- the kinds of columns, if these tables are in the FROM clauses around, the nearest first; of parameters; and of all
-- columns of a table
pub record Kinds (N : Naming) : Type 0 where
  pub column : N.Column → List (List N.Table) → Outcome Kind
  pub parameter : N.Parameter → Outcome Kind
  pub columns : N.Table → Outcome (List Kind)

abbrev pub kind_of_value : Value → Outcome Kind
kind_of_value value.Null = not_well_formed
kind_of_value (value.Num n) = Ok (Num n.scale)
kind_of_value (value.Chars t) = Ok (Chars (length t))

-- a scale of at most 18 (own rule)
abbrev pub of_scale : ℕ → Outcome Kind
of_scale s = if nat_le s 18 then Ok (Num s) else not_well_formed

-- only a number has a sign
abbrev pub signed_kind : Kind → Outcome Kind
signed_kind (Num s) = Ok (Num s)
signed_kind _ = not_well_formed

-- the scale of a sum and of a difference is the greater one
abbrev pub sum_kind : Kind → Kind → Outcome Kind
sum_kind (Num s) (Num t) = Ok (Num (max s t))
sum_kind _ _ = not_well_formed

-- The scale of a product is the sum of both. A quotient has the greater one, and to compute it no more than 18 digits are
-- added to the dividend.
abbrev pub product_kind : TimesSign → Kind → Kind → Outcome Kind
product_kind Times (Num s) (Num t) = of_scale (s + t)
product_kind Over (Num s) (Num t) = of_scale (max s t + t - s) >>= λ _. Ok (Num (max s t))
product_kind sign _ _ = not_well_formed

abbrev pub function_kind : SetFunction → Kind → Outcome Kind
function_kind Count k = Ok (Num 0)
function_kind Sum k = signed_kind k
function_kind Avg k = signed_kind k
function_kind Min k = Ok k
function_kind Max k = Ok k

-- the kind of an expression in a query whose FROM clauses, from its own outward, have these tables
abbrev pub kind : {N : Naming} → Kinds N → List (List N.Table) → Expr N → Outcome Kind
kind k scopes (literal v) = kind_of_value v
kind k scopes (parameter p) = k.parameter p
kind k scopes user = Ok (Chars 18)
kind k scopes (column c) = k.column c scopes
kind k scopes count_rows = Ok (Num 0)
kind k scopes (set_function function distinct operand) = kind k scopes operand >>= function_kind function
kind k scopes (signed sign e) = kind k scopes e >>= signed_kind
kind k scopes (added sign a b) = kind k scopes a >>= λ x. kind k scopes b >>= sum_kind x
kind k scopes (scaled sign a b) = kind k scopes a >>= λ x. kind k scopes b >>= product_kind sign x
kind k scopes (bracketed e) = kind k scopes e

-- the kinds of a select list's columns
abbrev pub list_kinds : {N : Naming} → Kinds N → List (List N.Table) → List N.Table → SelectList N
    → Outcome (List Kind)
list_kinds k outer from all_columns = each k.columns from >>= λ tables. Ok (flat_map (λ kinds. kinds) tables)
list_kinds k outer from (expressions es) = each (kind k (from ∷ outer)) es

abbrev pub select_kinds : {N : Naming} → Kinds N → List (List N.Table) → Select N → Outcome (List Kind)
select_kinds k outer (select distinct list from filter by having) = list_kinds k outer from list

-- the kind of a column of UNION (7.10). Both are numbers, or both are texts, and are brought to the greater scale or
-- length; with a varying side it is varying (own rule)
abbrev pub common_kind : Kind → Kind → Outcome Kind
common_kind (Num s) (Num t) = Ok (Num (max s t))
common_kind (Chars m) (Chars n) = Ok (Chars (max m n))
common_kind (Chars m) (Vary n) = Ok (Vary (max m n))
common_kind (Vary m) (Chars n) = Ok (Vary (max m n))
common_kind (Vary m) (Vary n) = Ok (Vary (max m n))
common_kind _ _ = not_well_formed

-- both sides have as many columns
abbrev pub common_kinds : List Kind → List Kind → Outcome (List Kind)
common_kinds [] [] = Ok []
common_kinds (k ∷ ks) (l ∷ ls) = common_kind k l >>= λ first. common_kinds ks ls >>= λ rest. Ok (first ∷ rest)
common_kinds _ _ = not_well_formed

abbrev pub query_kinds : {N : Naming} → Kinds N → Query N → Outcome (List Kind)
query_kinds k (specification q) = select_kinds k [] q
query_kinds k (union all left right) = query_kinds k left >>= λ ls. query_kinds k right >>= common_kinds ls
