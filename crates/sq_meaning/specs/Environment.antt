-- The environment in which expressions are evaluated (ISO/IEC 9075:1992, 5.4, 6.3 and 6.4): scopes of items of FROM,
-- the nearest first, the parameters of the call, and the user. A column reference means the nearest scope in which
-- an item fits.
use Rattle.std.specs.Prelude.{ℕ, zero, suc, Bool, true, false, if◌then◌else◌, ◌&&◌, nat_eq, List, [], ◌∷◌, map, pos, int_lt, find, position, slice_get, Option, Some, None, Ok}
use Rattle.std.specs.List.{filter_map, enumerate_from}
use Rattle.std.specs.Option.{option_map, option_and_then}
use Rattle.std.specs.Cmp.Lexicographic.{pointwise}
use Rattle.sq_lex.specs.declared.name.Name.{Name}
use Rattle.sq_value.specs.declared.value.Value.{Value}
use Rattle.sq_value.specs.declared.value.Value.TheVariants.{Null, Num, Chars}
use Rattle.sq_tree.specs.declared.names.TableName.{TableName as SpelledTable}
use Rattle.sq_tree.specs.declared.names.ColumnReference.{ColumnReference}
use Rattle.sq_tree.specs.declared.names.Parameter.{Parameter}
use Rattle.sq_meaning.specs.Status.{Outcome, ◌>>=◌, well_formed, not_well_formed}

-- ---- names

abbrev pub same_name : Name → Name → Bool
same_name = pointwise nat_eq

-- a table or view: a schema is named by its user
pub record TableName : Type 0 where
  pub user : Name
  pub name : Name

abbrev pub same_table : TableName → TableName → Bool
same_table s t = same_name s.user t.user && same_name s.name t.name

-- a table as FROM refers to it (6.3)
pub record TableReference : Type 0 where
  pub table : TableName
  pub correlation : Option Name

-- an item of FROM: its name, and the names of its columns
pub record Item : Type 0 where
  pub reference : TableReference
  pub columns : List Name

-- ---- scopes and environments

abbrev pub Row : Type 0
Row = List Value

-- a row of each item of FROM
abbrev pub Line : Type 0
Line = List Row

-- a parameter of the call
pub record Input : Type 0 where
  pub name : Name
  pub value : Value

-- The items of a FROM with a row of each. After grouping these rows are the first of a group, and the set functions
-- read the group. (Of a group without rows there is no first.)
pub record Scope (H : Type 0) : Type 0 where
  pub items : List H
  pub line : Line
  pub group : List Line

pub record Env (H : Type 0) : Type 0 where
  pub scopes : List (Scope H)
  pub inputs : List Input
  pub user : Name

-- the environment within a scope
abbrev pub within : {H : Type 0} → Scope H → Env H → Env H
within scope env = record env { scopes = scope ∷ env.scopes }

-- a line alone, without a group
abbrev pub alone : {H : Type 0} → List H → Line → Scope H
alone items line = record { items = items; line = line; group = [] }

-- outside every query
abbrev pub outermost : {H : Type 0} → List Input → Name → Env H
outermost inputs user = record { scopes = []; inputs = inputs; user = user }

-- ---- parameters (6.2)

abbrev pub is_below_zero : Value → Bool
is_below_zero Null = false
is_below_zero (Num n) = int_lt n.unscaled (pos 0)
is_below_zero (Chars t) = false

-- null if the indicator parameter is below zero
abbrev pub with_indicator : {I : Type 0} → (I → Outcome Value) → Option I → Value → Outcome Value
with_indicator read None v = Ok v
with_indicator read (Some i) v = read i >>= λ w. Ok (if is_below_zero w then Null else v)

abbrev pub input_named : List Input → Name → Outcome Value
input_named inputs name = well_formed (option_map (λ i. i.value) (find (λ i. same_name i.name name) inputs))

-- a parameter by its name
abbrev pub input_value : Parameter → List Input → Outcome Value
input_value p inputs =
    input_named inputs p.name >>= with_indicator (λ i. input_named inputs i.name) p.indicator

-- ---- the meaning of a column reference

-- how many scopes further out, which item there, and which column of it, each from 0
pub record Place : Type 0 where
  pub depth : ℕ
  pub item : ℕ
  pub column : ℕ

abbrev pub is_of_user : Option Name → Name → Bool
is_of_user None user = true
is_of_user (Some schema) user = same_name schema user

abbrev pub is_unqualified : Option Name → Bool
is_unqualified None = true
is_unqualified (Some schema) = false

-- a qualifier is the item's correlation name or, if it has none, its table's name, with or without the user
abbrev pub names_reference : SpelledTable → Option Name → TableName → Bool
names_reference q (Some correlation) table = is_unqualified q.schema && same_name q.table correlation
names_reference q None table = is_of_user q.schema table.user && same_name q.table table.name

abbrev pub names_item : Option SpelledTable → Item → Bool
names_item None item = true
names_item (Some q) item = names_reference q item.reference.correlation item.reference.table

abbrev pub column_named : Name → List Name → Option ℕ
column_named name columns = position (λ n. same_name n name) columns

-- an item fits a reference if its qualifier names the item, and the item has the column
abbrev pub column_in : ColumnReference → Item → Option ℕ
column_in r item = if names_item r.qualifier item then column_named r.column item.columns else None

-- the items of a scope that fit, each with the column
abbrev pub fitting : ColumnReference → List Item → List (ℕ × ℕ)
fitting r items =
    filter_map (λ i. option_map (λ column. (i.0, column)) (column_in r i.1)) (enumerate_from 0 items)

abbrev pub nearest : List (ℕ × ℕ) → Outcome Place → Outcome Place
nearest [] further = further >>= λ p. Ok (record p { depth = suc p.depth })
nearest (at ∷ others) further = Ok (record { depth = zero; item = at.0; column = at.1 })

-- the place of a column by its name, if these items are in scope
abbrev pub place_of : ColumnReference → List (List Item) → Outcome Place
place_of r [] = not_well_formed
place_of r (items ∷ outer) = nearest (fitting r items) (place_of r outer)

-- the items in scope
abbrev pub items_in : {H : Type 0} → Env H → List (List H)
items_in env = map (λ scope. scope.items) env.scopes

-- the value at a place
abbrev pub value_at : {H : Type 0} → Env H → Place → Outcome Value
value_at env p = well_formed
    (option_and_then (λ scope. option_and_then
    (λ row. slice_get row p.column) (slice_get scope.line p.item)) (slice_get env.scopes p.depth))
