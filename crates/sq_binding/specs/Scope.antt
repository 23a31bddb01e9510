-- The meaning of a column reference among the FROM items of the queries around (ISO/IEC 9075:1992, 6.3, 6.4 and 7.9).
use Rattle.std.specs.Prelude.{ℕ, zero, suc, Bool, true, false, ◌&&◌, ◌==◌, List, [], ◌∷◌, map, slice_get, Option, Some, None, Ok, Err}
use Rattle.std.specs.List.{list_any}
use Rattle.std.specs.Option.{option_map, option_and_then}
use Rattle.sq_lex.specs.declared.name.Name.{Name}
use Rattle.sq_value.specs.declared.domain.Kind.{Kind}
use Rattle.sq_tree.specs.declared.names.ColumnReference.{ColumnReference}
use Rattle.sq_meaning.specs.Environment.{Item, Place, TableReference, fitting}
use Rattle.sq_meaning.specs.declared.fault.BindingFault.TheVariants as fault
use Rattle.sq_binding.specs.Outcome.{Outcome, ◌>>=◌, or_fault}

-- a column of an item: its name, its position in the rows that are read, and its kind
pub record ItemColumn : Type 0 where
  pub name : Name
  pub position : ℕ
  pub kind : Kind

pub record FromItem : Type 0 where
  pub reference : TableReference
  pub columns : List ItemColumn

-- The items of a FROM clause. If other columns may not occur outside set functions, the places of the grouping columns, too.
pub record Scope : Type 0 where
  pub items : List FromItem
  pub grouping : Option (List Place)

-- an item by its name and its columns
abbrev pub item_named : FromItem → Item
item_named item = record { reference = item.reference; columns = map (λ c. c.name) item.columns }

-- the items and columns of a scope that a reference fits, by their numbers
abbrev pub fits : ColumnReference → Scope → List (ℕ × ℕ)
fits r scope = fitting r (map item_named scope.items)

abbrev pub column_numbered : Scope → ℕ × ℕ → Option ItemColumn
column_numbered scope at = option_and_then (λ item. slice_get item.columns at.1) (slice_get scope.items at.0)

-- a column of the query itself
abbrev pub is_here : (item column : ℕ) → Place → Bool
is_here item column p = p.depth == 0 && p.item == item && p.column == column

-- a grouping column, or one that need not be one
abbrev pub is_grouped : Option (List Place) → (item column : ℕ) → Bool
is_grouped None item column = true
is_grouped (Some places) item column = list_any (is_here item column) places

-- A column that a reference means: the number of queries further out, the item there, and the column of it. Then whether it
-- may occur outside set functions, and whether no query is around its own.
pub record FoundColumn : Type 0 where
  pub depth : ℕ
  pub item : ℕ
  pub column : ItemColumn
  pub is_grouped : Bool
  pub is_outermost : Bool

abbrev pub found_in : Scope → (is_outermost : Bool) → ℕ × ℕ → ItemColumn → FoundColumn
found_in scope outermost at column = record {
  depth = zero;
  item = at.0;
  column = column;
  is_grouped = is_grouped scope.grouping at.0 column.position;
  is_outermost = outermost;
}

abbrev pub further_out : FoundColumn → FoundColumn
further_out found = record found { depth = suc found.depth }

-- the only column that fits in the nearest scope in which one does
abbrev pub nearest : Scope → (is_outermost : Bool) → List (ℕ × ℕ) → Outcome FoundColumn → Outcome FoundColumn
nearest scope outermost [] further = further >>= λ found. Ok (further_out found)
nearest scope outermost (at ∷ []) further =
    or_fault fault.UnknownColumn (option_map (found_in scope outermost at) (column_numbered scope at))
nearest scope outermost (at ∷ next ∷ others) further = Err fault.AmbiguousName

abbrev pub is_last : List Scope → Bool
is_last [] = true
is_last (scope ∷ outer) = false

abbrev pub column_meant : ColumnReference → List Scope → Outcome FoundColumn
column_meant r [] = Err fault.UnknownColumn
column_meant r (scope ∷ outer) = nearest scope (is_last outer) (fits r scope) (column_meant r outer)
