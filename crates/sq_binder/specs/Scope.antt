-- Scopes and parameters, as the definitions see them (ISO/IEC 9075:1992, 6.2 to 6.4).
use Rattle.std.specs.Prelude.{ℕ, Bool, List, [], ◌∷◌, map, is_none, Option, None, Some, Ok, Err}
use Rattle.std.specs.Borrow.{Bor}
use Rattle.std.specs.Option.{option_map}
use Rattle.sq_value.specs.declared.domain.Domain.{Domain}
use Rattle.sq_meaning.specs.Environment.{Place}
use Rattle.sq_meaning.specs.Tables.{Declared}
use Rattle.sq_bound.specs.Expression.{place_meant}
use Rattle.sq_bound.specs.declared.expression.Place.{Place as GroupingPlace}
use Rattle.sq_bound.specs.declared.names.ParameterDesc.{ParameterDesc}
use Rattle.sq_meaning.specs.declared.fault.BindingFault.TheVariants as fault
use Rattle.sq_binding.specs.Outcome.{Outcome, or_fault}
use Rattle.sq_binding.specs.Scope as binding
use Rattle.sq_binder.specs.declared.column.FoundColumn.{FoundColumn}
use Rattle.sq_binder.specs.declared.column.ItemColumn.{ItemColumn}
use Rattle.sq_binder.specs.declared.scope.Environment.{Environment}
use Rattle.sq_binder.specs.declared.scope.FromItem.{FromItem}
use Rattle.sq_binder.specs.declared.scope.Scope.{Scope, Scope', Held-Scope-outer, None', Some', out-Scope}

-- ---- items

abbrev pub column_of : ItemColumn → binding.ItemColumn
column_of c = record { name = c.name; position = c.position; kind = c.kind }

abbrev pub item_of : FromItem → binding.FromItem
item_of item = record {
  reference = record {
    table = record { user = item.user; name = item.name };
    correlation = item.correlation;
  };
  columns = map column_of item.columns;
}

-- ---- scopes

abbrev pub grouping_of : Option (Bor (List GroupingPlace)) → Option (List Place)
grouping_of grouping = option_map (λ places. map place_meant places.now) grouping

abbrev pub scope_over : List FromItem → Option (Bor (List GroupingPlace)) → binding.Scope
scope_over items grouping = record { items = map item_of items; grouping = grouping_of grouping }

-- a scope by itself
abbrev pub scope_of : Scope → binding.Scope
scope_of scope = scope_over (out-Scope scope).items.now (out-Scope scope).grouping

-- a scope and the scopes around it, the nearest first
abbrev mutual
  pub scopes_of : Scope → List binding.Scope
  scopes_of (Scope' items grouping outer) = scope_over items.now grouping ∷ scopes_around outer

  pub scopes_around : Held-Scope-outer → List binding.Scope
  scopes_around None' = []
  scopes_around (Some' p scope) = scopes_of scope

abbrev pub scopes_at : Option Scope → List binding.Scope
scopes_at None = []
scopes_at (Some scope) = scopes_of scope

-- the scopes around a text
abbrev pub scopes_in : Environment → List binding.Scope
scopes_in environment = scopes_at environment.scope

abbrev pub has_none_around : Scope → Bool
has_none_around scope = is_none (out-Scope scope).outer

-- ---- columns that references mean

abbrev pub found_of : FoundColumn → binding.FoundColumn
found_of found = record {
  depth = found.depth;
  item = found.item;
  column = column_of found.column;
  is_grouped = found.is_grouped;
  is_outermost = found.is_outermost;
}

-- the only one of the items and columns that a reference fits, if it fits one
abbrev pub only : List (ℕ × ℕ) → Outcome (Option (ℕ × ℕ))
only [] = Ok None
only (at ∷ []) = Ok (Some at)
only (at ∷ next ∷ others) = Err fault.AmbiguousName

-- the item and column that fit so far, with a column that fits in the item of a number; two are ambiguous
abbrev pub with_fit : Option (ℕ × ℕ) → ℕ → Option ℕ → Outcome (Option (ℕ × ℕ))
with_fit found n None = Ok found
with_fit None n (Some column) = Ok (Some (n, column))
with_fit (Some earlier) n (Some column) = Err fault.AmbiguousName

-- the column of these numbers, as one that a reference means
abbrev pub found_at : binding.Scope → (is_outermost : Bool) → ℕ × ℕ → Outcome binding.FoundColumn
found_at scope outermost at =
    or_fault fault.UnknownColumn
    (option_map (binding.found_in scope outermost at) (binding.column_numbered scope at))

-- ---- parameters

abbrev pub declared_of : ParameterDesc → Declared
declared_of p = record { name = p.name; domain = p.domain }

abbrev pub parameters_in : Environment → List Declared
parameters_in environment = map declared_of environment.parameters.now

-- a parameter at a position
abbrev pub named_of : ℕ × ParameterDesc → ℕ × Domain
named_of p = (p.0, p.1.domain)
