-- One row seen in two ways: by the names of an item's columns, and by the positions at which a text has them once it is
-- placed (ISO/IEC 9075:1992, 6.3 and 6.4). A query sees the rows of its tables alike both ways. A statement on an updatable
-- view sees the view's columns by name, and by place the whole row of the base table under it.
use Rattle.std.proofs.Common.{◌≡◌, ℕ, zero, suc, List, [], ◌∷◌, map, Option, Some, None, refl, ap, ◌∙◌, Ok, Err}
use Rattle.std.specs.Prelude.{⊤, slice_get, IfOk}
use Rattle.std.specs.List.{AllZip}
use Rattle.std.specs.Option.{option_map, option_and_then}
use Rattle.sq_tree.specs.declared.names.ColumnReference.{ColumnReference}
use Rattle.sq_value.specs.declared.value.Value.{Value}
use Rattle.sq_meaning.specs.Status.{Outcome, and_then, well_formed}
use Rattle.sq_meaning.specs.Environment.{Item, Line, Scope, Env, Place, items_in, place_of, value_at}
use Rattle.sq_bound.specs.declared.names.ParameterDesc.{ParameterDesc}
use Rattle.sq_binding.specs.Placed.{column_at, heads_of, placed_column}
use Rattle.sq_binding.specs.Scope.{FromItem, ItemColumn}
use Rattle.sq_run.proofs.Places.Parameters.{SameInputs}
use Rattle.sq_run.proofs.Places.Setting.{items_named, named, scopes_with}

-- the value in a column of an item's row
abbrev pub cell : Line → ℕ → ℕ → Option Value
cell line item column = option_and_then (λ row. slice_get row column) (slice_get line item)

-- a column of an item
abbrev pub column_of : List FromItem → ℕ → ℕ → Option ItemColumn
column_of items item column = option_and_then (λ i. slice_get i.columns column) (slice_get items item)

-- each column of each item has in the line of names the value that is at its position in the line of places
abbrev pub SeenLine : List FromItem → (named placed : Line) → Type 0
SeenLine items named placed =
    (item column : ℕ)
    (c : ItemColumn) → column_of items item column ≡ Some c → cell named item column ≡ cell placed item c.position

-- the scope of names has these items, and its line and its group are seen
pub record SeenScope (items : List FromItem) (named : Scope Item) (placed : Scope (Unit {0})) : Type 0 where
  pub items_are : named.items ≡ items_named items
  pub line : SeenLine items named.line placed.line
  pub group : AllZip (SeenLine items) named.group placed.group

abbrev pub SeenScopes : List (List FromItem) → List (Scope Item) → List (Scope (Unit {0})) → Type 0
SeenScopes [] [] [] = ⊤
SeenScopes (items ∷ outer) (s ∷ ss) (t ∷ ts) = SeenScope items s t × SeenScopes outer ss ts
SeenScopes _ _ _ = ⊥

-- an environment of names and one of places
pub record SeenEnv (parameters : List ParameterDesc) (scopes : List (List FromItem)) (env : Env Item)
    (other : Env (Unit {0})) : Type 0 where
  pub scopes_are : SeenScopes scopes env.scopes other.scopes
  pub inputs_are : SameInputs parameters env.inputs other.inputs
  pub user_is : env.user ≡ other.user

-- ---- columns

pub heads_seen : (scopes : List (List FromItem)) (ss : List (Scope Item)) (ts : List (Scope (Unit {0}))) → SeenScopes scopes ss ts
    → map (λ s. s.items) ss ≡ heads_of (scopes_with scopes)
heads_seen [] [] [] h = refl
heads_seen (items ∷ outer) (s ∷ ss) (t ∷ ts) h = (λ i. h.0.items_are i ∷ heads_seen outer ss ts h.1 i)
heads_seen _ _ _ h = absurd h

-- the value at a place in scopes
abbrev there : {H : Type 0} → List (Scope H) → ℕ → ℕ → ℕ → Option Value
there scopes depth item column = option_and_then (λ scope. cell scope.line item column) (slice_get scopes depth)

at_seen : (scopes : List (List FromItem)) (ss : List (Scope Item)) (ts : List (Scope (Unit {0}))) → SeenScopes scopes ss ts
    → (depth item column : ℕ) (c : ItemColumn) → column_at (scopes_with scopes) (record { depth = depth; item = item; column = column }) ≡ Some c
    → there ss depth item column ≡ there ts depth item c.position
at_seen [] [] [] h depth item column c e = cc
at_seen (items ∷ outer) (s ∷ ss) (t ∷ ts) h zero item column c e = h.0.line item column c e
at_seen (items ∷ outer) (s ∷ ss) (t ∷ ts) h (suc depth) item column c e = at_seen outer ss ts h.1 depth item column c e
at_seen _ _ _ h depth item column c e = absurd h

-- a column reference means by name the value at the place where it is placed
abbrev pub SameColumn : List (List FromItem) → ColumnReference → Place → Type 0
SameColumn scopes r p =
    (env : Env Item) (other : Env (Unit {0})) → SeenScopes scopes env.scopes other.scopes → and_then (place_of r (items_in env))
    (value_at env) ≡ value_at other p

pub column_same : (scopes : List (List FromItem)) (r : ColumnReference) → IfOk (placed_column (scopes_with scopes) r) (SameColumn scopes r)
column_same scopes r = by_place (place_of r (heads_of (scopes_with scopes))) refl
  where
    by_column : (at : Place) → place_of r (heads_of (scopes_with scopes)) ≡ Ok at → (found : Option ItemColumn) → column_at (scopes_with scopes) at ≡ found
        → IfOk (well_formed (option_map (λ c. record at { column = c.position }) found)) (SameColumn scopes r)
    by_column at p None e = tt
    by_column at p (Some c) e = λ env other seen.
        ap (λ hs. and_then (place_of r hs) (value_at env)) (heads_seen scopes env.scopes other.scopes seen)
        ∙ ap (λ (o : Outcome Place). and_then o (value_at env)) p
        ∙ ap well_formed (at_seen scopes env.scopes other.scopes seen at.depth at.item at.column c e)

    by_place : (o : Outcome Place) → place_of r (heads_of (scopes_with scopes)) ≡ o
        → IfOk (and_then o (λ at. well_formed (option_map (λ c. record at { column = c.position }) (column_at (scopes_with scopes) at)))) (SameColumn scopes r)
    by_place (Err status) p = tt
    by_place (Ok at) p = by_column at p (column_at (scopes_with scopes) at) refl
