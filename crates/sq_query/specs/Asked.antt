-- Which base table is asked for the rows of an item, its own or the one under a plain view, and by which columns (ISO/IEC 9075:1992, 7.4 and
-- 11.19; own rule).
use Rattle.std.specs.Prelude.{◌≡◌, ℕ, List, [], ◌∷◌, slice_get, Option, Some, None}
use Rattle.std.specs.Borrow.{Bor}
use Rattle.sq_value.specs.declared.value.Value.{Value}
use Rattle.sq_bound.specs.declared.condition.BoundSpecification.{BoundSpecification}
use Rattle.sq_bound.specs.WellFormed.{TableKinds}
use Rattle.sq_query.specs.Shown.{AreShown, Asks, IsPath}
use Rattle.sq_query.specs.declared.plain_view.Underneath.{Underneath}

-- asking the base table by a column of its own asks the item by this column: by the same one or, if the item is a view, by one that shows it
abbrev pub IsShownBy : Option (Bor (List (Option ℕ))) → ℕ → ℕ → Type 0
IsShownBy None own column = own ≡ column
IsShownBy (Some columns) own column = slice_get columns.now column ≡ Some (Some own)

-- a condition names the rows of the item by values of the column that shows this one of the base table
abbrev pub IsFalseThrough : Option (Bor (List (Option ℕ))) → (ℕ → List Value → Type 0) → ℕ → List Value → Type 0
IsFalseThrough through IsFalse own vs = (column : ℕ) × IsShownBy through own column × IsFalse column vs

-- the same where the base table is shown through these views
abbrev pub IsFalseUnder : List BoundSpecification → List ℕ → (ℕ → List Value → Type 0) → ℕ → List Value → Type 0
IsFalseUnder queries views IsFalse own vs =
    (column : ℕ) × AreShown queries views (own ∷ []) (column ∷ []) × IsFalse column vs

-- for each column of the first of these views the one by which the base table under them is asked, if there is one
abbrev pub AreUnder : List BoundSpecification → List ℕ → List (Option ℕ) → Type 0
AreUnder queries views columns =
    (own column : ℕ) → slice_get columns column ≡ Some (Some own) → AreShown queries views (own ∷ []) (column ∷ [])

-- Asking the base table by a column of its own asks a view by this column: its query asks an item by a column in between, for which the base
-- table is asked.
abbrev pub IsThrough : BoundSpecification → Option (Bor (List (Option ℕ))) → ℕ → ℕ → Type 0
IsThrough q through own column = (between : ℕ) × Asks q between column × IsShownBy through own between

abbrev pub AreThrough : BoundSpecification → Option (Bor (List (Option ℕ))) → List (Option ℕ) → Type 0
AreThrough q through columns =
    (own column : ℕ) → slice_get columns column ≡ Some (Some own) → IsThrough q through own column

-- the same for a view over one with these columns
abbrev pub AreAsked : BoundSpecification → List (Option ℕ) → List (Option ℕ) → Type 0
AreAsked q below columns =
    (own column : ℕ) → slice_get columns column ≡ Some (Some own)
    → (between : ℕ) × Asks q between column × (slice_get below between ≡ Some (Some own))

-- the base table under a plain view, through others if there are any, and the columns by which it is asked
pub record IsUnderneath (columns : TableKinds) (queries : List BoundSpecification) (view : ℕ)
    (under : Underneath) : Type 0 where
  pub views : List ℕ
  pub path : IsPath columns queries (view ∷ views) under.base
  pub are : AreUnder queries (view ∷ views) under.columns.items
