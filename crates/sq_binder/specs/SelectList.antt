-- Select lists: their trees and their columns, apart (ISO/IEC 9075:1992, 7.9).
use Rattle.std.specs.Prelude.{◌≡◌, List, [], ◌∷◌, ◌++◌, map, Result, Ok, Err}
use Rattle.sq_meaning.specs.Spelled.{Named}
use Rattle.sq_meaning.specs.Syntax.{SelectList}
use Rattle.sq_bound.specs.declared.condition.ResultColumn.{ResultColumn as BoundColumn}
use Rattle.sq_bound.specs.declared.expression.BoundExpr.{BoundExpr}
use Rattle.sq_binding.specs.Found.{Binding, ◌>>=◌, joined, pure}
use Rattle.sq_binding.specs.Numbered.{Numbered}
use Rattle.sq_binding.specs.NumberedCondition.{ResultColumn}
use Rattle.sq_binding.specs.Scope.{FromItem}
use Rattle.sq_binding.specs.Seen.{column_of, numbered_of}
use Rattle.sq_binding.specs.Select.{ShownColumn, Surroundings, list_bound}
use Rattle.sq_binder.specs.Found.{brought_of}
use Rattle.sq_binder.specs.declared.found.Found.{Found}
use Rattle.sq_binder.specs.declared.select_list.SelectedList.{SelectedList}
use Rattle.sq_binder.specs.declared.stop.Stop.{Stop}
use Rattle.sq_binder.specs.declared.stop.Stop.TheVariants.{NoMemory}

abbrev pub Shown : Type 0
Shown = List Numbered × List ResultColumn

abbrev pub split : List ShownColumn → Shown
split shown = (map (λ c. c.tree) shown, map (λ c. c.column) shown)

abbrev pub list_split : Surroundings → List FromItem → SelectList Named → Binding Shown
list_split a items list = list_bound a items list >>= λ shown. pure (split shown)

-- further columns after others
abbrev pub behind : Shown → List ShownColumn → Shown
behind s shown = (s.0 ++ map (λ c. c.tree) shown, s.1 ++ map (λ c. c.column) shown)

abbrev pub with_shown : Shown → ShownColumn → Shown
with_shown s c = (s.0 ++ c.tree ∷ [], s.1 ++ c.column ∷ [])

-- ---- the parts that the definitions see

abbrev pub list_seen : SelectedList → Shown
list_seen s = (map numbered_of s.exprs, map column_of s.columns)

abbrev pub shown_of : BoundExpr × BoundColumn → ShownColumn
shown_of shown = record { tree = numbered_of shown.0; column = column_of shown.1 }

-- ---- lists in turn

abbrev pub BeginsList : Result (Found (BoundExpr × BoundColumn)) Stop → Result (Found SelectedList) Stop
    → Type 0
BeginsList (Ok first) (Ok all) =
    (list_seen all.part ≡ split (shown_of first.part ∷ [])) × (all.brought ≡ first.brought)
BeginsList (Ok first) (Err stop) = stop ≡ NoMemory
BeginsList (Err earlier) (Ok all) = ⊥
BeginsList (Err earlier) (Err stop) = stop ≡ earlier

abbrev pub Shows : Found SelectedList → Result (Found (BoundExpr × BoundColumn)) Stop
    → Result (Found SelectedList) Stop → Type 0
Shows list (Ok next) (Ok all) =
    (list_seen all.part ≡ with_shown (list_seen list.part) (shown_of next.part))
    × (brought_of all.brought ≡ joined (brought_of list.brought) (brought_of next.brought))
    × (all.brought.next ≡ next.brought.next)
Shows list (Ok next) (Err stop) = stop ≡ NoMemory
Shows list (Err earlier) (Ok all) = ⊥
Shows list (Err earlier) (Err stop) = stop ≡ earlier
