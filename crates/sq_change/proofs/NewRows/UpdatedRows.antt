-- A row after set clauses (ISO/IEC 9075:1992, 13.9 and 13.10).
use Rattle.std.proofs.Common.{◌≡◌, ℕ, ◌+◌, ◌<◌, ◌≤◌, List, [], ◌∷◌, ◌++◌, length, get_or, slice_set, refl, sym, ◌∙◌, ap, Some, Ok, Err}
use Rattle.std.proofs.lemmas.List.Sums.{fold-append}
use Rattle.sq_value.specs.declared.value.Value.{Value}
use Rattle.sq_store.specs.Content.{row_at}
use Rattle.sq_store.specs.declared.table.Numbered.{Numbered}
use Rattle.sq_store.specs.declared.table.Table.{Table}
use Rattle.sq_store.specs.declared.change.Change.{Change}
use Rattle.sq_store.specs.declared.change.Change.TheVariants.{Insert, Replace, Remove}
use Rattle.sq_meaning.specs.Environment.{Row}
use Rattle.sq_meaning.specs.Status.{each}
use Rattle.sq_meaning.specs.Change.{with_values}
use Rattle.sq_bound.specs.declared.statement.BoundAssignment.{BoundAssignment}
use Rattle.sq_expression.specs.Fault.{Meets}
use Rattle.sq_expression.specs.declared.fault.Fault.{Fault}
use Rattle.sq_expression.specs.declared.fault.Fault.TheVariants as fault
use Rattle.sq_change.specs.Changed.{rows_replaced}
use Rattle.sq_change.specs.Made.{Seen, Shown, row_updated, updated_under, value_set, value_stored}
use Rattle.sq_change.proofs.OneByOne.InTurn.{MadeTo, made_all, made_failed, made_more, made_none}

-- ---- set clauses

module _ (shown : Shown) (s : Seen) (row : Row) (a : BoundAssignment) where
  value_given : (v : Value) → value_stored shown s (row ∷ []) a.column.domain a.value ≡ Ok v → value_set shown s row a ≡ Ok (a.column.position, v)
  value_given v h = rw h refl

  value_lacking : (e : Fault) → Meets {A = Value} (Err e) (value_stored shown s (row ∷ []) a.column.domain a.value) → Meets {A = ℕ × Value} (Err e) (value_set shown s row a)
  value_lacking fault.NoMemory h = tt
  value_lacking (fault.Status st) h = rw h refl

-- the set clauses before this one are performed, with these values
pub record SetSoFar (s : Seen) (assignments : List BoundAssignment) (row : Row) (i : ℕ) (updated : List Value) : Type 0 where
  pub given : List (ℕ × Value)
  pub is : updated ≡ with_values given row
  pub so_far : (shown : Shown) → MadeTo (value_set shown s row) assignments i given

module _ (s : Seen) (assignments : List BoundAssignment) (row : Row) where
  pub none_set : (updated : List Value) → updated ≡ row → SetSoFar s assignments row 0 updated
  none_set updated is = record {
    given = [];
    is = is;
    so_far = λ shown. made_none (value_set shown s row) assignments [] refl;
  }

  module _ (i : ℕ) (updated : List Value) (a : BoundAssignment) (within : i < length assignments) (at : a ≡ get_or assignments i a) (before : SetSoFar s assignments row i updated) where
    pub one_set : (after : List Value) (v : Value) → ((shown : Shown) → value_stored shown s (row ∷ []) a.column.domain a.value ≡ Ok v) → after ≡ slice_set updated a.column.position v
        → SetSoFar s assignments row (i + 1) after
    one_set after v stored set =
        let pair : ℕ × Value = (a.column.position, v) in
        record {
          given = before.given ++ pair ∷ [];
          is = set ∙ ap (λ (r : List Value). slice_set r a.column.position v) before.is ∙ sym (fold-append (λ (r : Row) (g : ℕ × Value). slice_set r g.0 g.1) row before.given (pair ∷ []));
          so_far = λ shown. made_more (value_set shown s row) assignments before.given (before.given ++ pair ∷ []) i a pair within at (before.so_far shown) (value_given shown s row a v (stored shown)) refl;
        }

    pub set_failed : (shown : Shown) (e : Fault) → Meets {A = Value} (Err e) (value_stored shown s (row ∷ []) a.column.domain a.value) → Meets {A = Row} (Err e) (row_updated shown s assignments row)
    set_failed shown e failed = on_failed e (made_failed (value_set shown s row) assignments before.given i a e within at (before.so_far shown) (value_lacking shown s row a e failed))
      where
        on_failed : (e : Fault) → Meets {A = List (ℕ × Value)} (Err e) (each (value_set shown s row) assignments) → Meets {A = Row} (Err e) (row_updated shown s assignments row)
        on_failed fault.NoMemory h = tt
        on_failed (fault.Status st) h = rw h refl

  pub all_set : (i : ℕ) (updated : List Value) → length assignments ≤ i → SetSoFar s assignments row i updated → (shown : Shown) → row_updated shown s assignments row ≡ Ok updated
  all_set i updated past h shown = rw (made_all (value_set shown s row) assignments h.given i past (h.so_far shown), h.is) refl

-- ---- rows under numbers

module _ (shown : Shown) (s : Seen) (assignments : List BoundAssignment) (t : Table) (number : ℕ) (row : Row)
    (there : row_at t number ≡ Some (record { number = number; row = row })) where
  pub under_done : (updated : Row) → row_updated shown s assignments row ≡ Ok updated → updated_under shown s assignments t number ≡ Ok (record { number = number; row = updated })
  under_done updated h = rw (there, h) refl

  pub under_failed : (e : Fault) → Meets {A = Row} (Err e) (row_updated shown s assignments row) → Meets {A = Numbered} (Err e) (updated_under shown s assignments t number)
  under_failed fault.NoMemory h = tt
  under_failed (fault.Status st) h = rw (there, h) refl

pub replaced_more : (changes : List Change) (number : ℕ) (row : Row) → rows_replaced (changes ++ Replace number row ∷ []) ≡ rows_replaced changes ++ record { number = number; row = row } ∷ []
replaced_more [] number row = refl
replaced_more (Insert other ∷ changes) number row = replaced_more changes number row
replaced_more (Replace n other ∷ changes) number row = ap (λ (rest : List Numbered). record { number = n; row = other } ∷ rest) (replaced_more changes number row)
replaced_more (Remove n ∷ changes) number row = replaced_more changes number row
