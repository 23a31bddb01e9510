-- The values in keys that INSERT, UPDATE and DELETE leave, and that the rows that they put in a table are in it afterwards.
use Rattle.std.proofs.Common.{◌≡◌, ℕ, true, false, nat_eq, List, [], ◌∷◌, map, is_some, Option, Ok, Err, refl, sym, ap, subst, ◌∙◌}
use Rattle.std.specs.List.{AllByRecursion, Any, list_any}
use Rattle.std.proofs.lemmas.List.Folds.{Any-from_list_any}
use Rattle.std.proofs.lemmas.Option.{slice_get_within}
use Rattle.sq_value.specs.Key.{in_columns}
use Rattle.sq_value.specs.declared.value.Value.{Value}
use Rattle.sq_store.specs.Change.{rows_put}
use Rattle.sq_store.specs.Content.{changed_by, table_at}
use Rattle.sq_store.specs.Keys.{Keys, has_key, with_key}
use Rattle.sq_store.specs.Rising.{all_rising}
use Rattle.sq_store.specs.declared.change.Change.{Change}
use Rattle.sq_store.specs.declared.change.Change.TheVariants.{Remove}
use Rattle.sq_store.specs.declared.table.Table.{Table}
use Rattle.sq_store.proofs.Rises.{rows_rise_at}
use Rattle.sq_meaning.specs.Environment.{Row}
use Rattle.sq_meaning.specs.Status.{Outcome, and_then, each}
use Rattle.sq_meaning.specs.Change.{with_values}
use Rattle.sq_bound.specs.Fits.{under}
use Rattle.sq_bound.specs.declared.statement.BoundAssignment.{BoundAssignment}
use Rattle.sq_bound.specs.declared.statement.BoundUpdate.{BoundUpdate}
use Rattle.sq_bound.specs.declared.statement.ChangeTarget.{ChangeTarget}
use Rattle.sq_change.specs.Changed.{ArePutThere, Removals, Replacements, are_insertions}
use Rattle.sq_change.specs.Made.{Seen, Shown, row_updated, updated_under, value_set, value_stored}
use Rattle.sq_change.specs.Reference.{KeepsKeys, LosesAll, LosesAssigned, is_assigned}
use Rattle.sq_change.specs.Statement.{base_of}
use Rattle.sq_change.proofs.OneByOne.Among.{any_from, found_any}
use Rattle.sq_change.proofs.Changes.Applied.{base_under}
use Rattle.sq_change.proofs.NewRows.Fitting.{no_rows}
use Rattle.sq_change.proofs.Keys.KeptValues.{IsMade, KeepsColumns, all_made, keys_stay, made_there, made_under, none_given, places_given, put_inserted, put_made, stays_inserted}

-- where a row has the values, one is found by them
by_any : (columns : List ℕ) (values : List Value) (t u : Table) → (list_any (has_key columns values) t.rows ≡ true → list_any (has_key columns values) u.rows ≡ true)
    → is_some (with_key t columns values) ≡ true → is_some (with_key u columns values) ≡ true
by_any columns values t u stays h = found_any (has_key columns values) u.rows ∙ stays (sym (found_any (has_key columns values) t.rows) ∙ h)

-- ---- INSERT: the rows stay

pub insertions_keep : (keys : Keys) (lost : List ℕ) (t : Table) (changes : List Change) → are_insertions changes ≡ true → KeepsKeys keys lost t (changed_by t changes)
insertions_keep keys lost t changes h = λ key columns at unlost values.
    by_any columns values t (changed_by t changes) (λ there.
    let a = Any-from_list_any (has_key columns values) t.rows there in
    any_from (has_key columns values) (changed_by t changes).rows a.1 (stays_inserted changes t a.1 h (a.0, a.2, a.3)) a.4)

pub insertions_put : (t : Table) (changes : List Change) → are_insertions changes ≡ true → ArePutThere t changes
insertions_put t changes h = put_inserted changes t h

-- ---- UPDATE: rows keep the values of columns that no set clause assigns

module _ (shown : Shown) (s : Seen) (assignments : List BoundAssignment) where
  set_at : (row : Row) (a : BoundAssignment) (g : ℕ × Value) → value_set shown s row a ≡ Ok g → g.0 ≡ a.column.position
  set_at row a g e = by (value_stored shown s (row ∷ []) a.column.domain a.value) e
    where
      by : (o : Outcome Value) → and_then {B = ℕ × Value} o (λ v. Ok (a.column.position, v)) ≡ Ok g → g.0 ≡ a.column.position
      by (Err st) e = cc
      by (Ok v) e = let pair : ℕ × Value = (a.column.position, v) in let is : Ok pair ≡ Ok g = e in let same : pair ≡ g = cc in sym (ap (λ (p : ℕ × Value). p.0) same)

  updated_keeps : (columns : List ℕ) → is_assigned columns assignments ≡ false → KeepsColumns columns (row_updated shown s assignments)
  updated_keeps columns none before after e = by (each (value_set shown s before) assignments) refl e
    where
      by : (o : Outcome (List (ℕ × Value))) → each (value_set shown s before) assignments ≡ o → and_then {B = Row} o (λ given. Ok (with_values given before)) ≡ Ok after
          → in_columns after columns ≡ in_columns before columns
      by (Err st) m e = cc
      by (Ok given) m e =
          let updated : Row = with_values given before in
          let is : Ok updated ≡ Ok after = e in
          let same : updated ≡ after = cc in
          let others : list_any (λ g. list_any (λ c. nat_eq c g.0) columns) given ≡ false
          = places_given (value_set shown s before) (λ a. a.column.position) (λ p. list_any (λ c. nat_eq c p) columns) (set_at before) assignments given m ∙ none in
          sym (ap (λ (r : Row). in_columns r columns) same) ∙ none_given columns given before others

module _ (s : Seen) (u : BoundUpdate) (on : Option ℕ) (changes : List Change) (h : Replacements s u on changes) where
  each_made : AllByRecursion (IsMade (made_under (row_updated no_rows s u.assignments) (table_at s.tables (base_of u.target)))) changes
  each_made = all_made (updated_under no_rows s u.assignments (table_at s.tables (base_of u.target))) h.numbers changes h.all (h.made no_rows)

  replaced_put : ArePutThere (table_at s.tables (base_of u.target)) changes
  replaced_put =
      let t = table_at s.tables (base_of u.target) in
      put_made (made_under (row_updated no_rows s u.assignments) t) changes t (made_there (row_updated no_rows s u.assignments) t) each_made

  pub replacements_put : ArePutThere (table_at s.tables (under u.target).table.place) changes
  replacements_put = subst (λ (p : ℕ). ArePutThere (table_at s.tables p) changes) (base_under u.target) replaced_put

  module _ (keys : Keys) (lost : List ℕ) (row_numbers : ℕ) (rising : all_rising row_numbers s.tables ≡ true) (loses : LosesAssigned keys u.assignments lost) where
    replaced_keep : KeepsKeys keys lost (table_at s.tables (base_of u.target)) (changed_by (table_at s.tables (base_of u.target)) changes)
    replaced_keep = λ key columns at unlost values.
        let t = table_at s.tables (base_of u.target) in
        by_any columns values t (changed_by t changes) (λ there.
        keys_stay columns (row_updated no_rows s u.assignments) (updated_keeps no_rows s u.assignments columns (loses key columns at unlost)) t (rows_rise_at row_numbers s.tables (base_of u.target) rising) changes values each_made
        ∙ there)

    pub replacements_keep : KeepsKeys keys lost (table_at s.tables (under u.target).table.place) (changed_by (table_at s.tables (under u.target).table.place) changes)
    replacements_keep = subst (λ (p : ℕ). KeepsKeys keys lost (table_at s.tables p) (changed_by (table_at s.tables p) changes)) (base_under u.target) replaced_keep

-- ---- DELETE: no key is left to be kept, and no row is put in

pub removals_keep : (keys : Keys) (lost : List ℕ) (before after : Table) → LosesAll keys lost → KeepsKeys keys lost before after
removals_keep keys lost before after all = λ key columns at unlost values there.
    let lacks : true ≡ false = sym (all key (slice_get_within keys key columns at)) ∙ unlost in cc

none_put : (P : List Value → Type 0) (numbers : List ℕ) → AllByRecursion P (rows_put (map Remove numbers))
none_put P [] = tt
none_put P (number ∷ numbers) = none_put P numbers

pub removals_put : (s : Seen) (t : ChangeTarget) (on : Option ℕ) (table : Table) (changes : List Change) → Removals s t on changes → ArePutThere table changes
removals_put s t on table changes h =
    subst (ArePutThere table) (sym h.all) (none_put (λ row. Any (λ r. r.row ≡ row) (changed_by table (map Remove h.numbers)).rows) h.numbers)
