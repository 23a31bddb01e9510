-- Constraints of a changed table are checked alike by places and by names (ISO/IEC 9075:1992, 4.10, 11.4 and 11.7 to 11.9): by name in all
-- of its rows, by place in those that are put in, since the others met them before; then its keys, and then all references.
use Rattle.std.proofs.Common.{◌≡◌, ℕ, ◌+◌, ◌≤◌, cond, not, Bool, true, false, List, [], ◌∷◌, ◌++◌, length, map, filter, Option, Some, None, inl, inr, refl, sym, ap, subst, ◌∙◌, ltb-true, Ok, Err}
use Rattle.std.proofs.lemmas.List.{append-nil, get_or-set_same, map-append}
use Rattle.std.specs.Prelude.{◌&&◌, ◌||◌, ◌==◌, nat_lt, find, unwrap_or, option_to_list, flat_map}
use Rattle.std.specs.List.{AllByRecursion, list_all, list_any}
use Rattle.sq_lex.specs.declared.name.Name.{Name}
use Rattle.sq_value.specs.Key.{in_columns}
use Rattle.sq_store.specs.Content.{Content, empty, inserted, table_at, with_table}
use Rattle.sq_store.specs.Keys.{are_distinct, has_key}
use Rattle.sq_store.specs.Rising.{has_rising_rows, rising_between}
use Rattle.sq_store.specs.declared.table.Numbered.{Numbered}
use Rattle.sq_store.specs.declared.table.Table.{Table}
use Rattle.sq_meaning.specs.Environment.{Row}
use Rattle.sq_meaning.specs.Rows.{same_row}
use Rattle.sq_meaning.specs.Status.{Outcome, and_then}
use Rattle.sq_meaning.specs.Tables.{rows_in}
use Rattle.sq_meaning.specs.declared.status.Status.TheVariants.{IntegrityConstraintViolation}
use Rattle.sq_meaning.specs.Schema.{BaseTable, base_place, base_tables, keys, table_columns}
use Rattle.sq_meaning.specs.Words.{has_twice}
use Rattle.sq_meaning.specs.Change as by_name
use Rattle.sq_meaning.specs.Change.{is_numbered, replaced}
use Rattle.sq_meaning.specs.Constraints.{all_satisfied, demanded, key_satisfied, keys_satisfied, places_among, references_satisfied, row_satisfied, rows_of_base}
use Rattle.sq_bound.specs.declared.condition.BoundSpecification.{BoundSpecification}
use Rattle.sq_bound.specs.declared.names.BaseTable.{BaseTable as BoundTable}
use Rattle.sq_change.specs.Constraints.{keys_met, references_met, row_met}
use Rattle.sq_change.specs.Made.{Shown}
use Rattle.sq_change.specs.Statement as statement
use Rattle.sq_run.proofs.Changed.CheckOptions.{ChecksSame, all_alike}
use Rattle.sq_run.proofs.Changed.Checks.{IsRowCheckedAs, row_checked_same}
use Rattle.sq_run.proofs.Changed.Levels.{HasLength}
use Rattle.sq_run.proofs.Changed.RowsAgain.{AreAbove, AreApart, AreNumbersIn, IsWithin, above, itself, not_above, not_below, numbers_of, replaced_same, rest_rises, so_within, without_same}
use Rattle.sq_run.proofs.Changed.Statements.{seen_in}

abbrev Test : Type 0
Test = Row → Outcome (Unit {0})

abbrev pub rows_of : List Numbered → List Row
rows_of rows = map (λ r. r.row) rows

-- ---- new rows behind others

all_of_both : (test : Test) (xs ys : List Row)
    → all_satisfied test (xs ++ ys) ≡ and_then (all_satisfied test xs) (λ _. all_satisfied test ys)
all_of_both test [] ys = refl
all_of_both test (x ∷ xs) ys =
    ap (λ o. and_then (test x) (λ _. o)) (all_of_both test xs ys)
    ∙ either_way (test x) (all_satisfied test xs) (all_satisfied test ys)
  where
    either_way : (o r t : Outcome (Unit {0})) → and_then o (λ _. and_then r (λ _. t)) ≡ and_then (and_then o (λ _. r)) (λ _. t)
    either_way (Err status) r t = refl
    either_way (Ok done) r t = refl

append_more : (xs : List Row) (y : Row) (ys : List Row) → (xs ++ y ∷ []) ++ ys ≡ xs ++ y ∷ ys
append_more [] y ys = refl
append_more (x ∷ xs) y ys = ap (λ rest. x ∷ rest) (append_more xs y ys)

rows_inserted_behind : (rows : List Row) (t : Table) → rows_of (by_name.with_rows t rows).rows ≡ rows_of t.rows ++ rows
rows_inserted_behind [] t = sym (append-nil (rows_of t.rows))
rows_inserted_behind (row ∷ rows) t =
    rows_inserted_behind rows (inserted t row)
    ∙ ap (λ rest. rest ++ rows) (map-append (λ (r : Numbered). r.row) t.rows (record { number = t.next; row = row } ∷ []))
    ∙ append_more (rows_of t.rows) row rows

-- only the new rows are left to check
pub inserted_checked : (test : Test) (t : Table) (rows : List Row) → all_satisfied test (rows_of t.rows) ≡ Ok tt
    → all_satisfied test (rows_of (by_name.with_rows t rows).rows) ≡ all_satisfied test rows
inserted_checked test t rows held =
    ap (all_satisfied test) (rows_inserted_behind rows t) ∙ all_of_both test (rows_of t.rows) rows
    ∙ ap (λ o. and_then o (λ _. all_satisfied test rows)) held

-- ---- some rows go

first_and_others : (o r : Outcome (Unit {0})) → and_then o (λ _. r) ≡ Ok tt → (o ≡ Ok tt) × (r ≡ Ok tt)
first_and_others (Err status) r e = cc
first_and_others (Ok tt) r e = (refl, e)

left_checked : (test : Test) (p : Numbered → Bool) (rows : List Numbered) → all_satisfied test (rows_of rows) ≡ Ok tt
    → all_satisfied test (rows_of (filter p rows)) ≡ Ok tt
left_checked test p [] held = refl
left_checked test p (r ∷ rows) held =
    let both = first_and_others (test r.row) (all_satisfied test (rows_of rows)) held in
    by_test (p r) both.0 (left_checked test p rows both.1)
  where
    by_test : (b : Bool) → test r.row ≡ Ok tt → all_satisfied test (rows_of (filter p rows)) ≡ Ok tt
        → all_satisfied test (rows_of (cond b (r ∷ filter p rows) (filter p rows))) ≡ Ok tt
    by_test true first others = (λ i. and_then (first i) (λ _. others i))
    by_test false first others = others

-- none is left to check
pub removed_checked : (test : Test) (t : Table) (numbers : List ℕ) → all_satisfied test (rows_of t.rows) ≡ Ok tt
    → all_satisfied test (rows_of (by_name.without t numbers).rows) ≡ all_satisfied test []
removed_checked test t numbers held = left_checked test (λ r. not (is_numbered numbers r)) t.rows held

-- ---- some rows are others

not_found : (n : ℕ) (found changed : List Numbered) → numbers_of changed ≡ numbers_of found → AreAbove (n + 1) found
    → find (λ c. c.number == n) changed ≡ None
not_found n found [] e h = refl
not_found n [] (c ∷ changed) e h = cc
not_found n (x ∷ found) (c ∷ changed) e h =
    let number : c.number ≡ x.number = cc in
    let others : numbers_of changed ≡ numbers_of found = cc in
    ap (λ k. cond (k == n) (Some c) (find (λ d. d.number == n) changed)) number
    ∙ ap (λ b. cond b (Some c) (find (λ d. d.number == n) changed)) (not_below n x.number h.0)
    ∙ not_found n found changed others h.1

later_replaced : (c : Numbered) (changed rows : List Numbered) → AreAbove (c.number + 1) rows
    → map (replaced (c ∷ changed)) rows ≡ map (replaced changed) rows
later_replaced c changed [] h = refl
later_replaced c changed (r ∷ rows) h =
    (λ i. unwrap_or (cond (not_above c.number r.number h.0 i) (Some c) (find (λ d. d.number == r.number) changed)) r
    ∷ later_replaced c changed rows h.1 i)

-- only the changed rows are left to check, in the order of the table
replaced_checked : (test : Test) (low next : ℕ) (rows : List Numbered) → rising_between low rows next ≡ true
    → all_satisfied test (rows_of rows) ≡ Ok tt
    → (found changed : List Numbered) → IsWithin found rows → numbers_of changed ≡ numbers_of found
    → all_satisfied test (rows_of (map (replaced changed) rows)) ≡ all_satisfied test (rows_of changed)
replaced_checked test low next [] rising held found [] q e = refl
replaced_checked test low next [] rising held found (c ∷ changed) q e =
    let none : numbers_of (c ∷ changed) ≡ [] = e ∙ ap numbers_of q in absurd (cc none)
replaced_checked test low next (r ∷ rows) rising held found changed (inl q) e =
    let both = first_and_others (test r.row) (all_satisfied test (rows_of rows)) held in
    let later : AreAbove (r.number + 1) rows = above (r.number + 1) next rows (rest_rises low next r rows rising) in
    let none : find (λ c. c.number == r.number) changed ≡ None
    = not_found r.number found changed e (so_within (λ x. r.number + 1 ≤ x.number) rows found later q) in
    ap (λ (o : Option Numbered). and_then (test (unwrap_or o r).row) (λ _. all_satisfied test (rows_of (map (replaced changed) rows)))) none
    ∙ ap (λ o. and_then o (λ _. all_satisfied test (rows_of (map (replaced changed) rows)))) both.0
    ∙ replaced_checked test (r.number + 1) next rows (rest_rises low next r rows rising) both.1 found changed q e
replaced_checked test low next (r ∷ rows) rising held found [] (inr q) e =
    let some : [] ≡ numbers_of (r ∷ q.0) = e ∙ ap numbers_of q.1 in absurd (cc some)
replaced_checked test low next (r ∷ rows) rising held found (c ∷ changed) (inr q) e =
    let both = first_and_others (test r.row) (all_satisfied test (rows_of rows)) held in
    let same : numbers_of (c ∷ changed) ≡ numbers_of (r ∷ q.0) = e ∙ ap numbers_of q.1 in
    let number : c.number ≡ r.number = cc same in
    let others : numbers_of changed ≡ numbers_of q.0 = cc same in
    let later : AreAbove (c.number + 1) rows
    = subst (λ n. AreAbove (n + 1) rows) (sym number) (above (r.number + 1) next rows (rest_rises low next r rows rising)) in
    ap (λ n. and_then (test (unwrap_or (cond (n == r.number) (Some c) (find (λ d. d.number == r.number) changed)) r).row) (λ _. all_satisfied test (rows_of (map (replaced (c ∷ changed)) rows)))) number
    ∙ ap (λ b. and_then (test (unwrap_or (cond b (Some c) (find (λ d. d.number == r.number) changed)) r).row) (λ _. all_satisfied test (rows_of (map (replaced (c ∷ changed)) rows))))
    (itself r.number)
    ∙ ap (λ l. and_then (test c.row) (λ _. all_satisfied test (rows_of l))) (later_replaced c changed rows later)
    ∙ ap (λ o. and_then (test c.row) (λ _. o))
    (replaced_checked test (r.number + 1) next rows (rest_rises low next r rows rising) both.1 q.0 changed q.2 others)

-- ---- keys (11.7)

-- no two rows have a key alike
distinct_same : (places : List ℕ) (rows : List Numbered)
    → not (has_twice same_row (map (λ row. in_columns row places) (rows_of rows))) ≡ are_distinct places rows
distinct_same places [] = refl
distinct_same places (r ∷ rows) =
    neither (list_any (same_row (in_columns r.row places)) (map (λ row. in_columns row places) (rows_of rows)))
    (has_twice same_row (map (λ row. in_columns row places) (rows_of rows)))
    ∙ (λ i. not (any_same (in_columns r.row places) rows i) && distinct_same places rows i)
  where
    neither : (a b : Bool) → not (a || b) ≡ (not a && not b)
    neither true b = refl
    neither false b = refl

    any_same : (key : Row) (others : List Numbered)
        → list_any (same_row key) (map (λ row. in_columns row places) (rows_of others)) ≡ list_any (has_key places key) others
    any_same key [] = refl
    any_same key (x ∷ others) = ap (λ b. same_row key (in_columns x.row places) || b) (any_same key others)

each_key_same : (t : BaseTable) (changed : Table) (written : List (List Name))
    → list_all (key_satisfied t.definition (rows_in changed)) written
    ≡ list_all (λ places. are_distinct places changed.rows) (map (places_among (table_columns t.definition)) written)
each_key_same t changed [] = refl
each_key_same t changed (key ∷ written) =
    (λ i. distinct_same (places_among (table_columns t.definition) key) changed.rows i && each_key_same t changed written i)

-- ---- what is known of a base table

-- What the catalog says of a base table, and the machine keeps: it is at its place; its rows are checked as it is written (11.4 and 11.9);
-- its keys are those that are written (11.7); references are met alike (11.8); and all rows met NOT NULL and CHECK before.
pub record IsCheckedAs (m : by_name.Setting) (queries : List BoundSpecification) (shown : Shown) (bases : List BoundTable)
    (t : BaseTable) (b : BoundTable) : Type 0 where
  pub place : base_place m.elements t.name ≡ Some b.place
  pub stored : nat_lt b.place (length m.content) ≡ true
  pub rows : IsRowCheckedAs t b
  pub keys_are : b.keys ≡ map (places_among (table_columns t.definition)) (keys t.definition)
  pub references : (content : Content)
      → all_satisfied (references_satisfied m.elements content) (base_tables m.elements)
      ≡ demanded (references_met bases content) IntegrityConstraintViolation
  pub held : all_satisfied (row_satisfied t) (rows_of (table_at m.content b.place).rows) ≡ Ok tt

module _ (m : by_name.Setting) (queries : List BoundSpecification) (shown : Shown) (bases : List BoundTable) (t : BaseTable)
    (b : BoundTable) (c : IsCheckedAs m queries shown bases t b) where
  -- the rows of the changed table
  rows_there : (changed : Table) → rows_of_base m.elements (with_table m.content b.place changed) t.name ≡ rows_of changed.rows
  rows_there changed =
      ap (λ o. flat_map (λ place. rows_in (table_at (with_table m.content b.place changed) place)) (option_to_list o)) c.place
      ∙ append-nil (rows_in (table_at (with_table m.content b.place changed) b.place))
      ∙ ap rows_in (get_or-set_same m.content b.place changed empty (ltb-true b.place (length m.content) c.stored))

  keys_same : (changed : Table) → keys_satisfied t (rows_in changed) ≡ keys_met b changed
  keys_same changed =
      ap (λ holds. demanded holds IntegrityConstraintViolation)
      (each_key_same t changed (keys t.definition) ∙ ap (list_all (λ places. are_distinct places changed.rows)) (sym c.keys_are))

  in_turn : (r k e : Outcome (Unit {0})) (content : Content)
      → and_then (and_then r (λ _. and_then k (λ _. e))) (λ _. Ok content)
      ≡ and_then r (λ _. and_then k (λ _. and_then e (λ _. Ok content)))
  in_turn (Err status) k e content = refl
  in_turn (Ok done) (Err status) e content = refl
  in_turn (Ok done) (Ok too) e content = refl

  -- Where the rows that are put in decide for the whole table, all is checked alike.
  checks_same : (rows : List Row) (changed : Table) → AllByRecursion (HasLength (length b.columns)) rows
      → all_satisfied (row_satisfied t) (rows_of changed.rows) ≡ all_satisfied (row_satisfied t) rows
      → ChecksSame m queries shown bases t b rows changed
  checks_same rows changed wide same =
      (λ i. and_then (and_then (all_satisfied (row_satisfied t) (rows_there changed i)) (λ _. and_then (keys_satisfied t (rows_there changed i)) (λ _.
      c.references (with_table m.content b.place changed) i))) (λ _. Ok (with_table m.content b.place changed)))
      ∙ in_turn (all_satisfied (row_satisfied t) (rows_of changed.rows)) (keys_satisfied t (rows_in changed))
      (demanded (references_met bases (with_table m.content b.place changed)) IntegrityConstraintViolation)
      (with_table m.content b.place changed)
      ∙ (λ i. and_then ((same ∙ all_alike (HasLength (length b.columns)) (row_satisfied t) (row_met shown (seen_in m queries) b) (row_checked_same (seen_in m queries) shown t b c.rows) rows wide) i) (λ _.
      and_then (keys_same changed i)
      (λ _. and_then (demanded (references_met bases (with_table m.content b.place changed)) IntegrityConstraintViolation)
      (λ _. Ok (with_table m.content b.place changed)))))

  pub insert_checks_same : (rows : List Row) → AllByRecursion (HasLength (length b.columns)) rows
      → ChecksSame m queries shown bases t b rows (by_name.with_rows (table_at m.content b.place) rows)
  insert_checks_same rows wide =
      checks_same rows (by_name.with_rows (table_at m.content b.place) rows) wide
      (inserted_checked (row_satisfied t) (table_at m.content b.place) rows c.held)

  pub delete_checks_same : (numbers : List ℕ)
      → ChecksSame m queries shown bases t b [] (statement.without (table_at m.content b.place) numbers)
  delete_checks_same numbers =
      subst (ChecksSame m queries shown bases t b []) (without_same numbers (table_at m.content b.place))
      (checks_same [] (by_name.without (table_at m.content b.place) numbers) tt (removed_checked (row_satisfied t) (table_at m.content b.place) numbers c.held))

  pub update_checks_same : has_rising_rows (table_at m.content b.place) ≡ true → (changed : List Numbered)
      → AllByRecursion (HasLength (length b.columns)) (rows_of changed)
      → AreApart (numbers_of changed) → AreNumbersIn (table_at m.content b.place).rows (numbers_of changed)
      → ChecksSame m queries shown bases t b (rows_of changed) (statement.with_replaced (table_at m.content b.place) changed)
  update_checks_same rising changed wide apart among =
      subst (ChecksSame m queries shown bases t b (rows_of changed)) (replaced_same changed apart (table_at m.content b.place))
      (checks_same (rows_of changed) (by_name.with_replaced (table_at m.content b.place) changed) wide
      (replaced_checked (row_satisfied t) 1 (table_at m.content b.place).next (table_at m.content b.place).rows rising c.held among.0 changed among.2 among.1))
