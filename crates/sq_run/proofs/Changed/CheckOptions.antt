-- New and changed rows meet check options by their places where they meet them by their names (ISO/IEC 9075:1992, 11.19, 13.8 to 13.10),
-- so a statement comes to the same, if the constraints of the base table are checked alike.
use Rattle.std.proofs.Common.{◌≡◌, ℕ, List, [], ◌∷◌, map, take, refl, sym, ap, ◌∙◌, zero, suc, Ok}
use Rattle.std.proofs.lemmas.List.{take-append-le}
use Rattle.std.specs.Prelude.{⊤}
use Rattle.std.specs.List.{AllByRecursion}
use Rattle.sq_store.specs.Content.{Content, with_table}
use Rattle.sq_store.specs.declared.table.Table.{Table}
use Rattle.sq_meaning.specs.Environment.{Row, TableName}
use Rattle.sq_meaning.specs.Spelled.{Named}
use Rattle.sq_meaning.specs.Status.{Outcome, and_then}
use Rattle.sq_meaning.specs.Syntax.{Clause}
use Rattle.sq_meaning.specs.Target.{Level, meets_check_option, meets_levels}
use Rattle.sq_meaning.specs.declared.status.Status.TheVariants.{IntegrityConstraintViolation}
use Rattle.sq_meaning.proofs.OutcomeLaws.{then_then}
use Rattle.sq_meaning.specs.Schema.{BaseTable}
use Rattle.sq_meaning.specs.Change as by_name
use Rattle.sq_meaning.specs.Change.{completed_with, outer_env, reading_in}
use Rattle.sq_meaning.specs.Constraints.{all_satisfied, demanded}
use Rattle.sq_bound.specs.Condition.{cond_of}
use Rattle.sq_bound.specs.Known.{KnownTables}
use Rattle.sq_bound.specs.declared.condition.BoundSpecification.{BoundSpecification}
use Rattle.sq_bound.specs.declared.names.BaseTable.{BaseTable as BoundTable}
use Rattle.sq_bound.specs.declared.names.Leaf.{Leaf}
use Rattle.sq_change.specs.Constraints as by_place
use Rattle.sq_change.specs.Constraints.{check_option_met, keys_met, references_met, row_met}
use Rattle.sq_change.specs.Made.{Shown}
use Rattle.sq_run.proofs.Changed.Levels.{HasLength, width_at}
use Rattle.sq_run.proofs.Changed.Searched.{searched, table_item}
use Rattle.sq_run.proofs.Changed.Statements.{IsTableIn, outer_places, read_in, seen_in}
use Rattle.sq_run.proofs.Changed.Targets.{check_option_same, is_met_at}

take_of_map : {A B : Type 0} (f : A → B) (n : ℕ) (xs : List A) → take n (map f xs) ≡ map f (take n xs)
take_of_map f zero [] = refl
take_of_map f zero (x ∷ xs) = refl
take_of_map f (suc n) [] = refl
take_of_map f (suc n) (x ∷ xs) = ap (λ ys. f x ∷ ys) (take_of_map f n xs)

all_of_map : {A B : Type 0} (f : A → B) (test : B → Outcome (Unit {0})) (xs : List A)
    → all_satisfied test (map f xs) ≡ all_satisfied (λ x. test (f x)) xs
all_of_map f test [] = refl
all_of_map f test (x ∷ xs) = ap (λ o. and_then (test (f x)) (λ _. o)) (all_of_map f test xs)

pub all_alike : {A : Type 0} (P : A → Type 0) (test other : A → Outcome (Unit {0})) → ((x : A) → P x → test x ≡ other x)
    → (xs : List A) → AllByRecursion P xs → all_satisfied test xs ≡ all_satisfied other xs
all_alike P test other h [] p = refl
all_alike P test other h (x ∷ xs) p = (λ i. and_then (h x p.0 i) (λ _. all_alike P test other h xs p.1 i))

-- what is checked of rows that are put in a changed table, besides check options
abbrev pub checked : Shown → by_name.Setting → List BoundSpecification → List BoundTable → BoundTable → List Row → Table
    → Outcome Content
checked shown m queries bases t rows changed =
    and_then (all_satisfied (row_met shown (seen_in m queries) t) rows) (λ _. and_then (keys_met t changed) (λ _.
    and_then (demanded (references_met bases (with_table m.content t.place changed)) IntegrityConstraintViolation)
    (λ _. Ok (with_table m.content t.place changed))))

-- The constraints of the base table are checked alike: by name all rows of the table and all references, by place the rows that are put
-- in, the keys and the references.
abbrev pub ChecksSame : by_name.Setting → List BoundSpecification → Shown → List BoundTable → BaseTable → BoundTable → List Row
    → Table → Type 0
ChecksSame m queries shown bases t b rows changed =
    completed_with m t (with_table m.content b.place changed) ≡ checked shown m queries bases b rows changed

module _ (m : by_name.Setting) (queries : List BoundSpecification) (known : KnownTables) (shown : Shown) (bases : List BoundTable)
    (name : TableName) (leaf : Leaf) (t : IsTableIn m known shown bases name leaf) where
  abbrev IsWide : Row → Type 0
  IsWide = HasLength (width_at bases t.target.place)

  pub row_check_same : (row : Row) → IsWide row
      → meets_check_option (reading_in m) (outer_env m) t.target row ≡ check_option_met shown (seen_in m queries) leaf row
  row_check_same row w =
      check_option_same (read_in m known shown []) (outer_env m)
      (outer_places m) IsWide t.target t.under.clauses t.under.levels leaf.demanded t.under.demanded row w
      ∙ ap (λ cs. all_satisfied (is_met_at (read_in m known shown []) (outer_places m) row) (take leaf.demanded cs))
      (sym t.under.conditions)
      ∙ ap (all_satisfied (is_met_at (read_in m known shown []) (outer_places m) row))
      (take_of_map (cond_of []) leaf.demanded leaf.conditions)
      ∙ all_of_map (cond_of []) (is_met_at (read_in m known shown []) (outer_places m) row) (take leaf.demanded leaf.conditions)

  -- The rows of a statement meet the check options alike.
  pub rows_check_same : (rows : List Row) → AllByRecursion IsWide rows
      → by_name.check_options_met m t.target rows ≡ all_satisfied (check_option_met shown (seen_in m queries) leaf) rows
  rows_check_same rows w =
      all_alike IsWide (meets_check_option (reading_in m) (outer_env m) t.target)
      (check_option_met shown (seen_in m queries) leaf) row_check_same rows w

  -- a searched statement demands no condition of its own
  pub searched_check_same : (clause : Clause Named) (rows : List Row)
      → by_name.check_options_met m (searched m known shown bases name leaf t clause) rows
      ≡ by_name.check_options_met m t.target rows
  searched_check_same clause rows =
      all_alike (λ row. ⊤) (meets_check_option (reading_in m) (outer_env m) (searched m known shown bases name leaf t clause))
      (meets_check_option (reading_in m) (outer_env m) t.target)
      (λ row any. ap (meets_levels (reading_in m) (outer_env m) row) (take-append-le t.target.demanded t.target.levels (own ∷ []) t.under.few)) rows
      (all_any rows)
    where
      own : Level
      own = record { item = table_item name t.descriptor; columns = t.target.columns; condition = clause }

      all_any : (rows : List Row) → AllByRecursion (λ row. ⊤) rows
      all_any [] = tt
      all_any (row ∷ rows) = (tt, all_any rows)

  -- What the changed table comes to is the same.
  pub completed_same : (rows : List Row) (changed : Table) → AllByRecursion IsWide rows
      → ChecksSame m queries shown bases t.base leaf.table rows changed
      → by_name.completed m t.target t.base rows changed ≡ by_place.completed shown (seen_in m queries) bases leaf rows changed
  completed_same rows changed w same =
      (λ i. and_then (rows_check_same rows w i) (λ _. completed_with m t.base (with_table m.content (t.under.place i) changed)))
      ∙ ap (λ o. and_then (all_satisfied (check_option_met shown (seen_in m queries) leaf) rows) (λ _. o)) same
      ∙ sym (then_then (all_satisfied (check_option_met shown (seen_in m queries) leaf) rows) (λ _. all_satisfied (row_met shown (seen_in m queries) leaf.table) rows)
      (λ _. and_then (keys_met leaf.table changed) (λ _.
      and_then (demanded (references_met bases (with_table m.content leaf.table.place changed)) IntegrityConstraintViolation)
      (λ _. Ok (with_table m.content leaf.table.place changed)))))
