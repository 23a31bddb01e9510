-- The rows that a searched UPDATE or DELETE changes, on a base table or through an updatable view, are the same by its places and by its
-- names (ISO/IEC 9075:1992, 13.7 and 13.10).
use Rattle.std.proofs.Common.{◌≡◌, ℕ, suc, ◌+◌, ◌<◌, ◌≤◌, true, List, [], ◌∷◌, ◌++◌, drop, length, map, None, refl, sym, ap, subst, ◌∙◌, arith, Ok}
use Rattle.std.proofs.lemmas.List.{length-map, take-append-le}
use Rattle.std.specs.Prelude.{nat_lt, slice_index, if◌then◌else◌, IfOk}
use Rattle.std.specs.List.{AllByRecursion, enumerate_from}
use Rattle.sq_store.specs.Content.{table_at}
use Rattle.sq_store.specs.declared.table.Numbered.{Numbered}
use Rattle.sq_meaning.specs.Environment.{Item, Row, TableName}
use Rattle.sq_meaning.specs.Spelled.{Named}
use Rattle.sq_meaning.specs.Status.{Outcome, and_then, not_well_formed}
use Rattle.sq_meaning.specs.Syntax.{Clause}
use Rattle.sq_meaning.specs.Tables.{TableDescriptor, column_names}
use Rattle.sq_meaning.specs.Target.{Level, Target, chosen, chosen_numbers, places_of, searched_target, seen_through, target_of}
use Rattle.sq_meaning.specs.Change as by_name
use Rattle.sq_meaning.specs.Change.{if_some, outer_env, reading_in, rows_at, tables_in}
use Rattle.sq_bound.specs.Condition.{PlacedClause, clause_of}
use Rattle.sq_bound.specs.Known.{KnownTables, Under}
use Rattle.sq_bound.specs.declared.condition.BoundSpecification.{BoundSpecification}
use Rattle.sq_bound.specs.declared.names.BaseTable.{BaseTable as BoundTable}
use Rattle.sq_bound.specs.declared.names.Column.{Column}
use Rattle.sq_bound.specs.declared.names.Leaf.{Leaf}
use Rattle.sq_bound.specs.declared.names.ParameterDesc.{ParameterDesc}
use Rattle.sq_bound.specs.declared.query.Target.{Target as BoundTarget}
use Rattle.sq_binding.specs.PlacedQuery.{clause_placed}
use Rattle.sq_binding.specs.Scope.{item_named}
use Rattle.sq_binding.specs.Names.{leaf_positions}
use Rattle.sq_binding.specs.Written.{item_at_leaf}
use Rattle.sq_query.specs.Table.{stored_numbered}
use Rattle.sq_query.specs.Target.{conditions_of, is_true_of, numbers_chosen}
use Rattle.sq_change.specs.Made.{Shown, numbers_found}
use Rattle.sq_run.proofs.Places.Items.{IsFit, names_at_leaf}
use Rattle.sq_run.proofs.Changed.Levels.{HasLength, IsLevelAs, IsTargetAs, conditions_written, length_of_both, row_reaches, width_at}
use Rattle.sq_run.proofs.Places.Lists.{at_drop}
use Rattle.sq_run.proofs.Places.Outcomes.{append_zip, if_one, if_then, known_of, same_length}
use Rattle.sq_run.proofs.Places.Parameters.{AreNamed}
use Rattle.sq_run.proofs.Changed.RowsAgain.{AreNumbersIn, IsWithin, chosen_within, numbers_of}
use Rattle.sq_run.proofs.Places.Setting.{around}
use Rattle.sq_run.proofs.Places.ShownColumns.{get_some}
use Rattle.sq_run.proofs.Sites.Stars.{ClauseStars}
use Rattle.sq_run.proofs.Changed.Statements.{IsTableIn, call_seen, outer_places, read_in, seen_in, values_in}
use Rattle.sq_run.proofs.Changed.Targets.{Reaches, SameLevel, level_same, numbers_same, written}

-- ---- a table as its own item

none_dropped : {A : Type 0} (xs : List A) → drop 0 xs ≡ xs
none_dropped [] = refl
none_dropped (x ∷ xs) = refl

index_from : {A : Type 0} (xs rest : List ℕ) (n : ℕ) (ys : List A) → drop n xs ≡ rest → length ys ≡ length rest
    → map (λ k. slice_index xs k) (map (λ p. p.0) (enumerate_from n ys)) ≡ rest
index_from xs [] n [] e l = refl
index_from xs [] n (y ∷ ys) e l = absurd (omega arith)
index_from xs (r ∷ rest) n [] e l = absurd (omega arith)
index_from xs (r ∷ rest) n (y ∷ ys) e l =
    let at = at_drop n xs r rest e in
    let fewer : length ys ≡ length rest = omega arith in
    let next : n + 1 ≡ suc n = omega arith in
    (λ i. get_some xs n r at.0 i ∷ index_from xs rest (n + 1) ys (ap (λ k. drop k xs) next ∙ at.1) fewer i)

-- all columns, as many as there are
all_columns_shown : {A : Type 0} (xs : List ℕ) (ys : List A) → length ys ≡ length xs
    → map (λ k. slice_index xs k) (places_of ys) ≡ xs
all_columns_shown xs ys l = index_from xs xs 0 ys (none_dropped xs) l

-- the table of a statement as an item
abbrev pub table_item : TableName → TableDescriptor → Item
table_item name d = record { reference = record { table = name; correlation = None }; columns = column_names d }

module _ (m : by_name.Setting) (known : KnownTables) (shown : Shown) (bases : List BoundTable) (name : TableName) (leaf : Leaf)
    (t : IsTableIn m known shown bases name leaf) where
  -- the statement's target, its search condition behind those of the views between
  abbrev pub searched : Clause Named → Target
  searched clause =
      seen_through
      (record { item = table_item name t.descriptor; columns = places_of (column_names t.descriptor); condition = clause }) t.target

  pub searched_is : (clause : Clause Named) → searched_target (tables_in m) name clause ≡ Ok (searched clause)
  searched_is clause =
      ap (λ (o : Outcome TableDescriptor). and_then (and_then o (λ d. Ok (table_item name d))) (λ item. and_then (target_of (tables_in m) name)
      (λ under. Ok (seen_through (record { item = item; columns = places_of item.columns; condition = clause }) under)))) t.is_there
      ∙ ap (λ (o : Outcome Target). and_then o (λ under. Ok (seen_through (record { item = table_item name t.descriptor; columns = places_of (column_names t.descriptor); condition = clause }) under))) t.means

  columns_count : length (column_names t.descriptor) ≡ length t.target.columns
  columns_count =
      ap length t.names ∙ length-map t.table.columns (λ (c : Column). c.name)
      ∙ sym (ap length t.under.columns_are ∙ length-map t.table.columns (λ (c : Column). c.leaf_column))

  -- The query over the table shows all its columns.
  pub columns_shown : (clause : Clause Named) → (searched clause).columns ≡ t.target.columns
  columns_shown clause = all_columns_shown t.target.columns (column_names t.descriptor) columns_count

  -- the item is the one that binding makes, with its columns placed in the base table
  pub item_is : table_item name t.descriptor ≡ item_named (item_at_leaf name t.table)
  item_is =
      ap (λ ns. record { reference = record { table = name; correlation = None }; columns = ns })
      (t.names ∙ sym (names_at_leaf t.table.columns))

-- ---- the rows that a target means

stored_rows : (m : by_name.Setting) (place : ℕ) → nat_lt place (length m.content) ≡ true
    → stored_numbered m.content place ≡ Ok (rows_at m place)
stored_rows m place there =
    ap (λ b. and_then (if b then Ok (table_at m.content place) else not_well_formed) (λ found. Ok found.rows)) there

-- The numbers of the rows that a target means are the same, or the status is.
pub target_numbers_same : (m : by_name.Setting) (known : KnownTables) (shown : Shown) (bases : List BoundTable) (columns : List ℕ)
    (u : Under) (target : Target)
    → IsTargetAs (reading_in m) shown bases m.content (outer_env m) (outer_places m) columns u target
    → chosen_numbers (reading_in m) (outer_env m) target (rows_at m target.place)
    ≡ and_then (stored_numbered m.content u.base) (numbers_chosen (is_true_of shown (values_in m) m.user) u.conditions)
target_numbers_same m known shown bases columns u target w =
    numbers_same (read_in m known shown []) (outer_env m) (values_in m) m.user
    (HasLength (width_at bases target.place)) target w.clauses u.conditions w.levels w.conditions (rows_at m target.place) w.wide
    ∙ sym (ap (λ (o : Outcome (List Numbered)). and_then o (numbers_chosen (is_true_of shown (values_in m) m.user) u.conditions))
    (ap (stored_numbered m.content) (sym w.place) ∙ stored_rows m target.place w.stored))

-- ---- a search condition

-- What is bound of the rows that a search condition keeps: the conditions of the views between, and the statement's own (13.7 and 13.10).
-- `*` stands in no grouped query of it, which the rules of well-formed statements say.
pub record IsSearchIn (m : by_name.Setting) (known : KnownTables) (shown : Shown) (bases : List BoundTable)
    (parameters : List ParameterDesc) (name : TableName) (clause : Clause Named) (x : BoundTarget) : Type 0 where
  pub table : IsTableIn m known shown bases name x.leaf
  pub own : clause_placed (around (read_in m known shown parameters) ((item_at_leaf name table.table ∷ []) ∷ [])) clause
      ≡ Ok (clause_of [] x.condition)
  pub stars : ClauseStars clause

module _ (m : by_name.Setting) (queries : List BoundSpecification) (known : KnownTables) (shown : Shown) (bases : List BoundTable)
    (parameters : List ParameterDesc) (names : AreNamed parameters m.inputs)
    (fit : IsFit (read_in m known shown parameters)) (name : TableName) (clause : Clause Named) (x : BoundTarget)
    (h : IsSearchIn m known shown bases parameters name clause x) where
  abbrev target : Target
  target = searched m known shown bases name x.leaf h.table clause

  -- the level of the statement itself
  abbrev own_level : Level
  own_level = record { item = table_item name h.table.descriptor; columns = h.table.target.columns; condition = clause }

  pub reaches : (row : Row) → HasLength (width_at bases h.table.target.place) row → Reaches h.table.table.columns row
  reaches =
      row_reaches
      (width_at bases h.table.target.place) h.table.table.columns h.table.target.columns h.table.under.columns_are h.table.under.within

  abbrev IsLevel : Level → PlacedClause → Type 0
  IsLevel = IsLevelAs (reading_in m) shown (outer_env m) (outer_places m) (width_at bases h.table.target.place)

  own_same : IsLevel own_level (clause_of [] x.condition)
  own_same = λ row l.
      known_of (clause_placed (around (read_in m known shown parameters) ((item_at_leaf name h.table.table ∷ []) ∷ [])) clause)
      (SameLevel (read_in m known shown parameters) (outer_env m) (outer_places m) (Reaches h.table.table.columns) own_level)
      (clause_of [] x.condition)
      (level_same (read_in m known shown parameters) fit h.table.table.columns (item_at_leaf name h.table.table) own_level
      (record { item_is = item_is m known shown bases name x.leaf h.table; columns_are = h.table.under.columns_are; at_leaf = refl }) h.stars
      (outer_env m) (outer_places m) (call_seen m parameters names))
      h.own row (reaches row l)

  -- what is under the search
  abbrev under_search : Under
  under_search = record { base = x.base; conditions = conditions_of x; demanded = x.leaf.demanded }

  pub searched_as : IsTargetAs (reading_in m) shown bases m.content (outer_env m) (outer_places m)
      (leaf_positions h.table.table.columns) under_search target
  searched_as =
      let w = h.table.under in
      let few = w.few in
      let more : length h.table.target.levels ≤ length target.levels = length_of_both h.table.target.levels own_level in
      let below : h.table.target.demanded ≤ length w.clauses
      = subst (λ n. h.table.target.demanded ≤ n) (same_length IsLevel h.table.target.levels w.clauses w.levels) w.few in
      record {
        place = w.place ∙ sym x.is_under;
        columns_are = columns_shown m known shown bases name x.leaf h.table clause ∙ w.columns_are;
        stored = w.stored;
        within = subst (λ ps. AllByRecursion (λ p. p < width_at bases h.table.target.place) ps) (sym (columns_shown m known shown bases name x.leaf h.table clause)) w.within;
        wide = w.wide;
        clauses = w.clauses ++ clause_of [] x.condition ∷ [];
        levels = append_zip IsLevel h.table.target.levels (own_level ∷ []) w.clauses (clause_of [] x.condition ∷ []) w.levels (own_same, tt);
        conditions = conditions_written w.clauses x.leaf.conditions x.condition w.conditions;
        few = omega (arith, few, more);
        demanded = w.demanded ∙ sym (ap (λ cs. length (written cs)) (take-append-le h.table.target.demanded w.clauses (clause_of [] x.condition ∷ []) below));
      }

  -- The numbers of the rows that it keeps are the same, or the status is.
  pub numbers_found_same : and_then (chosen_numbers (reading_in m) (outer_env m) target (rows_at m target.place)) if_some
      ≡ numbers_found shown (seen_in m queries) x
  numbers_found_same =
      ap (λ (o : Outcome (List ℕ)). and_then o if_some)
      (target_numbers_same m known shown bases (leaf_positions h.table.table.columns) under_search target searched_as)

  -- The numbers chosen are numbers of rows of the table.
  pub numbers_within : IfOk (and_then (chosen_numbers (reading_in m) (outer_env m) target (rows_at m target.place)) if_some)
      (AreNumbersIn (rows_at m target.place))
  numbers_within =
      if_then (chosen_numbers (reading_in m) (outer_env m) target (rows_at m target.place)) if_some
      (AreNumbersIn (rows_at m target.place)) (AreNumbersIn (rows_at m target.place))
      (if_one (chosen (reading_in m) (outer_env m) target.levels (rows_at m target.place)) (λ found. numbers_of found) (λ found. IsWithin found (rows_at m target.place)) (AreNumbersIn (rows_at m target.place))
      (chosen_within (reading_in m) (outer_env m) target.levels (rows_at m target.place)) (λ found w. (found, refl, w)))
      some_of
    where
      some_of : (numbers : List ℕ) → AreNumbersIn (rows_at m target.place) numbers
          → IfOk (if_some numbers) (AreNumbersIn (rows_at m target.place))
      some_of [] w = tt
      some_of (n ∷ numbers) w = w
