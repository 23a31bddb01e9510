-- Whatever views stand between, a target has by its places what it has by its names (ISO/IEC 9075:1992, 7.9 and 11.19): its base table,
-- the columns of it that are shown, the conditions of the views from inside out, and how many of them check options demand.
use Rattle.std.proofs.Common.{◌≡◌, ℕ, zero, suc, ◌<◌, ◌≤◌, Bool, true, false, List, [], ◌∷◌, ◌++◌, length, map, take, Option, Some, None, refl, sym, ap, subst, ◌∙◌, arith, Ok}
use Rattle.std.proofs.lemmas.List.{append-nil, length-map, map-append, take-append-le}
use Rattle.std.specs.Prelude.{nat_lt, slice_get, slice_index, if◌then◌else◌, IfOk}
use Rattle.std.specs.List.{AllByRecursion, AllZip}
use Rattle.std.specs.Option.{option_map_or}
use Rattle.sq_lex.specs.declared.name.Name.{Name}
use Rattle.sq_store.specs.Content.{Content, table_at}
use Rattle.sq_meaning.specs.Environment.{Env, Item, Row, TableReference}
use Rattle.sq_meaning.specs.Expression.{Reading}
use Rattle.sq_meaning.specs.Placed.{by_place}
use Rattle.sq_meaning.specs.Query.{clause_truth}
use Rattle.sq_meaning.specs.Spelled.{Named}
use Rattle.sq_meaning.specs.Status.{Outcome}
use Rattle.sq_meaning.specs.Syntax.{Clause, SelectList, absent, present}
use Rattle.sq_meaning.specs.Tables.{TableDescriptor, Tables, by_name, column_names}
use Rattle.sq_meaning.specs.Target.{Level, Target, level_truth, seen_through, shown_columns, with_check_option}
use Rattle.sq_meaning.proofs.AnswerLaws.{all_weaker}
use Rattle.sq_bound.specs.Condition.{PlacedClause, clause_of, cond_of}
use Rattle.sq_bound.specs.Expression.{PlacedExpr}
use Rattle.sq_bound.specs.Known.{KnownTable, KnownTables, Under, under_of}
use Rattle.sq_bound.specs.declared.condition.BoundCond.{BoundCond}
use Rattle.sq_bound.specs.declared.condition.TablePlace.{TablePlace}
use Rattle.sq_bound.specs.declared.names.BaseTable.{BaseTable}
use Rattle.sq_bound.specs.declared.names.Column.{Column}
use Rattle.sq_bound.specs.declared.names.ParameterDesc.{ParameterDesc}
use Rattle.sq_bound.specs.declared.query.UpdatableQuery.{UpdatableQuery}
use Rattle.sq_binding.specs.PlacedQuery.{clause_placed, list_placed}
use Rattle.sq_binding.specs.Scope.{item_named}
use Rattle.sq_binding.specs.Names.{leaf_positions}
use Rattle.sq_binding.specs.Written.{IsShownAt, leaf_item}
use Rattle.sq_query.specs.Target.{and_own}
use Rattle.sq_change.proofs.Changes.RowsChanged.{all_unmapped}
use Rattle.sq_run.proofs.Places.Databases.{in_database}
use Rattle.sq_run.proofs.Places.Items.{IsFit, names_at_leaf, names_of_columns, names_over, over_in_order}
use Rattle.sq_run.proofs.Places.Outcomes.{append_zip, known_of, same_length}
use Rattle.sq_run.proofs.Places.Seen.{SeenEnv}
use Rattle.sq_run.proofs.Places.Setting.{Setting, around, known_item}
use Rattle.sq_run.proofs.Places.ShownColumns.{IsColumnAt, list_shown, positions_same}
use Rattle.sq_run.proofs.Sites.Stars.{ClauseStars}
use Rattle.sq_run.proofs.Changed.Targets.{AreWide, IsAtLeaf, Reaches, SameLevel, level_same, on_row, written}

-- ---- a target in two readings

abbrev pub HasLength : ℕ → Row → Type 0
HasLength width row = length row ≡ width

-- how many columns the base table at a place has
abbrev pub width_at : List BaseTable → ℕ → ℕ
width_at bases place = option_map_or (λ b. length b.columns) (slice_get bases place) 0

-- the condition of a level has the truth of the one that is bound, on each row that is wide enough
abbrev pub IsLevelAs : Reading Named → (TablePlace → Outcome (List Row)) → Env Item → Env (Unit {0}) → ℕ → Level → PlacedClause
    → Type 0
IsLevelAs m shown env other width level c =
    (row : Row) → HasLength width row → level_truth m env level row ≡ clause_truth (by_place shown) c (on_row row other)

-- A target by name has the base table and the columns that are known by place; the rows of the base table have a value for each; each
-- condition that is known is that of a level; and as many of them are demanded.
pub record IsTargetAs (m : Reading Named) (shown : TablePlace → Outcome (List Row)) (bases : List BaseTable) (content : Content)
    (env : Env Item) (other : Env (Unit {0})) (positions : List ℕ) (u : Under) (target : Target) : Type 0 where
  pub place : target.place ≡ u.base
  pub columns_are : target.columns ≡ positions
  pub stored : nat_lt target.place (length content) ≡ true
  pub within : AllByRecursion (λ p. p < width_at bases target.place) target.columns
  pub wide : AreWide (HasLength (width_at bases target.place)) (table_at content target.place).rows
  pub clauses : List PlacedClause
  pub levels : AllZip (IsLevelAs m shown env other (width_at bases target.place)) target.levels clauses
  pub conditions : map (cond_of []) u.conditions ≡ written clauses
  pub few : target.demanded ≤ length target.levels
  pub demanded : u.demanded ≡ length (written (take target.demanded clauses))

-- such a row has a value for each column
pub row_reaches : (width : ℕ) (columns : List Column) (positions : List ℕ) → positions ≡ leaf_positions columns
    → AllByRecursion (λ p. p < width) positions → (row : Row) → HasLength width row → Reaches columns row
row_reaches width columns positions e within row l =
    all_unmapped (λ p. p < length row) (λ (c : Column). c.leaf_column) columns
    (all_weaker (λ p. p < width) (λ p. p < length row) (λ p lt. subst (λ n. p < n) (sym l) lt) (leaf_positions columns) (subst (λ ps. AllByRecursion (λ p. p < width) ps) e within))

-- ---- lists

take_all : {A : Type 0} (xs : List A) → take (length xs) xs ≡ xs
take_all [] = refl
take_all (x ∷ xs) = ap (λ zs. x ∷ zs) (take_all xs)

pub length_of_both : {A : Type 0} (xs : List A) (y : A) → length xs ≤ length (xs ++ y ∷ [])
length_of_both [] y = omega arith
length_of_both (x ∷ xs) y = let rest : length xs ≤ length (xs ++ y ∷ []) = length_of_both xs y in omega (arith, rest)

at_within : (P : ℕ → Type 0) (xs : List ℕ) (n p : ℕ) → AllByRecursion P xs → slice_get xs n ≡ Some p → P p
at_within P [] n p h e = cc
at_within P (x ∷ xs) zero p h e = let same : x ≡ p = cc in subst P same h.0
at_within P (x ∷ xs) (suc n) p h e = at_within P xs n p h.1 e

-- ---- conditions

written_append : (cs ds : List PlacedClause) → written (cs ++ ds) ≡ written cs ++ written ds
written_append [] ds = refl
written_append (absent ∷ cs) ds = written_append cs ds
written_append (present c ∷ cs) ds = ap (λ rest. c ∷ rest) (written_append cs ds)

-- the conditions of the views, and one of its own
pub conditions_written : (cs : List PlacedClause) (conditions : List BoundCond) (own : Option BoundCond)
    → map (cond_of []) conditions ≡ written cs
    → map (cond_of []) (and_own conditions own) ≡ written (cs ++ clause_of [] own ∷ [])
conditions_written cs conditions None e = e ∙ sym (append-nil (written cs)) ∙ sym (written_append cs (absent ∷ []))
conditions_written cs conditions (Some c) e =
    map-append (cond_of []) conditions (c ∷ []) ∙ ap (λ ds. ds ++ cond_of [] c ∷ []) e
    ∙ sym (written_append cs (present (cond_of [] c) ∷ []))

-- ---- one query more

-- the item of a table that is found
abbrev pub item_found : TableReference → TableDescriptor → Item
item_found r d = record { reference = r; columns = column_names d }

-- where a text of a procedure with these parameters is read in a database
module _ (tables : Tables) (content : Content) (user : Name) (known : KnownTables) (shown : TablePlace → Outcome (List Row))
    (bases : List BaseTable) (parameters : List ParameterDesc)
    (fit : IsFit (in_database tables content user known shown parameters)) (env : Env Item) (other : Env (Unit {0}))
    (seen : SeenEnv parameters [] env other) where
  abbrev s : Setting
  s = in_database tables content user known shown parameters

  abbrev m : Reading Named
  m = by_name tables content user

  -- an updatable query over a table of which it is known already what is under it
  module _ (r : TableReference) (d : TableDescriptor) (table : KnownTable) (under : Target) (list : SelectList Named)
      (filter : Clause Named) (over : UpdatableQuery) (columns : List ℕ)
      (names : column_names d ≡ names_of_columns table.columns)
      (w : IsTargetAs m shown bases content env other (leaf_positions table.columns) (under_of over.target.leaf) under)
      (stars : ClauseStars filter)
      (condition : clause_placed (around s ((leaf_item r table ∷ []) ∷ [])) filter ≡ Ok (clause_of [] over.target.condition))
      (xs : List PlacedExpr) (list_is : list_placed (around s (((known_item r table).item ∷ []) ∷ [])) ((known_item r table).item ∷ []) list ≡ Ok xs)
      (shown_at : AllZip (IsShownAt table.columns) xs over.columns)
      (shows : shown_columns (item_found r d) list ≡ Ok columns) where
    abbrev width : ℕ
    width = width_at bases under.place

    abbrev own_level : Level
    own_level = record { item = item_found r d; columns = under.columns; condition = filter }

    abbrev through : Target
    through = seen_through (record { item = item_found r d; columns = columns; condition = filter }) under

    abbrev clauses_through : List PlacedClause
    clauses_through = w.clauses ++ clause_of [] over.target.condition ∷ []

    own_level_is : IsAtLeaf table.columns (leaf_item r table) own_level
    own_level_is = record {
      item_is = ap (λ ns. record { reference = r; columns = ns }) (names ∙ sym (names_at_leaf table.columns));
      columns_are = w.columns_are;
      at_leaf = refl;
    }

    own_same : IsLevelAs m shown env other width own_level (clause_of [] over.target.condition)
    own_same = λ row l.
        known_of (clause_placed (around s ((leaf_item r table ∷ []) ∷ [])) filter)
        (SameLevel s env other (Reaches table.columns) own_level) (clause_of [] over.target.condition)
        (level_same s fit table.columns (leaf_item r table) own_level own_level_is stars env other seen) condition
        row (row_reaches width table.columns under.columns w.columns_are w.within row l)

    -- the columns that are shown
    columns_at : AllZip IsColumnAt xs columns
    columns_at =
        known_of (shown_columns (item_named (known_item r table).item) list) (AllZip IsColumnAt xs) columns
        (known_of (list_placed (around s (((known_item r table).item ∷ []) ∷ [])) ((known_item r table).item ∷ []) list) (λ ys. IfOk (shown_columns (item_named (known_item r table).item) list) (AllZip IsColumnAt ys)) xs
        (list_shown s r table (over_in_order r table) list) list_is)
        (sym (ap (λ ns. shown_columns (record { reference = r; columns = ns }) list) (names ∙ sym (names_over 0 table.columns))) ∙ shows)

    columns_through : through.columns ≡ over.columns
    columns_through =
        ap (λ ps. map (λ k. slice_index ps k) columns) w.columns_are
        ∙ positions_same table.columns xs columns over.columns columns_at shown_at

    shown_within : (es : List PlacedExpr) (ps : List ℕ) → AllZip (IsShownAt table.columns) es ps
        → AllByRecursion (λ p. p < width) ps
    shown_within [] [] h = tt
    shown_within [] (p ∷ ps) h = absurd h
    shown_within (e ∷ es) [] h = absurd h
    shown_within (e ∷ es) (p ∷ ps) h =
        (at_within (λ n. n < width) (leaf_positions table.columns) h.0.0.column p (subst (λ ns. AllByRecursion (λ n. n < width) ns) w.columns_are w.within) h.0.2, shown_within es ps h.1)

    levels_through : AllZip (IsLevelAs m shown env other width) through.levels clauses_through
    levels_through =
        append_zip (IsLevelAs m shown env other width) under.levels (own_level ∷ []) w.clauses
        (clause_of [] over.target.condition ∷ []) w.levels (own_same, tt)

    count_through : length through.levels ≡ length clauses_through
    count_through = same_length (IsLevelAs m shown env other width) through.levels clauses_through levels_through

    conditions_through : map (cond_of []) (and_own over.target.leaf.conditions over.target.condition) ≡ written clauses_through
    conditions_through = conditions_written w.clauses over.target.leaf.conditions over.target.condition w.conditions

    -- With a check option all conditions are demanded, and else those that are demanded below.
    pub query_as : (check_option : Bool) (positions : List ℕ) (u : Under) → u.base ≡ over.target.leaf.table.place
        → u.conditions ≡ and_own over.target.leaf.conditions over.target.condition
        → u.demanded ≡ (if check_option then length u.conditions else over.target.leaf.demanded) → positions ≡ over.columns
        → IsTargetAs m shown bases content env other positions u (with_check_option check_option through)
    query_as true positions u base conditions demanded at =
        let written_is : map (cond_of []) u.conditions ≡ written clauses_through
        = ap (map (cond_of [])) conditions ∙ conditions_through in
        record {
          place = w.place ∙ sym base;
          columns_are = columns_through ∙ sym at;
          stored = w.stored;
          within = subst (λ ns. AllByRecursion (λ n. n < width) ns) (sym columns_through) (shown_within xs over.columns shown_at);
          wide = w.wide;
          clauses = clauses_through;
          levels = levels_through;
          conditions = written_is;
          few = omega arith;
          demanded =
              demanded ∙ sym (length-map u.conditions (cond_of [])) ∙ ap length written_is
              ∙ sym (ap (λ n. length (written (take n clauses_through))) count_through ∙ ap (λ cs. length (written cs)) (take_all clauses_through));
        }
    query_as false positions u base conditions demanded at =
        let below : under.demanded ≤ length w.clauses
        = subst (λ n. under.demanded ≤ n)
        (same_length (IsLevelAs m shown env other width) under.levels w.clauses w.levels) w.few in
        let more : length under.levels ≤ length through.levels = length_of_both under.levels own_level in
        let few = w.few in
        record {
          place = w.place ∙ sym base;
          columns_are = columns_through ∙ sym at;
          stored = w.stored;
          within = subst (λ ns. AllByRecursion (λ n. n < width) ns) (sym columns_through) (shown_within xs over.columns shown_at);
          wide = w.wide;
          clauses = clauses_through;
          levels = levels_through;
          conditions = ap (map (cond_of [])) conditions ∙ conditions_through;
          few = omega (arith, few, more);
          demanded = demanded ∙ w.demanded ∙ sym (ap (λ cs. length (written cs)) (take-append-le under.demanded w.clauses (clause_of [] over.target.condition ∷ []) below));
        }
