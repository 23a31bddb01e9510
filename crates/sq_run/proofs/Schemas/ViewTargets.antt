-- Whatever views stand between, the target that a name means is what is known under the name (ISO/IEC 9075:1992, 7.9 and 11.19).
use Rattle.std.proofs.Common.{◌≡◌, ℕ, ◌+◌, ◌<◌, ◌≤◌, Bool, true, false, not, List, [], ◌∷◌, length, map, Some, refl, sym, ap, subst, ◌∙◌, arith, Ok, Err}
use Rattle.std.proofs.lemmas.List.{length-map}
use Rattle.std.specs.Prelude.{◌&&◌, nat_lt, if◌then◌else◌, IfSome}
use Rattle.std.specs.List.{AllByRecursion, enumerate_from}
use Rattle.sq_lex.specs.declared.name.Name.{Name}
use Rattle.sq_value.specs.Domain.{IsOfKind}
use Rattle.sq_value.specs.declared.domain.Kind.{Kind}
use Rattle.sq_store.specs.Content.{Content, table_at}
use Rattle.sq_store.specs.declared.table.Numbered.{Numbered}
use Rattle.sq_meaning.specs.Database.{IsBodyOf, IsDatabaseOf}
use Rattle.sq_meaning.specs.Environment.{Env, Item, Row, TableName, TableReference, same_table}
use Rattle.sq_meaning.specs.Query.{is_grouped}
use Rattle.sq_meaning.specs.Spelled.{Named}
use Rattle.sq_meaning.specs.Status.{Outcome, and_then, well_formed, well_formed_if}
use Rattle.sq_meaning.specs.Syntax.{Clause, Select, SelectList, absent, select}
use Rattle.sq_meaning.specs.Tables.{TableBody, TableDescriptor, Tables, base_table, viewed_table, by_name, column_kinds, column_names, descriptor_of, item_of, kinds_by_name, rows_in, table_rows}
use Rattle.sq_meaning.specs.Target.{Source, Target, base_target, clause_has_subquery, places_of, seen_through, shown_columns, target_of, updatable_source, with_check_option}
use Rattle.sq_meaning.specs.WellFormed.{AreRowsOf, Has}
use Rattle.sq_bound.specs.Condition.{cond_of}
use Rattle.sq_bound.specs.Known.{KnownTable, KnownTables, Under, under_of}
use Rattle.sq_bound.specs.WellFormed.{TableKinds, kinds_of_columns}
use Rattle.sq_bound.specs.declared.condition.BoundSpecification.{BoundSpecification}
use Rattle.sq_bound.specs.declared.condition.TablePlace.{TablePlace}
use Rattle.sq_bound.specs.declared.condition.TablePlace.TheVariants.{Base, View}
use Rattle.sq_bound.specs.declared.names.BaseTable.{BaseTable}
use Rattle.sq_bound.specs.declared.names.Column.{Column}
use Rattle.sq_bound.specs.declared.query.UpdatableQuery.{UpdatableQuery}
use Rattle.sq_binding.specs.Names.{leaf_positions}
use Rattle.sq_binding.specs.Written.{IsUpdatableOf}
use Rattle.sq_query.specs.Table.{AreMeant}
use Rattle.sq_query.specs.Target.{and_own}
use Rattle.sq_run.proofs.Places.Databases.{AreDeclared, IsDeclaredAs, IsSameTable, StandsAt, each_same, in_database, known_if, table_is}
use Rattle.sq_run.proofs.Places.Items.{IsFit, names_of_columns}
use Rattle.sq_run.proofs.Changed.Levels.{HasLength, IsTargetAs, item_found, query_as, width_at}
use Rattle.sq_run.proofs.Places.Outcomes.{same_length}
use Rattle.sq_run.proofs.Places.Seen.{SeenEnv}
use Rattle.sq_run.proofs.Sites.StarRules.{select_stars}
use Rattle.sq_run.proofs.Sites.Stars.{SelectStars}
use Rattle.sq_run.proofs.Changed.Targets.{AreWide}

-- ---- what is declared of what is under a table

-- What is under a view that may be changed: the base table under the table of its query, and behind the conditions in between its own.
-- New and changed rows have to meet all of them where the check option is written, and else those that they have to meet below.
pub record IsUnderView (known : KnownTables) (q : Select Named) (check_option : Bool) (columns : List Column)
    (u : Under) : Type 0 where
  pub over : UpdatableQuery
  pub is_over : IsUpdatableOf known [] q over
  pub base : u.base ≡ over.target.leaf.table.place
  pub conditions : u.conditions ≡ and_own over.target.leaf.conditions over.target.condition
  pub demanded : u.demanded ≡ (if check_option then length u.conditions else over.target.leaf.demanded)
  pub shows : leaf_positions columns ≡ over.columns

-- a base table is under itself, and its columns are its own
abbrev pub IsUnderBody : KnownTables → List BaseTable → TableBody → List Column → Under → Type 0
IsUnderBody known bases (base_table n) columns u =
    (u ≡ record { base = n; conditions = []; demanded = 0 }) ×
    (leaf_positions columns ≡ map (λ p. p.0) (enumerate_from 0 columns)) × (length columns ≡ width_at bases n)
IsUnderBody known bases (viewed_table q check_option) columns u = IsUnderView known q check_option columns u

-- What is under each table and view that may be changed is what the catalog says.
abbrev pub AreUnder : KnownTables → List BaseTable → Tables → Type 0
AreUnder known bases tables =
    AllByRecursion
    (λ d. Has (λ t. IfSome t.under (IsUnderBody known bases d.body t.columns)) (well_formed (known d.table.user d.table.name))) tables

-- ---- what an updatable query means by name

pub record IsMadeOver (earlier : Tables) (r : TableReference) (list : SelectList Named) (filter : Clause Named)
    (check_option : Bool) (target : Target) : Type 0 where
  pub descriptor : TableDescriptor
  pub is_there : descriptor_of earlier r.table ≡ Ok descriptor
  pub columns : List ℕ
  pub shown : shown_columns (item_found r descriptor) list ≡ Ok columns
  pub under : Target
  pub means : target_of earlier r.table ≡ Ok under
  pub target_is : with_check_option check_option (seen_through (record { item = item_found r descriptor; columns = columns; condition = filter }) under) ≡ target

pub made_over : (earlier : Tables) (r : TableReference) (list : SelectList Named) (filter : Clause Named) (check_option : Bool)
    (target : Target)
    → and_then (updatable_source earlier (select false list (r ∷ []) filter [] absent))
    (λ source. and_then (target_of earlier source.item.reference.table) (λ under. Ok (with_check_option check_option (seen_through source under)))) ≡ Ok target
    → IsMadeOver earlier r list filter check_option target
made_over earlier r list filter check_option target e =
    by_rules (well_formed_if (not false && not (is_grouped list [] absent) && not (clause_has_subquery filter))) e
  where
    made : Item → List ℕ → Source
    made item columns = record { item = item; columns = columns; condition = filter }

    with_under : Source → Outcome Target
    with_under source =
        and_then (target_of earlier source.item.reference.table)
        (λ under. Ok (with_check_option check_option (seen_through source under)))

    by_target : (d : TableDescriptor) → descriptor_of earlier r.table ≡ Ok d → (columns : List ℕ)
        → shown_columns (item_found r d) list ≡ Ok columns
        → (o : Outcome Target) → target_of earlier r.table
        ≡ o → and_then o (λ under. Ok (with_check_option check_option (seen_through (made (item_found r d) columns) under)))
        ≡ Ok target
        → IsMadeOver earlier r list filter check_option target
    by_target d is columns shown (Err status) means e = cc
    by_target d is columns shown (Ok under) means e =
        let same : with_check_option check_option (seen_through (made (item_found r d) columns) under) ≡ target = cc in
        record { descriptor = d; is_there = is; columns = columns; shown = shown; under = under; means = means; target_is = same }

    by_columns : (d : TableDescriptor) → descriptor_of earlier r.table ≡ Ok d → (o : Outcome (List ℕ))
        → shown_columns (item_found r d) list ≡ o
        → and_then (and_then o (λ columns. Ok (made (item_found r d) columns))) with_under ≡ Ok target
        → IsMadeOver earlier r list filter check_option target
    by_columns d is (Err status) shown e = cc
    by_columns d is (Ok columns) shown e = by_target d is columns shown (target_of earlier r.table) refl e

    by_table : (o : Outcome TableDescriptor) → descriptor_of earlier r.table ≡ o
        → and_then (and_then (and_then o (λ d. Ok (item_found r d))) (λ item. and_then (shown_columns item list) (λ columns. Ok (made item columns)))) with_under ≡ Ok target
        → IsMadeOver earlier r list filter check_option target
    by_table (Err status) is e = cc
    by_table (Ok d) is e = by_columns d is (shown_columns (item_found r d) list) refl e

    by_rules : (o : Outcome (Unit {0}))
        → and_then (and_then o (λ _. and_then (item_of earlier r) (λ item. and_then (shown_columns item list) (λ columns. Ok (made item columns))))) with_under ≡ Ok target
        → IsMadeOver earlier r list filter check_option target
    by_rules (Err status) e = cc
    by_rules (Ok done) e = by_table (descriptor_of earlier r.table) refl e

-- ---- places

places_below : {A : Type 0} (n width : ℕ) (xs : List A) → n + length xs ≤ width
    → AllByRecursion (λ p. p < width) (map (λ p. p.0) (enumerate_from n xs))
places_below n width [] le = tt
places_below n width (x ∷ xs) le = let here : n < width = omega arith in let further : n + 1 + length xs ≤ width = omega arith in (here, places_below (n + 1) width xs further)

places_alike : {A B : Type 0} (n : ℕ) (xs : List A) (ys : List B) → length xs ≡ length ys
    → map (λ p. p.0) (enumerate_from n xs) ≡ map (λ p. p.0) (enumerate_from n ys)
places_alike n [] [] e = refl
places_alike n [] (y ∷ ys) e = absurd (omega arith)
places_alike n (x ∷ xs) [] e = absurd (omega arith)
places_alike n (x ∷ xs) (y ∷ ys) e = let fewer : length xs ≡ length ys = omega arith in ap (λ ps. n ∷ ps) (places_alike (n + 1) xs ys fewer)

-- ---- along the views

module _ (tables : Tables) (content : Content) (user : Name) (known : KnownTables) (kinds : TableKinds)
    (queries : List BoundSpecification) (shown : TablePlace → Outcome (List Row)) (bases : List BaseTable)
    (meant : AreMeant queries content user shown) where
  -- the names of a table that is found among these
  pub names_there : (earlier : Tables) → IsDatabaseOf earlier content user → AreDeclared known kinds queries content earlier
      → (name : TableName) (d : TableDescriptor) → descriptor_of earlier name
      ≡ Ok d → (t : KnownTable) → known name.user name.name ≡ Some t → column_names d ≡ names_of_columns t.columns
  names_there earlier kept declared name d is t is_known =
      (subst (λ found. IfSome found (IsSameTable (Ok d) (table_rows earlier content user name) kinds shown)) is_known
      (subst (λ o. IfSome (known_if o (known name.user name.name)) (IsSameTable o (table_rows earlier content user name) kinds shown)) is
      (each_same content user known kinds queries shown meant earlier kept declared name))).0

  module _ (fit : IsFit (in_database tables content user known shown [])) (env : Env Item) (other : Env (Unit {0}))
      (seen : SeenEnv [] [] env other) where
    abbrev IsAs : List Column → Under → Target → Type 0
    IsAs columns u target =
        IsTargetAs (by_name tables content user) shown bases content env other (leaf_positions columns) u target

    -- a base table
    rows_as_wide : (ks : List Kind) (rows : List Numbered) → AreRowsOf ks (map (λ r. r.row) rows)
        → AreWide (HasLength (length ks)) rows
    rows_as_wide ks [] h = tt
    rows_as_wide ks (r ∷ rows) h = (sym (same_length IsOfKind ks r.row h.0), rows_as_wide ks rows h.1)

    base_as : (d : TableDescriptor) (n : ℕ) (columns : List Column) (u : Under) → column_kinds d ≡ kinds_of_columns columns
        → AreRowsOf (column_kinds d) (rows_in (table_at content n))
        → nat_lt n (length content) ≡ true → IsUnderBody known bases (base_table n) columns u
        → IsAs columns u (base_target n (places_of d.columns))
    base_as d n columns u same rows there h =
        let kinds_count : length (kinds_of_columns columns) ≡ length columns = length-map columns (λ (c : Column). c.kind) in
        let count : length d.columns ≡ length columns = sym (length-map d.columns (λ c. c.kind)) ∙ ap length same ∙ kinds_count in
        let fewer : 0 + length d.columns ≤ width_at bases n = omega (arith, count, h.2) in
        record {
          place = sym (ap (λ (v : Under). v.base) h.0);
          columns_are = places_alike 0 d.columns columns count ∙ sym h.1;
          stored = there;
          within = places_below 0 (width_at bases n) d.columns fewer;
          wide = subst (λ w. AreWide (HasLength w) (table_at content n).rows) (kinds_count ∙ h.2)
              (rows_as_wide (kinds_of_columns columns) (table_at content n).rows (subst (λ ks. AreRowsOf ks (rows_in (table_at content n))) same rows));
          clauses = [];
          levels = tt;
          conditions = ap (λ (v : Under). map (cond_of []) v.conditions) h.0;
          few = omega arith;
          demanded = ap (λ (v : Under). v.demanded) h.0;
        }

    -- what a table's name means, where the others before it are as they are known
    abbrev pub EachTarget : Tables → Type 0
    EachTarget earlier =
        (name : TableName) (target : Target) → target_of earlier name ≡ Ok target →
        (t : KnownTable) → known name.user name.name ≡ Some t → (u : Under) → t.under ≡ Some u → IsAs t.columns u target

    view_as : (earlier : Tables) → IsDatabaseOf earlier content user → AreDeclared known kinds queries content earlier
        → EachTarget earlier
        → (ks : List Kind) (q : Select Named) (check_option : Bool) → IsBodyOf earlier content user ks
        (viewed_table q check_option)
        → (columns : List Column) (u : Under) (target : Target) → IsUnderView known q check_option columns u
        → and_then (updatable_source earlier q)
        (λ source. and_then (target_of earlier source.item.reference.table) (λ under. Ok (with_check_option check_option (seen_through source under)))) ≡ Ok target
        → IsAs columns u target
    view_as earlier kept declared each ks q check_option body columns u target h e =
        subst (IsAs columns u) made.target_is
        (query_as tables content user known shown bases [] fit env other seen text.reference made.descriptor text.table made.under text.list text.filter h.over made.columns
        (names_there earlier kept declared text.reference.table made.descriptor made.is_there text.table text.is_known)
        (each text.reference.table made.under made.means text.table text.is_known (under_of h.over.target.leaf) text.is_over)
        stars.1 (text.condition []) text.shown text.list_is text.columns made.shown check_option
        (leaf_positions columns) u h.base h.conditions h.demanded h.shows)
      where
        text : IsUpdatableOf known [] q h.over
        text = h.is_over

        made : IsMadeOver earlier text.reference text.list text.filter check_option target
        made =
            made_over earlier text.reference text.list text.filter check_option target
            (subst (λ p. and_then (updatable_source earlier p) (λ source. and_then (target_of earlier source.item.reference.table) (λ under. Ok (with_check_option check_option (seen_through source under)))) ≡ Ok target) text.is_plain e)

        stars : SelectStars (select false text.list (text.reference ∷ []) text.filter [] absent)
        stars =
            subst SelectStars text.is_plain
            (select_stars (by_name earlier content user) (kinds_by_name earlier []) (λ p. ⊥) [] q body.0)

    body_as : (d : TableDescriptor) (earlier : Tables) → IsDatabaseOf earlier content user
        → AreDeclared known kinds queries content earlier → EachTarget earlier
        → (body : TableBody) → IsBodyOf earlier content user (column_kinds d) body → (columns : List Column) → column_kinds d
        ≡ kinds_of_columns columns → (place : TablePlace) → StandsAt known queries content body place
        → (u : Under) (target : Target) → IsUnderBody known bases body columns u
        → (elim body as (λ _. Outcome Target) [
          | base_table n ↦ Ok (base_target n (places_of d.columns))
          | viewed_table q check_option ↦ and_then (updatable_source earlier q) (λ source. and_then (target_of earlier source.item.reference.table) (λ under. Ok (with_check_option check_option (seen_through source under))))
        ]) ≡ Ok target
        → IsAs columns u target
    body_as d earlier kept declared each (base_table n) rows columns same (Base place) stands u target h e =
        let is : base_target n (places_of d.columns) ≡ target = cc in subst (IsAs columns u) is (base_as d n columns u same rows stands.1 h)
    body_as d earlier kept declared each (base_table n) rows columns same (View place) stands u target h e = absurd stands
    body_as d earlier kept declared each (viewed_table q check_option) body columns same place stands u target h e =
        view_as earlier kept declared each (column_kinds d) q check_option body columns u target h e

    -- Each target that a name means is what is known under the name.
    pub each_target : (earlier : Tables) → IsDatabaseOf earlier content user → AreDeclared known kinds queries content earlier
        → AreUnder known bases earlier → EachTarget earlier
    each_target [] kept declared under name target e t is_known u has = cc
    each_target (d ∷ earlier) kept declared under name target e t is_known u has =
        split (each_target earlier kept.1 declared.1 under.1) (same_table d.table name) refl e
      where
        of_name : (P : TableName → Type 0) → same_table d.table name ≡ true → P d.table → P name
        of_name P same h = subst P (table_is d.table name same) h

        split : EachTarget earlier → (b : Bool) → same_table d.table name ≡ b
            → (elim b as (λ _. Outcome Target) [
              | false ↦ target_of earlier name
              | true ↦ elim d.body as (λ _. Outcome Target) [
                | base_table place ↦ Ok (base_target place (places_of d.columns))
                | viewed_table q check_option ↦ and_then (updatable_source earlier q) (λ source. and_then (target_of earlier source.item.reference.table) (λ under. Ok (with_check_option check_option (seen_through source under))))
              ]
            ]) ≡ Ok target
            → IsAs t.columns u target
        split among false same e = among name target e t is_known u has
        split among true same e =
            let here : IsDeclaredAs known kinds queries content d t
            = subst (λ found. Has (IsDeclaredAs known kinds queries content d) (well_formed found)) is_known
            (of_name (λ n. Has (IsDeclaredAs known kinds queries content d) (well_formed (known n.user n.name))) same declared.0) in
            let below : IsUnderBody known bases d.body t.columns u
            = subst (λ o. IfSome o (IsUnderBody known bases d.body t.columns)) has
            (subst (λ found. Has (λ k. IfSome k.under (IsUnderBody known bases d.body k.columns)) (well_formed found)) is_known
            (of_name (λ n. Has (λ k. IfSome k.under (IsUnderBody known bases d.body k.columns)) (well_formed (known n.user n.name))) same under.0)) in
            body_as d earlier kept.1 declared.1 among d.body kept.0 t.columns here.kinds t.place here.stands u target below e
