-- The rows of an updatable table or view are those that its target means: rows of the base table under it that meet its
-- conditions, in its columns (ISO/IEC 9075:1992, 7.9, 11.19).
use Rattle.std.proofs.Common.{ap, arith, subst, sym, ◌∙◌}
use Rattle.std.proofs.lemmas.Bool.{and_parts, not-true}
use Rattle.std.proofs.lemmas.List.{append-nil, length-map}
use Rattle.std.proofs.lemmas.List.Concat.{flat_map_single}
use Rattle.std.proofs.lemmas.Option.{slice_get-get_or}
use Rattle.std.proofs.lemmas.Simd.{map-map}
use Rattle.std.specs.List.{AllByRecursion, enumerate_from}
use Rattle.std.specs.Prelude.{◌≡◌, ⊤, ℕ, suc, ◌+◌, ◌<◌, Bool, true, false, not, ◌&&◌, List, [], ◌∷◌, ◌++◌, length, map, slice_index_or, if◌then◌else◌, Option, refl, Some, None, Ok, Err}
use Rattle.sq_lex.specs.declared.name.Name.{Name}
use Rattle.sq_value.specs.Key.{in_columns}
use Rattle.sq_value.specs.declared.value.Value.{Value}
use Rattle.sq_value.specs.declared.value.Value.TheVariants.{Null}
use Rattle.sq_store.specs.Content.{Content, table_at}
use Rattle.sq_store.specs.declared.table.Numbered.{Numbered}
use Rattle.sq_tree.specs.declared.names.ColumnReference.{ColumnReference}
use Rattle.sq_tree.specs.declared.schema.SchemaElement.{SchemaElement}
use Rattle.sq_tree.specs.declared.schema.SchemaElement.TheVariants as element
use Rattle.sq_tree.specs.declared.schema.ViewDefinition.{ViewDefinition}
use Rattle.sq_meaning.specs.Environment.{Env, Input, Item, Line, Place, Row, Scope, TableName, TableReference, alone, column_in, outermost, place_of, same_table, value_at, within}
use Rattle.sq_meaning.specs.Expression.{Reading, value}
use Rattle.sq_meaning.specs.Rows.{product}
use Rattle.sq_meaning.specs.Query.{clause_functions, clause_truth, group_scopes, is_grouped, is_some_of, is_true, list_functions, listed_values, rows, scopes_of}
use Rattle.sq_meaning.specs.Spelled.{Named, select_of}
use Rattle.sq_meaning.specs.Status.{Outcome, and_then, each, kept, well_formed, well_formed_if}
use Rattle.sq_meaning.specs.Syntax.{Clause, Expr, Select, SelectList, absent, added, all_columns, bracketed, column, count_rows, expressions, literal, parameter, present, scaled, select, set_function, signed, user}
use Rattle.sq_meaning.specs.Tables.{TableDescriptor, Tables, base_table, column_names, reading_by_name, rows_in, table_rows, viewed_table}
use Rattle.sq_meaning.specs.Target.{Level, Source, Target, base_target, chosen, clause_has_subquery, places_of, seen_through, shown_column, shown_columns, target_of, updatable_source, view_target, with_check_option}
use Rattle.sq_meaning.proofs.AnswerLaws.{all_weaker}
use Rattle.sq_meaning.proofs.Bind.{bind_ok}
use Rattle.sq_meaning.proofs.OutcomeLaws.{kept_all, kept_map}
use Rattle.sq_meaning.specs.Binding.{unknown_parameter}
use Rattle.sq_meaning.specs.Catalog.{base_count, column_descriptor, table_descriptor, tables_of, view_descriptor, with_made}
use Rattle.sq_meaning.specs.Schema.{Elements, column_definitions}
use Rattle.sq_meaning.specs.SchemaRefusal.{view_has_fault, view_judged, view_sites}
use Rattle.sq_meaning.specs.Site.{Site, inside_query, known_tables, outside, plain_query, select_sites}
use Rattle.sq_run.proofs.Laws.PlainConditions.{clause_plain}
use Rattle.sq_run.proofs.Laws.TargetColumns.{AllNamesFit, AreAsWide, IsOver, all_below, are_as_wide, column_below, expressions_shown, is_over, meant, place_found, taken_in_turn}
use Rattle.sq_run.proofs.Laws.TargetRows.{chosen_last, read_parts}
use Rattle.sq_run.proofs.Sites.SiteLaws.{IsSound as Clean, sound_sites}

-- ---- a row in all its columns

shifted : {A : Type 0} (row : Row) (v : Value) (n : ℕ) (xs : List A)
    → in_columns (v ∷ row) (map (λ p. p.0) (enumerate_from (n + 1) xs)) ≡ in_columns row (map (λ p. p.0) (enumerate_from n xs))
shifted row v n [] = refl
shifted row v n (x ∷ xs) =
    let next : n + 1 ≡ suc n = omega arith in
    (λ i. ap (λ k. slice_index_or (v ∷ row) k Null) next i ∷ shifted row v (n + 1) xs i)

pub whole_row : {A : Type 0} (row : Row) (xs : List A) → length row ≡ length xs → in_columns row (places_of xs) ≡ row
whole_row [] [] e = refl
whole_row [] (x ∷ xs) e = absurd (omega (arith, e))
whole_row (v ∷ row) [] e = absurd (omega (arith, e))
whole_row (v ∷ row) (x ∷ xs) e =
    let rest : length row ≡ length xs = omega (arith, e) in (λ i. v ∷ (shifted row v 0 xs ∙ whole_row row xs rest) i)

-- ---- what a select list shows of a row

module _ (m : Reading Named) (places : m.place ≡ place_of) (inputs : List Input) (caller : Name) (item : Item) (x : Row) (as_wide : length x ≡ length item.columns) where
  abbrev here : Env Item
  here = within (alone (item ∷ []) (x ∷ [])) (outermost inputs caller)

  column_value : (c : ColumnReference) (k : ℕ) → column_in c item ≡ Some k → value m (column c) here ≡ Ok (slice_index_or x k Null)
  column_value c k e =
      let less = column_below item c k e in
      let within_row : k < length x = omega (arith, less, as_wide) in
      ap (λ f. and_then (f c ((item ∷ []) ∷ [])) (value_at here)) places
      ∙ ap (λ (o : Outcome Place). and_then o (value_at here)) (place_found item c k e)
      ∙ ap well_formed (slice_get-get_or x k Null within_row)

  one_value : (e : Expr Named) (k : ℕ) → shown_column item e ≡ Ok k → value m e here ≡ Ok (slice_index_or x k Null)
  one_value (column c) k is = by_place (column_in c item) refl is
    where
      by_place : (o : Option ℕ) → column_in c item ≡ o → well_formed o ≡ Ok k → value m (column c) here ≡ Ok (slice_index_or x k Null)
      by_place None e is = cc
      by_place (Some n) e is = let same : n ≡ k = cc in column_value c k (e ∙ ap Some same)
  one_value (literal v) k is = cc
  one_value (parameter p) k is = cc
  one_value user k is = cc
  one_value count_rows k is = cc
  one_value (set_function function distinct e) k is = cc
  one_value (signed sign e) k is = cc
  one_value (added sign a b) k is = cc
  one_value (scaled sign a b) k is = cc
  one_value (bracketed e) k is = cc

  each_value_shown : (es : List (Expr Named)) (ks : List ℕ) → each (shown_column item) es ≡ Ok ks → each (λ e. value m e here) es ≡ Ok (in_columns x ks)
  each_value_shown [] ks e = let none : [] ≡ ks = cc in ap (λ zs. Ok (in_columns x zs)) none
  each_value_shown (y ∷ es) ks e =
      let first = bind_ok (shown_column item y) _ ks e in
      let others = bind_ok (each (shown_column item) es) (λ zs. Ok (first.0 ∷ zs)) ks first.2 in
      let all : first.0 ∷ others.0 ≡ ks = cc in
      (λ i. and_then (one_value y first.0 first.1 i) (λ v. and_then (each_value_shown es others.0 others.1 i) (λ vs. Ok (v ∷ vs))))
      ∙ ap (λ zs. Ok (in_columns x zs)) all

  row_shown : (list : SelectList Named) (ks : List ℕ) → shown_columns item list ≡ Ok ks → listed_values m list here ≡ Ok (in_columns x ks)
  row_shown all_columns ks e =
      let same : places_of item.columns ≡ ks = cc in
      ap Ok (append-nil x ∙ sym (whole_row x item.columns as_wide) ∙ ap (in_columns x) same)
  row_shown (expressions es) ks e = each_value_shown es ks (expressions_shown item es ks e)

-- ---- the query of a view

module _ (earlier : Tables) (content : Content) (caller : Name) (tables : Tables) (rows_of : TableName → Outcome (List Row)) (inputs : List Input) where
  abbrev m : Reading Named
  m = reading_by_name earlier (table_rows earlier content caller)

  abbrev n : Reading Named
  n = reading_by_name tables rows_of

  abbrev env : Env Item
  env = outermost inputs caller

  abbrev beneath : Env Item
  beneath = outermost [] caller

  abbrev stored : Target → List Numbered
  stored target = (table_at content target.place).rows

  -- the rows that a target means, in its columns
  abbrev shown_by : Target → Outcome (List Row)
  shown_by target = and_then (chosen n env target.levels (stored target)) (λ rs. Ok (map (λ r. in_columns r.row target.columns) rs))

  abbrev HaveNone : List Site → Type 0
  HaveNone sites = AllByRecursion (λ x. unknown_parameter (known_tables earlier) x ≡ false) sites

  module _ (list : SelectList Named) (from : List TableReference) (filter : Clause Named) (found : Source) (over : IsOver earlier list from filter found)
      (ungrouped : is_some_of (list_functions list) ≡ false) (plain : clause_has_subquery filter ≡ false)
      (free : HaveNone (select_sites (known_tables earlier) outside (select false list from filter [] absent)))
      (under : Target) (as_wide : length (over.table).columns ≡ length under.columns) (means : table_rows earlier content caller over.reference.table ≡ shown_by under) where
    abbrev item : Item
    item = record { reference = over.reference; columns = column_names over.table }

    abbrev source : Source
    source = record { item = item; columns = over.columns; condition = filter }

    abbrev target : Target
    target = seen_through source under

    abbrev seen : Numbered → Row
    seen r = in_columns r.row under.columns

    abbrev as_line : Numbered → Line
    as_line r = seen r ∷ []

    columns_wide : length under.columns ≡ length item.columns
    columns_wide = sym as_wide ∙ sym (length-map (over.table).columns (λ c. c.name))

    one_shown : (r : Numbered) → listed_values m list (within (alone (item ∷ []) (as_line r)) beneath) ≡ Ok (in_columns r.row target.columns)
    one_shown r =
        let wide = columns_wide in
        row_shown m refl [] caller item (seen r) (length-map under.columns (λ c. slice_index_or r.row c Null) ∙ wide) list over.columns over.shown
        ∙ ap Ok (sym (taken_in_turn r.row under.columns over.columns
        (subst (λ (k : ℕ). AllByRecursion (λ c. c < k) over.columns) (sym wide) (all_below item list over.columns over.shown))))

    all_shown : (rs : List Numbered)
        → each (λ scope. listed_values m list (within scope beneath)) (map (alone (item ∷ [])) (map as_line rs)) ≡ Ok (map (λ r. in_columns r.row target.columns) rs)
    all_shown [] = refl
    all_shown (r ∷ rs) = (λ i. and_then (one_shown r i) (λ v. and_then (all_shown rs i) (λ vs. Ok (v ∷ vs))))

    -- behind WHERE
    abbrev listed : List Line → Outcome (List Row)
    listed lines =
        and_then (scopes_of m list [] absent (item ∷ []) lines beneath) (λ scopes. and_then
        (kept (λ (scope : Scope Item). is_true (clause_truth m absent (within scope beneath))) scopes) (λ left. and_then (each (λ scope. listed_values m list (within scope beneath)) left) (λ shown. Ok shown)))

    lines_listed : (rs : List Numbered) → listed (map as_line rs) ≡ Ok (map (λ r. in_columns r.row target.columns) rs)
    lines_listed rs =
        ap (λ (b : Bool). and_then (if b then group_scopes m (list_functions list ++ clause_functions absent) [] (item ∷ []) (map as_line rs) beneath else Ok (map (alone (item ∷ [])) (map as_line rs))) (λ scopes. and_then
        (kept (λ (scope : Scope Item). is_true (clause_truth m absent (within scope beneath))) scopes) (λ left. and_then (each (λ scope. listed_values m list (within scope beneath)) left) (λ shown. Ok shown)))) ungrouped
        ∙ ap (λ (o : Outcome (List (Scope Item))). and_then o (λ left. and_then (each (λ scope. listed_values m list (within scope beneath)) left) (λ shown. Ok shown))) (kept_all (map (alone (item ∷ [])) (map as_line rs)))
        ∙ ap (λ (o : Outcome (List Row)). and_then o (λ shown. Ok shown)) (all_shown rs)

    -- WHERE
    abbrev test : Line → Outcome Bool
    test line = is_true (clause_truth m filter (within (alone (item ∷ []) line) beneath))

    abbrev own : Numbered → Outcome Bool
    own r = is_true (clause_truth n filter (within (alone (item ∷ []) (as_line r)) env))

    test_is : (r : Numbered) → test (as_line r) ≡ own r
    test_is r =
        ap is_true (clause_plain earlier earlier tables (table_rows earlier content caller) rows_of [] inputs caller (inside_query outside (plain_query from) false) filter plain
        (read_parts (λ x. unknown_parameter (known_tables earlier) x ≡ false) (known_tables earlier) false list from filter [] absent free).1 (alone (item ∷ []) (as_line r) ∷ []))

    abbrev in_target : Numbered → Row
    in_target r = in_columns r.row target.columns

    by_kept : (o : Outcome (List Numbered)) → and_then (and_then o (λ rs. Ok (map as_line rs))) listed ≡ and_then (and_then o (λ rs. Ok rs)) (λ rs. Ok (map in_target rs))
    by_kept (Err st) = refl
    by_kept (Ok rs) = lines_listed rs

    lines_kept : (rs : List Numbered) → and_then (kept test (product (map seen rs ∷ []))) listed ≡ and_then (and_then (kept own rs) (λ ys. Ok ys)) (λ ys. Ok (map in_target ys))
    lines_kept rs =
        ap (λ (lines : List Line). and_then (kept test lines) listed) (flat_map_single (λ (x : Row). x ∷ []) (map seen rs) ∙ map-map (λ (x : Row). x ∷ []) seen rs)
        ∙ ap (λ (o : Outcome (List Line)). and_then o listed) (kept_map as_line test rs)
        ∙ ap (λ (o : Outcome (List Numbered)). and_then (and_then o (λ ys. Ok (map as_line ys))) listed) (λ i. kept (λ r. test_is r i) rs)
        ∙ by_kept (kept own rs)

    abbrev last : Level
    last = record { item = item; columns = under.columns; condition = filter }

    by_chosen : (o : Outcome (List Numbered))
        → and_then (and_then (and_then o (λ rs. Ok (map seen rs))) (λ y. Ok (y ∷ []))) (λ ts. and_then (kept test (product ts)) listed)
        ≡ and_then (and_then o (chosen n env (last ∷ []))) (λ rs. Ok (map in_target rs))
    by_chosen (Err st) = refl
    by_chosen (Ok rs) = lines_kept rs

    plain_rows : rows m (select false list from filter [] absent) beneath ≡ shown_by target
    plain_rows =
        ap (λ (rs : List TableReference). rows m (select false list rs filter [] absent) beneath) over.alone
        ∙ ap
        (λ (o : Outcome TableDescriptor).
        and_then (and_then (and_then o (λ d. Ok (record { reference = over.reference; columns = column_names d }))) (λ y. Ok (y ∷ []))) (λ (heads : List Item). and_then (and_then (table_rows earlier content caller over.reference.table) (λ y. Ok (y ∷ []))) (λ (ts : List (List Row)). and_then
        (kept (λ (line : Line). is_true (clause_truth m filter (within (alone heads line) beneath))) (product ts)) (λ (lines : List Line). and_then (scopes_of m list [] absent heads lines beneath) (λ (scopes : List (Scope Item)). and_then
        (kept (λ (scope : Scope Item). is_true (clause_truth m absent (within scope beneath))) scopes) (λ left. and_then (each (λ scope. listed_values m list (within scope beneath)) left) (λ shown. Ok shown))))))) over.there
        ∙ ap (λ (o : Outcome (List Row)). and_then (and_then o (λ y. Ok (y ∷ []))) (λ (ts : List (List Row)). and_then (kept test (product ts)) listed)) means
        ∙ by_chosen (chosen n env under.levels (stored under))
        ∙ sym (ap (λ (o : Outcome (List Numbered)). and_then o (λ rs. Ok (map in_target rs))) (chosen_last n env under.levels last (stored under)))

  true_if : (b : Bool) (x : Unit {0}) → well_formed_if b ≡ Ok x → b ≡ true
  true_if true x e = refl
  true_if false x e = cc

  updatable_rows : (distinct : Bool) (list : SelectList Named) (from : List TableReference) (filter : Clause Named) (by : List ColumnReference) (having : Clause Named) (found : Source)
      (over : IsOver earlier list from filter found) → (not distinct && not (is_grouped list by having) && not (clause_has_subquery filter)) ≡ true
      → HaveNone (select_sites (known_tables earlier) outside (select distinct list from filter by having))
      → (under : Target) → length (over.table).columns ≡ length under.columns → table_rows earlier content caller over.reference.table ≡ shown_by under
      → rows m (select distinct list from filter by having) beneath
      ≡ shown_by (seen_through (record { item = record { reference = over.reference; columns = column_names over.table }; columns = over.columns; condition = filter }) under)
  updatable_rows true list from filter by having found over e free under wide means = cc
  updatable_rows false list from filter (c ∷ by) having found over e free under wide means = cc
  updatable_rows false list from filter [] (present h) found over e free under wide means = cc
  updatable_rows false list from filter [] absent found over e free under wide means =
      let parts = and_parts (not (is_some_of (list_functions list))) (not (clause_has_subquery filter)) e in
      plain_rows list from filter found over (not-true (is_some_of (list_functions list)) parts.0) (not-true (clause_has_subquery filter) parts.1) free under wide means

  -- a query whose table means what it reads
  query_rows : (q : Select Named) (found : Source) → updatable_source earlier q ≡ Ok found → HaveNone (select_sites (known_tables earlier) outside q)
      → (under : Target) → target_of earlier found.item.reference.table ≡ Ok under → AreAsWide earlier
      → ((name : TableName) (target : Target) → target_of earlier name ≡ Ok target → table_rows earlier content caller name ≡ shown_by target)
      → rows m q beneath ≡ shown_by (seen_through found under)
  query_rows (select distinct list from filter by having) found e free under means wide read =
      let over = is_over earlier distinct list from filter by having found e in
      let plain = bind_ok (well_formed_if (not distinct && not (is_grouped list by having) && not (clause_has_subquery filter))) _ found e in
      let here : target_of earlier over.reference.table ≡ Ok under = ap (λ (x : Source). target_of earlier x.item.reference.table) (sym over.is) ∙ means in
      updatable_rows distinct list from filter by having found over
      (true_if (not distinct && not (is_grouped list by having) && not (clause_has_subquery filter)) plain.0 plain.1) free under
      (wide over.reference.table over.table under over.there here) (read over.reference.table under here)
      ∙ ap (λ (x : Source). shown_by (seen_through x under)) (sym over.is)

-- ---- each table and view

module _ (content : Content) (caller : Name) where
  -- the rows of a base table have a value for each column, and a view's query has no fault
  abbrev pub IsSound : Elements → Name → SchemaElement → Type 0
  IsSound before owner (element.Table t) = AllByRecursion (λ (row : Row). length row ≡ length (column_definitions t)) (rows_in (table_at content (base_count before)))
  IsSound before owner (element.View v) = view_has_fault before owner v ≡ false
  IsSound before owner (element.Grant g) = ⊤

  abbrev pub AllSound : Elements → Type 0
  AllSound [] = ⊤
  AllSound (e ∷ before) = IsSound before e.user e.element × AllSound before

  module _ (tables : Tables) (rows_of : TableName → Outcome (List Row)) (inputs : List Input) where
    abbrev pub shown : Target → Outcome (List Row)
    shown target =
        and_then (chosen (reading_by_name tables rows_of) (outermost inputs caller) target.levels (table_at content target.place).rows) (λ rs. Ok (map (λ r. in_columns r.row target.columns) rs))

    abbrev AreRead : Tables → Type 0
    AreRead earlier = (name : TableName) (target : Target) → target_of earlier name ≡ Ok target → table_rows earlier content caller name ≡ shown target

    abbrev body_rows : TableDescriptor → Tables → Outcome (List Row)
    body_rows d earlier =
        elim d.body as (λ _. Outcome (List Row)) [
          | base_table place ↦ Ok (rows_in (table_at content place))
          | viewed_table q check_option ↦ rows (reading_by_name earlier (table_rows earlier content caller)) q (outermost [] caller)
        ]

    one_read : (x : TableDescriptor) (earlier : Tables) → ((target : Target) → meant x earlier ≡ Ok target → body_rows x earlier ≡ shown target) → AreRead earlier → AreRead (x ∷ earlier)
    one_read x earlier first others name target means = by_name (same_table x.table name) means
      where
        by_name : (b : Bool) → (elim b as (λ _. Outcome Target) [ false ↦ target_of earlier name | true ↦ meant x earlier ]) ≡ Ok target
            → (elim b as (λ _. Outcome (List Row)) [ false ↦ table_rows earlier content caller name | true ↦ body_rows x earlier ]) ≡ shown target
        by_name true means = first target means
        by_name false means = others name target means

    whole_rows : {A : Type 0} (xs : List A) (rs : List Numbered) → AllByRecursion (λ (row : Row). length row ≡ length xs) (map (λ r. r.row) rs)
        → map (λ r. r.row) rs ≡ map (λ r. in_columns r.row (places_of xs)) rs
    whole_rows xs [] h = refl
    whole_rows xs (r ∷ rs) h = (λ i. sym (whole_row r.row xs h.0) i ∷ whole_rows xs rs h.1 i)

    checked_shown : (b : Bool) (t : Target) → shown (with_check_option b t) ≡ shown t
    checked_shown true t = refl
    checked_shown false t = refl

    view_read : (before : Elements) (owner : Name) (v : ViewDefinition) → view_has_fault before owner v ≡ false → AreAsWide (tables_of before) → AreRead (tables_of before)
        → (target : Target) → meant (view_descriptor (tables_of before) owner v) (tables_of before) ≡ Ok target → body_rows (view_descriptor (tables_of before) owner v) (tables_of before) ≡ shown target
    view_read before owner v sound wide read target e =
        let earlier = tables_of before in
        let source = bind_ok (updatable_source earlier (select_of owner v.query)) (view_target (target_of earlier) v.check_option) target e in
        let under = bind_ok (target_of earlier (source.0).item.reference.table) (λ u. Ok (with_check_option v.check_option (seen_through source.0 u))) target source.2 in
        let same : with_check_option v.check_option (seen_through source.0 under.0) ≡ target = cc in
        query_rows earlier content caller tables rows_of inputs (select_of owner v.query) source.0 source.1
        (all_weaker (Clean (known_tables earlier)) (λ x. unknown_parameter (known_tables earlier) x ≡ false) (λ x h. h.parameters) (view_sites before owner v) (sound_sites (view_judged before owner) (view_sites before owner v) sound))
        under.0 under.1 wide read
        ∙ sym (checked_shown v.check_option (seen_through source.0 under.0)) ∙ ap shown same

    pub are_read : (elements : Elements) → AllNamesFit elements → AllSound elements → AreRead (tables_of elements)
    are_read [] fit sound = λ name target means. cc
    are_read (e ∷ before) fit sound = by_element e.element sound.0 (are_as_wide before fit.1) (are_read before fit.1 sound.1)
      where
        by_element : (x : SchemaElement) → IsSound before e.user x → AreAsWide (tables_of before) → AreRead (tables_of before) → AreRead (with_made (tables_of before) (base_count before) e.user x)
        by_element (element.Table t) sound wide others =
            one_read (table_descriptor (base_count before) e.user t) (tables_of before)
            (λ target means. let same : base_target (base_count before) (places_of (table_descriptor (base_count before) e.user t).columns) ≡ target = cc in
            let columns = length-map (column_definitions t) column_descriptor in
            ap Ok (whole_rows (table_descriptor (base_count before) e.user t).columns (table_at content (base_count before)).rows
            (all_weaker (λ (row : Row). length row ≡ length (column_definitions t)) (λ (row : Row). length row ≡ length (table_descriptor (base_count before) e.user t).columns)
            (λ row is. is ∙ sym columns) (rows_in (table_at content (base_count before))) sound))
            ∙ ap shown same) others
        by_element (element.View v) sound wide others =
            one_read (view_descriptor (tables_of before) e.user v) (tables_of before) (view_read before e.user v sound wide others) others
        by_element (element.Grant g) sound wide others = others
