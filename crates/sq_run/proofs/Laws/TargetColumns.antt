-- An updatable query shows columns of the table or view that its FROM clause names, and the target of a table or view has a
-- column of the base table for each of its columns (ISO/IEC 9075:1992, 7.9 and 11.19).
use Rattle.std.proofs.Common.{ap, arith, eqb-true, subst, sym, ◌∙◌}
use Rattle.std.proofs.lemmas.Bool.{not-false}
use Rattle.std.proofs.lemmas.Option.{slice_get-get_or}
use Rattle.std.proofs.lemmas.List.{append-nil, get_or-map, length-map}
use Rattle.std.proofs.lemmas.List.FromFn.{length-enumerate_from}
use Rattle.std.proofs.lemmas.List.Quantifiers.{position-Some}
use Rattle.std.proofs.lemmas.Slice.Zip.{length-zip}
use Rattle.std.specs.List.{AllByRecursion, cons_option, enumerate_from, sum, zip}
use Rattle.std.specs.Prelude.{◌≡◌, ⊤, ℕ, suc, ◌+◌, ◌<◌, ◌≤◌, ◌==◌, Bool, true, false, cond, not, ◌&&◌, List, [], ◌∷◌, length, map, find, get_or, slice_get, slice_index, slice_index_or, if◌then◌else◌, flat_map, Option, option_map, unwrap_or, refl, Some, None, Ok}
use Rattle.std.specs.Result.{result_ok}
use Rattle.sq_lex.specs.declared.name.Name.{Name}
use Rattle.sq_value.specs.Key.{in_columns}
use Rattle.sq_value.specs.declared.domain.Kind.{Kind}
use Rattle.sq_value.specs.declared.domain.Kind.TheVariants.{Num}
use Rattle.sq_value.specs.declared.value.Value.TheVariants.{Null}
use Rattle.sq_tree.specs.declared.list.CommaList.{CommaList}
use Rattle.sq_tree.specs.declared.names.ColumnReference.{ColumnReference}
use Rattle.sq_tree.specs.declared.schema.SchemaElement.{SchemaElement}
use Rattle.sq_tree.specs.declared.schema.SchemaElement.TheVariants as element
use Rattle.sq_tree.specs.declared.schema.ViewDefinition.{ViewDefinition}
use Rattle.sq_meaning.specs.Environment.{Item, Place, Row, TableName, TableReference, column_in, column_named, names_item, nearest, place_of, same_name, same_table}
use Rattle.sq_meaning.specs.Kind.{kind, select_kinds}
use Rattle.sq_meaning.specs.Query.{is_grouped}
use Rattle.sq_meaning.specs.SortKeys.{item_name, select_names}
use Rattle.sq_meaning.specs.Spelled.{Named, listed, select_of}
use Rattle.sq_meaning.specs.Status.{Outcome, and_then, each, not_well_formed, well_formed, well_formed_if}
use Rattle.sq_meaning.specs.Syntax.{Clause, Expr, Select, SelectList, added, all_columns, bracketed, column, count_rows, expressions, literal, parameter, scaled, select, set_function, signed, user}
use Rattle.sq_meaning.specs.Tables.{ColumnDescriptor, TableDescriptor, Tables, base_table, column_kinds, column_names, descriptor_of, item_of, kind_at, kinds_by_name, viewed_table}
use Rattle.sq_meaning.specs.Target.{Source, Target, are_distinct, base_target, clause_has_subquery, only_table, places_of, seen_through, shown_column, shown_columns, target_of, updatable_source, view_target, with_check_option}
use Rattle.sq_meaning.proofs.Bind.{bind_ok}
use Rattle.sq_meaning.specs.Catalog.{base_count, names_written, table_descriptor, tables_of, view_descriptor, view_kinds, view_names, with_made}
use Rattle.sq_meaning.specs.Schema.{Elements}
use Rattle.sq_meaning.specs.SchemaRefusal.{has_bad_names}
use Rattle.sq_meaning.specs.Site.{count_in, list_count, select_count}

-- ---- what an updatable query is made of

pub record IsOver (tables : Tables) (list : SelectList Named) (from : List TableReference) (filter : Clause Named) (source : Source) : Type 0 where
  pub reference : TableReference
  pub alone : from ≡ reference ∷ []
  pub table : TableDescriptor
  pub there : descriptor_of tables reference.table ≡ Ok table
  pub columns : List ℕ
  pub shown : shown_columns (record { reference = reference; columns = column_names table }) list ≡ Ok columns
  pub is : source ≡ record { item = record { reference = reference; columns = column_names table }; columns = columns; condition = filter }

only_one : (from : List TableReference) (r : TableReference) → only_table from ≡ Ok r → from ≡ r ∷ []
only_one [] r e = cc
only_one (x ∷ []) r e = let same : x ≡ r = cc in ap (λ y. y ∷ []) same
only_one (x ∷ y ∷ others) r e = cc

pub is_over : (tables : Tables) (distinct : Bool) (list : SelectList Named) (from : List TableReference) (filter : Clause Named) (by : List ColumnReference) (having : Clause Named) (source : Source)
    → updatable_source tables (select distinct list from filter by having) ≡ Ok source → IsOver tables list from filter source
is_over tables distinct list from filter by having source e =
    let plain = bind_ok (well_formed_if (not distinct && not (is_grouped list by having) && not (clause_has_subquery filter))) _ source e in
    let r = bind_ok (only_table from) _ source plain.2 in
    let item = bind_ok (item_of tables r.0) _ source r.2 in
    let d = bind_ok (descriptor_of tables (r.0).table) (λ x. Ok (record { reference = r.0; columns = column_names x })) item.0 item.1 in
    let columns = bind_ok (shown_columns item.0 list) (λ cs. Ok (record { item = item.0; columns = cs; condition = filter })) source item.2 in
    let of_item : record { reference = r.0; columns = column_names d.0 } ≡ item.0 = cc in
    let of_source : record { item = item.0; columns = columns.0; condition = filter } ≡ source = cc in
    record {
      reference = r.0;
      alone = only_one from r.0 r.1;
      table = d.0;
      there = d.1;
      columns = columns.0;
      shown = ap (λ (i : Item). shown_columns i list) of_item ∙ columns.1;
      is = sym of_source ∙ ap (λ (i : Item). record { item = i; columns = columns.0; condition = filter }) (sym of_item);
    }

-- ---- places of columns

pub places_count : {A : Type 0} (xs : List A) → length (places_of xs) ≡ length xs
places_count xs = length-map (enumerate_from 0 xs) (λ p. p.0) ∙ length-enumerate_from 0 xs

places_below : {A : Type 0} (n width : ℕ) (xs : List A) → n + length xs ≤ width → AllByRecursion (λ k. k < width) (map (λ p. p.0) (enumerate_from n xs))
places_below n width [] le = tt
places_below n width (x ∷ xs) le =
    let here : n < width = omega (arith, le) in
    let further : n + 1 + length xs ≤ width = omega (arith, le) in (here, places_below (n + 1) width xs further)

pub column_below : (item : Item) (c : ColumnReference) (k : ℕ) → column_in c item ≡ Some k → k < length item.columns
column_below item c k e = by_name (names_item c.qualifier item) e
  where
    by_name : (b : Bool) → (if b then column_named c.column item.columns else None) ≡ Some k → k < length item.columns
    by_name true e = (position-Some (λ n. same_name n c.column) item.columns k [] e).0
    by_name false e = cc

one_below : (item : Item) (e : Expr Named) (k : ℕ) → shown_column item e ≡ Ok k → k < length item.columns
one_below item (column c) k is = by_place (column_in c item) refl is
  where
    by_place : (o : Option ℕ) → column_in c item ≡ o → well_formed o ≡ Ok k → k < length item.columns
    by_place None e is = cc
    by_place (Some n) e is = let same : n ≡ k = cc in column_below item c k (e ∙ ap Some same)
one_below item (literal v) k is = cc
one_below item (parameter p) k is = cc
one_below item user k is = cc
one_below item count_rows k is = cc
one_below item (set_function function distinct e) k is = cc
one_below item (signed sign e) k is = cc
one_below item (added sign a b) k is = cc
one_below item (scaled sign a b) k is = cc
one_below item (bracketed e) k is = cc

each_below : (item : Item) (es : List (Expr Named)) (ks : List ℕ) → each (shown_column item) es ≡ Ok ks
    → AllByRecursion (λ k. k < length item.columns) ks × (length ks ≡ length es)
each_below item [] ks e = let none : [] ≡ ks = cc in subst (λ zs. AllByRecursion (λ k. k < length item.columns) zs × (length zs ≡ 0)) none (tt, refl)
each_below item (x ∷ es) ks e =
    let first = bind_ok (shown_column item x) _ ks e in
    let others = bind_ok (each (shown_column item) es) (λ zs. Ok (first.0 ∷ zs)) ks first.2 in
    let all : first.0 ∷ others.0 ≡ ks = cc in
    let rest = each_below item es others.0 others.1 in
    subst (λ zs. AllByRecursion (λ k. k < length item.columns) zs × (length zs ≡ suc (length es))) all ((one_below item x first.0 first.1, rest.0), ap suc rest.1)

pub expressions_shown : (item : Item) (es : List (Expr Named)) (ks : List ℕ) → shown_columns item (expressions es) ≡ Ok ks → each (shown_column item) es ≡ Ok ks
expressions_shown item es ks e =
    let columns = bind_ok (each (shown_column item) es) _ ks e in
    let distinct = bind_ok (well_formed_if (are_distinct columns.0)) (λ _. Ok columns.0) ks columns.2 in
    let same : columns.0 ≡ ks = cc in
    columns.1 ∙ ap Ok same

-- Each column that is shown is one of the item.
pub all_below : (item : Item) (list : SelectList Named) (ks : List ℕ) → shown_columns item list ≡ Ok ks → AllByRecursion (λ k. k < length item.columns) ks
all_below item all_columns ks e =
    let same : places_of item.columns ≡ ks = cc in
    let whole : 0 + length item.columns ≤ length item.columns = omega arith in
    subst (AllByRecursion (λ k. k < length item.columns)) same (places_below 0 (length item.columns) item.columns whole)
all_below item (expressions es) ks e = (each_below item es ks (expressions_shown item es ks e)).0

-- Where columns are among others, it is the same to take them from the row or from these others of it.
pub taken_in_turn : (row : Row) (cs ks : List ℕ) → AllByRecursion (λ k. k < length cs) ks
    → in_columns row (map (λ k. slice_index cs k) ks) ≡ in_columns (in_columns row cs) ks
taken_in_turn row cs [] h = refl
taken_in_turn row cs (k ∷ ks) h =
    (λ i. sym (get_or-map (λ c. slice_index_or row c Null) cs k 0 Null h.0) i ∷ taken_in_turn row cs ks h.1 i)

-- ---- a target has a column for each of its table's or view's

checked_columns : (b : Bool) (t : Target) → (with_check_option b t).columns ≡ t.columns
checked_columns true t = refl
checked_columns false t = refl

seen_count : (source : Source) (under : Target) (check_option : Bool) (target : Target) → with_check_option check_option (seen_through source under) ≡ target
    → length target.columns ≡ length source.columns
seen_count source under check_option target e =
    ap (λ (t : Target). length t.columns) (sym e) ∙ ap length (checked_columns check_option (seen_through source under))
    ∙ length-map source.columns (λ k. slice_index under.columns k)

each_count : {A B : Type 0} (f : A → Outcome B) (xs : List A) (ys : List B) → each f xs ≡ Ok ys → length ys ≡ length xs
each_count f [] ys e = let none : [] ≡ ys = cc in ap length (sym none)
each_count f (x ∷ xs) ys e =
    let first = bind_ok (f x) _ ys e in
    let others = bind_ok (each f xs) (λ zs. Ok (first.0 ∷ zs)) ys first.2 in
    let all : first.0 ∷ others.0 ≡ ys = cc in
    ap length (sym all) ∙ ap suc (each_count f xs others.0 others.1)

-- a column of the only item is found there
pub place_found : (item : Item) (c : ColumnReference) (k : ℕ) → column_in c item ≡ Some k
    → place_of c ((item ∷ []) ∷ []) ≡ Ok (record { depth = 0; item = 0; column = k })
place_found item c k e = ap (λ (o : Option ℕ). nearest (cons_option (option_map (λ column. (0, column)) o) []) not_well_formed) e

module _ (tables : Tables) where
  abbrev length_of : {A : Type 0} → Outcome (List A) → ℕ
  length_of o = length (unwrap_or (result_ok o) [])

  module _ (r : TableReference) (d : TableDescriptor) (there : descriptor_of tables r.table ≡ Ok d) where
    abbrev item : Item
    item = record { reference = r; columns = column_names d }

    abbrev scopes : List (List TableReference)
    scopes = (r ∷ []) ∷ []

    column_kind : (c : ColumnReference) (k : ℕ) → column_in c item ≡ Some k → (x : Kind) × (kind (kinds_by_name tables []) scopes (column c) ≡ Ok x)
    column_kind c k e =
        let count = length-map d.columns (λ x. x.kind) in
        let named = length-map d.columns (λ x. x.name) in
        let less = column_below item c k e in
        let within : k < length (column_kinds d) = omega (arith, count, named, less) in (
          get_or (column_kinds d) k (Num 0),
          ap
              (λ (o : Outcome TableDescriptor).
              and_then (and_then (and_then (and_then o (λ x. Ok (record { reference = r; columns = column_names x }))) (λ y. Ok (y ∷ []))) (λ ys. Ok (ys ∷ []))) (λ items. and_then (place_of c items) (kind_at tables scopes))) there
              ∙ ap (λ (o : Outcome Place). and_then o (kind_at tables scopes)) (place_found item c k e)
              ∙ ap (λ (o : Outcome TableDescriptor). and_then o (λ x. well_formed (slice_get (column_kinds x) k))) there
              ∙ ap well_formed (slice_get-get_or (column_kinds d) k (Num 0) within),
        )

    one_kind : (e : Expr Named) (k : ℕ) → shown_column item e ≡ Ok k → (x : Kind) × (kind (kinds_by_name tables []) scopes e ≡ Ok x)
    one_kind (column c) k is = by_place (column_in c item) refl is
      where
        by_place : (o : Option ℕ) → column_in c item ≡ o → well_formed o ≡ Ok k → (x : Kind) × (kind (kinds_by_name tables []) scopes (column c) ≡ Ok x)
        by_place None e is = cc
        by_place (Some n) e is = column_kind c n e
    one_kind (literal v) k is = cc
    one_kind (parameter p) k is = cc
    one_kind user k is = cc
    one_kind count_rows k is = cc
    one_kind (set_function function distinct e) k is = cc
    one_kind (signed sign e) k is = cc
    one_kind (added sign a b) k is = cc
    one_kind (scaled sign a b) k is = cc
    one_kind (bracketed e) k is = cc

    kinds_there : (es : List (Expr Named)) (ks : List ℕ) → each (shown_column item) es ≡ Ok ks → (xs : List Kind) × (each (kind (kinds_by_name tables []) scopes) es ≡ Ok xs)
    kinds_there [] ks e = ([], refl)
    kinds_there (x ∷ es) ks e =
        let first = bind_ok (shown_column item x) _ ks e in
        let others = bind_ok (each (shown_column item) es) (λ zs. Ok (first.0 ∷ zs)) ks first.2 in
        let one = one_kind x first.0 first.1 in
        let rest = kinds_there es others.0 others.1 in
        (one.0 ∷ rest.0, (λ i. and_then (one.1 i) (λ y. and_then (rest.1 i) (λ ys. Ok (y ∷ ys)))))

  -- ---- how many columns are shown

  module _ (list : SelectList Named) (from : List TableReference) (filter : Clause Named) (source : Source) (is : IsOver tables list from filter source) where
    abbrev own : Item
    own = record { reference = is.reference; columns = column_names is.table }

    all_count : shown_columns own all_columns ≡ Ok is.columns → length source.columns ≡ length (is.table).columns
    all_count shown =
        let same : places_of (column_names is.table) ≡ is.columns = cc in
        ap (λ (x : Source). length x.columns) is.is ∙ ap length (sym same) ∙ places_count (column_names is.table) ∙ length-map (is.table).columns (λ c. c.name)

    listed_count : (es : List (Expr Named)) → shown_columns own (expressions es) ≡ Ok is.columns → length source.columns ≡ length es
    listed_count es shown =
        ap (λ (x : Source). length x.columns) is.is ∙ (each_below own es is.columns (expressions_shown own es is.columns shown)).1

    kinds_count : (l : SelectList Named) → shown_columns own l ≡ Ok is.columns → (distinct : Bool) (by : List ColumnReference) (having : Clause Named)
        → length_of (select_kinds (kinds_by_name tables []) [] (select distinct l from filter by having)) ≡ length source.columns
    kinds_count all_columns shown distinct by having =
        ap (λ (rs : List TableReference). length_of (select_kinds (kinds_by_name tables []) [] (select distinct all_columns rs filter by having))) is.alone
        ∙ ap (λ (o : Outcome TableDescriptor). length_of (and_then (and_then (and_then o (λ d. Ok (column_kinds d))) (λ ks. Ok (ks ∷ []))) (λ kinds. Ok (flat_map (λ ks. ks) kinds)))) is.there
        ∙ ap length (append-nil (column_kinds is.table)) ∙ length-map (is.table).columns (λ c. c.kind) ∙ sym (all_count shown)
    kinds_count (expressions es) shown distinct by having =
        let kinds = kinds_there is.reference is.table is.there es is.columns (expressions_shown own es is.columns shown) in
        ap (λ (rs : List TableReference). length_of (each (kind (kinds_by_name tables []) (rs ∷ [])) es)) is.alone ∙ ap length_of kinds.1
        ∙ each_count (kind (kinds_by_name tables []) ((is.reference ∷ []) ∷ [])) es kinds.0 kinds.1 ∙ sym (listed_count es shown)

    names_count : (l : SelectList Named) → shown_columns own l ≡ Ok is.columns → (distinct : Bool) (by : List ColumnReference) (having : Clause Named)
        → length_of (select_names tables (select distinct l from filter by having)) ≡ length source.columns
    names_count all_columns shown distinct by having =
        ap (λ (rs : List TableReference). length_of (select_names tables (select distinct all_columns rs filter by having))) is.alone
        ∙ ap
        (λ (o : Outcome TableDescriptor).
        length_of (and_then (and_then (and_then o (λ d. Ok (record { reference = is.reference; columns = column_names d }))) (λ y. Ok (y ∷ []))) (λ (heads : List Item). Ok (flat_map (λ head. map Some head.columns) heads)))) is.there
        ∙ ap length (append-nil (map Some (column_names is.table))) ∙ length-map (column_names is.table) Some ∙ length-map (is.table).columns (λ c. c.name) ∙ sym (all_count shown)
    names_count (expressions es) shown distinct by having = length-map es item_name ∙ sym (listed_count es shown)

    select_counted : (l : SelectList Named) → shown_columns own l ≡ Ok is.columns → list_count tables from l ≡ length source.columns
    select_counted all_columns shown =
        let one = ap (λ (o : Outcome TableDescriptor). unwrap_or (option_map (λ d. length d.columns) (result_ok o)) 0) is.there in
        let all = all_count shown in
        ap (λ (rs : List TableReference). sum (map (count_in tables) rs)) is.alone ∙ omega (arith, one, all)
    select_counted (expressions es) shown = sym (listed_count es shown)

  -- the same of a query
  record HasCount (q : Select Named) (n : ℕ) : Type 0 where
    kinds : length_of (select_kinds (kinds_by_name tables []) [] q) ≡ n
    names : length_of (select_names tables q) ≡ n
    selected : select_count tables q ≡ n

  query_count : (q : Select Named) (source : Source) → updatable_source tables q ≡ Ok source → HasCount q (length source.columns)
  query_count (select distinct list from filter by having) source e =
      let is = is_over tables distinct list from filter by having source e in
      record {
        kinds = kinds_count list from filter source is list is.shown distinct by having;
        names = names_count list from filter source is list is.shown distinct by having;
        selected = select_counted list from filter source is list is.shown;
      }

-- what a name means has as many columns as its table or view
abbrev pub AreAsWide : Tables → Type 0
AreAsWide tables = (name : TableName) (d : TableDescriptor) (target : Target) → descriptor_of tables name ≡ Ok d → target_of tables name ≡ Ok target
    → length d.columns ≡ length target.columns

-- what the first of some tables means
abbrev pub meant : TableDescriptor → Tables → Outcome Target
meant d earlier =
    elim d.body as (λ _. Outcome Target) [
      | base_table place ↦ Ok (base_target place (places_of d.columns))
      | viewed_table q check_option ↦ and_then (updatable_source earlier q) (view_target (target_of earlier) check_option)
    ]

one_wider : (x : TableDescriptor) (earlier : Tables) → ((target : Target) → meant x earlier ≡ Ok target → length x.columns ≡ length target.columns) → AreAsWide earlier
    → AreAsWide (x ∷ earlier)
one_wider x earlier first others name d target there means = by_name (same_table x.table name) there means
  where
    by_name : (b : Bool) → well_formed (cond b (Some x) (find (λ y. same_table y.table name) earlier)) ≡ Ok d
        → (elim b as (λ _. Outcome Target) [ false ↦ target_of earlier name | true ↦ meant x earlier ]) ≡ Ok target → length d.columns ≡ length target.columns
    by_name true there means = let same : x ≡ d = cc in subst (λ (y : TableDescriptor). length y.columns ≡ length target.columns) same (first target means)
    by_name false there means = others name d target there means

-- the names of each view's columns are as many as its query has
abbrev pub NamesFit : Elements → Name → SchemaElement → Type 0
NamesFit before owner (element.View v) = has_bad_names before owner v v.columns ≡ false
NamesFit before owner _ = ⊤

abbrev pub AllNamesFit : Elements → Type 0
AllNamesFit [] = ⊤
AllNamesFit (e ∷ before) = NamesFit before e.user e.element × AllNamesFit before

view_wide : (before : Elements) (owner : Name) (v : ViewDefinition) → has_bad_names before owner v v.columns ≡ false → (target : Target)
    → meant (view_descriptor (tables_of before) owner v) (tables_of before) ≡ Ok target
    → length (view_descriptor (tables_of before) owner v).columns ≡ length target.columns
view_wide before owner v fit target e =
    let earlier = tables_of before in
    let source = bind_ok (updatable_source earlier (select_of owner v.query)) (view_target (target_of earlier) v.check_option) target e in
    let under = bind_ok (target_of earlier (source.0).item.reference.table) (λ u. Ok (with_check_option v.check_option (seen_through source.0 u))) target source.2 in
    let same : with_check_option v.check_option (seen_through source.0 under.0) ≡ target = cc in
    let seen = seen_count source.0 under.0 v.check_option target same in
    let counted = query_count earlier (select_of owner v.query) source.0 source.1 in
    let kinds = counted.kinds in
    let names = by_columns (length (source.0).columns) counted v.columns fit in
    let pairs = length-map {B = ColumnDescriptor} (zip (view_names earlier owner v) (view_kinds earlier owner v)) (λ c. record { name = unwrap_or c.0 []; kind = c.1 }) in
    let both = length-zip (view_names earlier owner v) (view_kinds earlier owner v) in
    omega (arith, seen, kinds, names, pairs, both)
  where
    by_columns : (n : ℕ) → HasCount (tables_of before) (select_of owner v.query) n → (o : Option (CommaList Name)) → has_bad_names before owner v o ≡ false
        → length (names_written o (unwrap_or (result_ok (select_names (tables_of before) (select_of owner v.query))) [])) ≡ n
    by_columns n counted None fit = counted.names
    by_columns n counted (Some columns) fit =
        length-map (listed columns) Some ∙ eqb-true (length (listed columns)) (select_count (tables_of before) (select_of owner v.query))
        (not-false (length (listed columns) == select_count (tables_of before) (select_of owner v.query)) fit) ∙ counted.selected

pub are_as_wide : (elements : Elements) → AllNamesFit elements → AreAsWide (tables_of elements)
are_as_wide [] fit = λ name d target there means. cc
are_as_wide (e ∷ before) fit = by_element e.element fit.0 (are_as_wide before fit.1)
  where
    by_element : (x : SchemaElement) → NamesFit before e.user x → AreAsWide (tables_of before) → AreAsWide (with_made (tables_of before) (base_count before) e.user x)
    by_element (element.Table t) fits others =
        one_wider (table_descriptor (base_count before) e.user t) (tables_of before)
        (λ target means. let same : base_target (base_count before) (places_of (table_descriptor (base_count before) e.user t).columns) ≡ target = cc in
        sym (ap (λ (x : Target). length x.columns) (sym same) ∙ places_count (table_descriptor (base_count before) e.user t).columns)) others
    by_element (element.View v) fits others =
        one_wider (view_descriptor (tables_of before) e.user v) (tables_of before) (view_wide before e.user v fits) others
    by_element (element.Grant g) fits others = others
