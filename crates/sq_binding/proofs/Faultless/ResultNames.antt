-- The names of the columns of a query expression are those that the rules know (ISO/IEC 9075:1992, 7.9 and 7.10).
use Rattle.std.proofs.Common.{◌≡◌, ℕ, ◌+◌, Bool, true, false, List, [], ◌∷◌, ◌++◌, length, map, Option, Some, Ok, Err, refl, sym, ap, subst, ◌∙◌}
use Rattle.std.specs.List.{AllByRecursion, enumerate_from, flat_map, zip}
use Rattle.std.specs.Prelude.{⊤, ◌==◌, if◌then◌else◌, nat_lt}
use Rattle.std.specs.Result.{result_ok}
use Rattle.sq_lex.specs.declared.name.Name.{Name}
use Rattle.sq_meaning.specs.Environment.{Item, Place, TableReference}
use Rattle.sq_meaning.specs.Kind.{common_kind}
use Rattle.sq_meaning.specs.SortKeys.{common_name, item_name, query_names, select_names}
use Rattle.sq_meaning.specs.Spelled.{Named}
use Rattle.sq_meaning.specs.Status as status
use Rattle.sq_meaning.specs.Syntax.{Clause, Expr, Query, Select, SelectList, all_columns, expressions, select, specification, union}
use Rattle.sq_meaning.specs.Tables.{ColumnDescriptor, TableDescriptor, column_names, descriptor_of, item_of}
use Rattle.sq_meaning.specs.WellFormed.{HasValue}
use Rattle.sq_tree.specs.declared.names.ColumnReference.{ColumnReference}
use Rattle.sq_meaning.specs.Binding.{Judged}
use Rattle.sq_meaning.specs.Site.{Known, Site}
use Rattle.sq_meaning.specs.declared.fault.BindingFault.TheVariants as fault
use Rattle.sq_binding.specs.Condition.{select_bound, clause_bound}
use Rattle.sq_binding.specs.Found.{Binding, Counts, Found, ◌>>=◌, each, from_first, must, outcome, pure, refused}
use Rattle.sq_binding.specs.From.{NamedItem, NamedTables, column_over, from_bound, items_of, tables_of}
use Rattle.sq_binding.specs.NumberedCondition.{NumberedClause, NumberedGroups, NumberedSelect, ResultColumn, columns_of}
use Rattle.sq_binding.specs.Outcome.{or_fault}
use Rattle.sq_binding.specs.QueryExpression.{NumberedQuery, columns_of_query, common_column, common_columns, query_bound}
use Rattle.sq_binding.specs.Scope.{Scope}
use Rattle.sq_binding.specs.Select.{Parts, ShownColumn, Surroundings, column_of_item, columns_of_item, columns_of_items, grouping_column, groups_of, is_star, list_bound, most_columns, rightly_grouped, select_found, shown_column, value}
use Rattle.sq_binding.proofs.Faultless.Clean.{steps_of}
use Rattle.sq_binding.proofs.Faultless.CleanConds.{KnownIf, known_of}
use Rattle.sq_binding.proofs.Faultless.CleanExprs.{if_ok}
use Rattle.sq_binding.proofs.Faultless.CleanQuery.{anything_known, pure_known, then_known}
use Rattle.sq_binding.proofs.Faultless.CleanSelect.{at_most_ok}
use Rattle.sq_binding.proofs.FaultsFound.FromFaults.{AreItems, NamesFit, from_judges}
use Rattle.sq_binding.proofs.FaultsFound.Known.{columns_in, item_known}
use Rattle.sq_binding.proofs.FaultsFound.PredicateFaults.{surrounded}
use Rattle.sq_binding.proofs.FaultsFound.SelectFaults.{groups_over, lines_over}

abbrev pub names_shown : List ShownColumn → List (Option Name)
names_shown shown = map (λ c. c.name) (map (λ c. c.column) shown)

abbrev pub names_in : List ResultColumn → List (Option Name)
names_in columns = map (λ c. c.name) columns

-- ---- `*`: all columns of all items

names_over : (n m : ℕ) (columns : List ColumnDescriptor) → names_shown (map (column_of_item n) (map column_over (enumerate_from m columns))) ≡ map Some (map (λ c. c.name) columns)
names_over n m [] = refl
names_over n m (c ∷ columns) = ap (λ l. Some c.name ∷ l) (names_over n (m + 1) columns)

names_both : (xs ys : List ShownColumn) → names_shown (xs ++ ys) ≡ names_shown xs ++ names_shown ys
names_both [] ys = refl
names_both (x ∷ xs) ys = ap (λ l. x.column.name ∷ l) (names_both xs ys)

abbrev all_names : status.Outcome (List Item) → status.Outcome (List (Option Name))
all_names o = status.and_then o (λ heads. Ok (flat_map (λ head. map Some head.columns) heads))

names_more : (o : status.Outcome Item) (rest : status.Outcome (List Item)) (head : Item) (ns ms : List (Option Name)) → o ≡ Ok head → map Some head.columns ≡ ns → all_names rest ≡ Ok ms
    → all_names (status.and_then o (λ h. status.and_then rest (λ others. Ok (h ∷ others)))) ≡ Ok (ns ++ ms)
names_more (Ok h) (Ok heads) head ns ms e f g =
    let same : h ≡ head = cc in
    let others : flat_map (λ head. map Some head.columns) heads ≡ ms = cc in
    (λ i. Ok ((ap (λ (h : Item). map Some h.columns) same ∙ f) i ++ others i))
names_more (Ok h) (Err s) head ns ms e f g = cc
names_more (Err s) rest head ns ms e f g = cc

item_there : (r : TableReference) (o : status.Outcome TableDescriptor) → HasValue o → status.and_then {B = Item} o (λ d. Ok (record { reference = r; columns = column_names d })) ≡ Ok (record { reference = r; columns = map (λ c. c.name) (columns_in o) })
item_there r (Ok d) h = refl
item_there r (Err s) h = absurd h

names_from : (k : Known) (n : ℕ) (from : List TableReference) → AllByRecursion (λ r. HasValue (descriptor_of k.tables r.table)) from
    → all_names (status.each (item_of k.tables) from) ≡ Ok (names_shown (flat_map columns_of_item (enumerate_from n (map (item_known k) from))))
names_from k n [] h = refl
names_from k n (r ∷ from) h =
    names_more (item_of k.tables r) (status.each (item_of k.tables) from) (record { reference = r; columns = map (λ c. c.name) (columns_in (descriptor_of k.tables r.table)) })
    (names_shown (columns_of_item (n, item_known k r))) (names_shown (flat_map columns_of_item (enumerate_from (n + 1) (map (item_known k) from))))
    (item_there r (descriptor_of k.tables r.table) h.0) (sym (names_over n 0 (columns_in (descriptor_of k.tables r.table)))) (names_from k (n + 1) from h.1)
    ∙ ap Ok (sym (names_both (columns_of_item (n, item_known k r)) (flat_map columns_of_item (enumerate_from (n + 1) (map (item_known k) from)))))

-- ---- a select list

abbrev ListNamed : Known → List TableReference → SelectList Named → List ShownColumn → Type 0
ListNamed k from all_columns shown = all_names (status.each (item_of k.tables) from) ≡ Ok (names_shown shown)
ListNamed k from (expressions es) shown = map item_name es ≡ names_shown shown

each_named : (a : Surroundings) (es : List (Expr Named)) → KnownIf (λ shown. map item_name es ≡ names_shown shown) (each (shown_column a) es)
each_named a [] = pure_known (λ shown. [] ≡ names_shown shown) [] refl
each_named a (e ∷ es) =
    then_known (λ c. item_name e ≡ c.column.name) (λ shown. map item_name (e ∷ es) ≡ names_shown shown) (shown_column a e) (λ y. each (shown_column a) es >>= λ ys. pure (y ∷ ys))
    (then_known (λ x. ⊤) (λ c. item_name e ≡ c.column.name) (value a e) (λ x. pure (record { tree = x.tree; column = record { name = item_name e; kind = x.kind } })) (anything_known (value a e))
    (λ x u. pure_known (λ c. item_name e ≡ c.column.name) (record { tree = x.tree; column = record { name = item_name e; kind = x.kind } }) refl))
    (λ y first. then_known (λ shown. map item_name es ≡ names_shown shown) (λ shown. map item_name (e ∷ es) ≡ names_shown shown) (each (shown_column a) es) (λ ys. pure (y ∷ ys)) (each_named a es)
    (λ ys rest. pure_known (λ shown. map item_name (e ∷ es) ≡ names_shown shown) (y ∷ ys) (λ i. first i ∷ rest i)))

limit_known : {A : Type 0} (P : A → Type 0) (passed : Bool) (b : Binding A) → KnownIf P b → KnownIf P (if passed then refused fault.LimitExceeded else b)
limit_known P passed b h counts z is = h counts z (at_most_ok passed b counts z is).1

list_named : (j : Judged) (a : Surroundings) (from : List TableReference) (items : List NamedItem) → AreItems j from items → (list : SelectList Named) → KnownIf (ListNamed j.known from list) (list_bound a (items_of items) list)
list_named j a from items are all_columns =
    limit_known (ListNamed j.known from all_columns) (nat_lt most_columns (length (columns_of_items (items_of items)))) (pure (columns_of_items (items_of items)))
    (pure_known (ListNamed j.known from all_columns) (columns_of_items (items_of items)) (names_from j.known 0 from are.known ∙ ap (λ items. Ok (names_shown (columns_of_items items))) (sym are.items_are)))
list_named j a from items are (expressions es) =
    limit_known (ListNamed j.known from (expressions es)) (nat_lt most_columns (length es)) (each (shown_column a) es) (each_named a es)

-- ---- a query specification, and a query expression

module _ (names : NamedTables) (j : Judged) (fit : NamesFit names j) where
  pub rightly_is : (star : Bool) (groups : NumberedGroups) (x : Found Parts) (z : Found NumberedSelect) → rightly_grouped star groups x ≡ Ok z → select_found x ≡ z
  rightly_is star NumberedGroups.not_grouped x z is = cc
  rightly_is star (NumberedGroups.grouped by functions having) x z is =
      let starred = if_ok star fault.CountMismatch (if x.findings.values.has_ungrouped then Err fault.UngroupedColumn else Ok (select_found x)) z is in
      let free = if_ok x.findings.values.has_ungrouped fault.UngroupedColumn (Ok (select_found x)) z starred.1 in
      let made = free.1 in
      cc

  listed_is : (k : Known) (distinct : Bool) (list : SelectList Named) (from : List TableReference) (filter : Clause Named) (by : List ColumnReference) (having : Clause Named) (shown : List ShownColumn) → ListNamed k from list shown
      → select_names k.tables (select distinct list from filter by having) ≡ Ok (names_shown shown)
  listed_is k distinct all_columns from filter by having shown h = h
  listed_is k distinct (expressions es) from filter by having shown h = ap Ok h

  pub select_named : (scopes : List Scope) (allowed : Bool) (q : Select Named) → KnownIf (λ s. select_names j.known.tables q ≡ Ok (names_in (columns_of s))) (select_bound (surrounded names j scopes allowed) q)
  select_named scopes allowed (select distinct list from filter by having) counts z is =
      let steps = steps_of (parts first_counts) (λ x. rightly_grouped (is_star list) (groups_of x) x) z is in
      subst (λ (z : Found NumberedSelect). select_names j.known.tables (select distinct list from filter by having) ≡ Ok (names_in (columns_of z.part))) (rightly_is (is_star list) (groups_of steps.step) steps.step z steps.second)
      (listed_is j.known distinct list from filter by having steps.step.part.shown (parts_named first_counts steps.step steps.first))
    where
      first_counts : Counts
      first_counts = record counts { functions = 0 }

      lines : List NamedItem → Surroundings
      lines items = surrounded names j (lines_over items ∷ scopes) false

      groups : List NamedItem → List Place → Surroundings
      groups items columns = surrounded names j (groups_over items columns ∷ scopes) true

      whole : List NamedItem → NumberedClause → List Place → List ShownColumn → NumberedClause → Parts
      whole items y columns shown kept = record { distinct = distinct; from = tables_of items; filter = y; by = columns; shown = shown; having = kept }

      after_list : List NamedItem → NumberedClause → List Place → List ShownColumn → Binding Parts
      after_list items y columns shown = clause_bound (groups items columns) having >>= λ kept. pure (whole items y columns shown kept)

      after_columns : List NamedItem → NumberedClause → List Place → Binding Parts
      after_columns items y columns = list_bound (groups items columns) (items_of items) list >>= after_list items y columns

      after_filter : List NamedItem → NumberedClause → Binding Parts
      after_filter items y = each (grouping_column (lines items)) by >>= after_columns items y

      after_from : List NamedItem → Binding Parts
      after_from items = from_first (clause_bound (lines items) filter) >>= after_filter items

      parts : Binding Parts
      parts = from_bound names from >>= after_from

      P : Parts → Type 0
      P p = ListNamed j.known from list p.shown

      parts_named : KnownIf P parts
      parts_named =
          then_known (AreItems j from) P (from_bound names from) after_from (known_of j (map Site.table_read from ++ Site.from_whole from ∷ []) ⊤ ⊤ (AreItems j from) (from_bound names from) (from_judges names j fit ⊤ ⊤ from))
          (λ items are. then_known (λ x. ⊤) P (from_first (clause_bound (lines items) filter)) (after_filter items) (anything_known (from_first (clause_bound (lines items) filter)))
          (λ y u. then_known (λ x. ⊤) P (each (grouping_column (lines items)) by) (after_columns items y) (anything_known (each (grouping_column (lines items)) by))
          (λ columns v. then_known (ListNamed j.known from list) P (list_bound (groups items columns) (items_of items) list) (after_list items y columns) (list_named j (groups items columns) from items are list)
          (λ shown named. then_known (λ x. ⊤) P (clause_bound (groups items columns) having) (λ kept. pure (whole items y columns shown kept)) (anything_known (clause_bound (groups items columns) having))
          (λ kept w. pure_known P (whole items y columns shown kept) named)))))

  -- columns of UNION

  abbrev paired : ResultColumn × ResultColumn → Option Name
  paired p = common_name p.0.name p.1.name

  each_common : (ps : List (ResultColumn × ResultColumn)) → KnownIf (λ columns. map paired ps ≡ names_in columns) (each common_column ps)
  each_common [] = pure_known (λ columns. [] ≡ names_in columns) [] refl
  each_common (p ∷ ps) =
      then_known (λ c. paired p ≡ c.name) (λ columns. map paired (p ∷ ps) ≡ names_in columns) (common_column p) (λ y. each common_column ps >>= λ ys. pure (y ∷ ys))
      (then_known (λ k. ⊤) (λ c. paired p ≡ c.name) (outcome (or_fault fault.KindMismatch (result_ok (common_kind p.0.kind p.1.kind)))) (λ k. pure (record { name = paired p; kind = k }))
      (anything_known (outcome (or_fault fault.KindMismatch (result_ok (common_kind p.0.kind p.1.kind))))) (λ k u. pure_known (λ c. paired p ≡ c.name) (record { name = paired p; kind = k }) refl))
      (λ y first. then_known (λ columns. map paired ps ≡ names_in columns) (λ columns. map paired (p ∷ ps) ≡ names_in columns) (each common_column ps) (λ ys. pure (y ∷ ys)) (each_common ps)
      (λ ys rest. pure_known (λ columns. map paired (p ∷ ps) ≡ names_in columns) (y ∷ ys) (λ i. first i ∷ rest i)))

  zipped : (left right : List ResultColumn) → map paired (zip left right) ≡ map (λ p. common_name p.0 p.1) (zip (names_in left) (names_in right))
  zipped [] right = refl
  zipped (c ∷ left) [] = refl
  zipped (c ∷ left) (d ∷ right) = ap (λ l. paired (c, d) ∷ l) (zipped left right)

  common_named : (left right : List ResultColumn) → KnownIf (λ columns. map (λ p. common_name p.0 p.1) (zip (names_in left) (names_in right)) ≡ names_in columns) (common_columns left right)
  common_named left right =
      then_known (λ u. ⊤) (λ columns. map (λ p. common_name p.0 p.1) (zip (names_in left) (names_in right)) ≡ names_in columns) (must (length left == length right) fault.CountMismatch) (λ _. each common_column (zip left right))
      (anything_known (must (length left == length right) fault.CountMismatch))
      (λ u v counts z is. sym (zipped left right) ∙ each_common (zip left right) counts z is)

  -- a query expression's columns have the names that the rules know
  pub query_named : (q : Query Named) → KnownIf (λ n. query_names j.known.tables q ≡ Ok (names_in (columns_of_query n))) (query_bound (surrounded names j [] false) q)
  query_named (specification q) =
      then_known (λ s. select_names j.known.tables q ≡ Ok (names_in (columns_of s))) (λ n. query_names j.known.tables (specification q) ≡ Ok (names_in (columns_of_query n))) (select_bound (surrounded names j [] false) q)
      (λ x. pure (NumberedQuery.select x)) (select_named [] false q)
      (λ x named. pure_known (λ n. query_names j.known.tables (specification q) ≡ Ok (names_in (columns_of_query n))) (NumberedQuery.select x) named)
  query_named (union all left right) =
      then_known (λ n. query_names j.known.tables left ≡ Ok (names_in (columns_of_query n))) Q (query_bound (surrounded names j [] false) left) after_left (query_named left)
      (λ x h. then_known (λ n. query_names j.known.tables right ≡ Ok (names_in (columns_of_query n))) Q (query_bound (surrounded names j [] false) right) (after_right x) (query_named right)
      (λ y g. then_known (λ columns. map (λ p. common_name p.0 p.1) (zip (names_in (columns_of_query x)) (names_in (columns_of_query y))) ≡ names_in columns) Q (common_columns (columns_of_query x) (columns_of_query y))
      (λ columns. pure (NumberedQuery.joined all x y columns)) (common_named (columns_of_query x) (columns_of_query y))
      (λ columns e. pure_known Q (NumberedQuery.joined all x y columns) (
      ap (λ (o : status.Outcome (List (Option Name))). status.and_then o (λ ls. status.and_then (query_names j.known.tables right) (λ rs. Ok (map (λ p. common_name p.0 p.1) (zip ls rs))))) h
      ∙ ap (λ (o : status.Outcome (List (Option Name))). status.and_then o (λ rs. Ok (map (λ p. common_name p.0 p.1) (zip (names_in (columns_of_query x)) rs)))) g
      ∙ ap Ok e))))
    where
      Q : NumberedQuery → Type 0
      Q n = query_names j.known.tables (union all left right) ≡ Ok (names_in (columns_of_query n))

      after_right : NumberedQuery → NumberedQuery → Binding NumberedQuery
      after_right x y = common_columns (columns_of_query x) (columns_of_query y) >>= λ columns. pure (NumberedQuery.joined all x y columns)

      after_left : NumberedQuery → Binding NumberedQuery
      after_left x = query_bound (surrounded names j [] false) right >>= after_right x
