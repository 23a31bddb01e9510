-- A query specification that is bound is updatable, over the very table, exactly if the rules say so (ISO/IEC 9075:1992, 7.9; own rule).
use Rattle.std.proofs.Common.{◌≡◌, ℕ, ◌<◌, Bool, true, false, not, ◌&&◌, List, [], ◌∷◌, ◌++◌, length, map, Option, Some, None, Ok, Err, refl, sym, ap, subst, ◌∙◌}
use Rattle.std.proofs.lemmas.List.{append-nil, length-map}
use Rattle.std.proofs.lemmas.List.Quantifiers.{position-Some}
use Rattle.std.specs.List.{AllZip, enumerate_from, position}
use Rattle.std.specs.Option.{option_map}
use Rattle.std.specs.Prelude.{⊤, if◌then◌else◌, is_ok, is_some, nat_lt, slice_get, unwrap_or}
use Rattle.std.specs.Result.{result_ok}
use Rattle.sq_lex.specs.declared.name.Name.{Name}
use Rattle.sq_tree.specs.declared.names.ColumnReference.{ColumnReference}
use Rattle.sq_meaning.specs.Environment.{Item, Place, TableName, TableReference, column_in, names_item, same_name}
use Rattle.sq_meaning.specs.SortKeys.{item_name}
use Rattle.sq_meaning.specs.Spelled.{Named}
use Rattle.sq_meaning.specs.Status as status
use Rattle.sq_meaning.specs.Syntax.{Clause, Expr, SelectList, added, all_columns, bracketed, column, count_rows, expressions, literal, parameter, scaled, select, set_function, signed, user}
use Rattle.sq_meaning.specs.Tables.{TableDescriptor, column_names, descriptor_of, item_of}
use Rattle.sq_meaning.specs.Target.{Source, Target, are_distinct, only_table, shown_columns, target_of}
use Rattle.sq_meaning.specs.WellFormed.{HasValue}
use Rattle.sq_meaning.specs.Binding.{Judged, item_here}
use Rattle.sq_meaning.specs.Site.{EnclosingQuery}
use Rattle.sq_binding.specs.Changeable.{UnderTable, UserNames, columns_shown, shown_of}
use Rattle.sq_binding.specs.Condition.{clause_bound, select_bound}
use Rattle.sq_binding.specs.Expression.{bound, column_allowed, column_bound, place_of_found}
use Rattle.sq_binding.specs.Found.{Binding, Counts, Found, ◌>>=◌, each, from_first, pure}
use Rattle.sq_binding.specs.From.{NamedItem, NamedTable, column_over, from_bound, items_of, tables_of}
use Rattle.sq_binding.specs.NumberedCondition.{NumberedClause, NumberedSelect}
use Rattle.sq_binding.specs.Scope.{Scope, column_meant}
use Rattle.sq_binding.specs.Select.{Parts, ShownColumn, Surroundings, Typed, column_of_item, columns_of_items, grouping_column, groups_of, is_star, list_bound, most_columns, rightly_grouped, select_found, shown_column, value, value_found}
use Rattle.sq_meaning.specs.declared.fault.BindingFault.TheVariants as fault
use Rattle.sq_binding.proofs.Exactly.ChangedTold.{TablesFit}
use Rattle.sq_binding.proofs.Faultless.Clean.{steps_of}
use Rattle.sq_binding.proofs.Faultless.CleanConds.{KnownIf, known_of}
use Rattle.sq_binding.proofs.Faultless.CleanExprs.{if_ok}
use Rattle.sq_binding.proofs.Faultless.CleanQuery.{anything_known, pure_known, then_known}
use Rattle.sq_binding.proofs.Faultless.CleanSelect.{at_most_ok}
use Rattle.sq_binding.proofs.FaultsFound.FoundKinds.{item_is, meant_there}
use Rattle.sq_binding.proofs.FaultsFound.FromFaults.{AreItems, from_judges}
use Rattle.sq_binding.proofs.FaultsFound.Known.{IsOver, columns_in, item_known, within}
use Rattle.sq_binding.proofs.FaultsFound.PredicateFaults.{surrounded}
use Rattle.sq_binding.proofs.Faultless.ResultNames.{rightly_is}
use Rattle.sq_binding.proofs.FaultsFound.SelectFaults.{groups_over, lines_over}
use Rattle.sq_binding.proofs.OneTable.ShownColumns.{IsShownAs, expressions_shown, fit_column, star_shown}
use Rattle.sq_meaning.specs.Site.{Site}

-- no column of a base table stands for two of a table
abbrev pub ColumnsFit : UserNames → Type 0
ColumnsFit names = (t : TableName) (u : UnderTable) → names.under t ≡ Some u → are_distinct u.columns ≡ true

module _ (names : UserNames) (j : Judged) (fits : TablesFit names j) (once : ColumnsFit names) where
  abbrev here : Surroundings
  here = surrounded names.tables j [] false

  -- ---- what is shown of one table

  module _ (r : TableReference) where
    abbrev item : Item
    item = item_here j.known r

    abbrev ListShown : SelectList Named → List ShownColumn → Type 0
    ListShown all_columns shown = map (λ c. c.tree) shown ≡ map (λ c. c.tree) (columns_of_items (item_known j.known r ∷ []))
    ListShown (expressions es) shown = AllZip (IsShownAs item) es (map (λ c. c.tree) shown)

    module _ (grouping : Option (List Place)) (columns : Option (List ColumnReference)) (items : List NamedItem) (are : AreItems j (r ∷ []) items) where
      abbrev scopes : List Scope
      scopes = record { items = items_of items; grouping = grouping } ∷ []

      abbrev queries : List EnclosingQuery
      queries = record { from = r ∷ []; grouping = columns } ∷ []

      over : AllZip (IsOver j.known) scopes queries
      over = (record { items = are.items_are; known = are.known }, tt)

      abbrev inner : Surroundings
      inner = surrounded names.tables j scopes true

      value_shown : (e : Expr Named) → KnownIf (λ x. IsShownAs item e x.tree) (value inner e)
      value_shown (column c) counts z is =
          let s = steps_of (bound scopes j.known.parameters true false (column c) counts.functions) (λ b. Ok (value_found counts b)) z is in
          let found = steps_of (column_meant c scopes) (column_allowed false) s.step s.first in
          let allowed = if_ok (nat_lt 0 found.step.depth && not found.step.is_grouped && not false) fault.UngroupedColumn (Ok (column_bound found.step)) s.step found.second in
          let made = s.second in
          let same : value_found counts s.step ≡ z = cc in
          let bound_is = allowed.1 in
          let column_is : column_bound found.step ≡ s.step = cc in
          let m = meant_there j scopes queries over c found.step found.first in
          (place_of_found found.step, ap (λ (z : Found Typed). z.part.tree) (sym same) ∙ ap (λ b. b.tree) (sym column_is), fit_column (column_in c item) (place_of_found found.step) m.fits)
      value_shown (literal v) counts z is = tt
      value_shown (parameter p) counts z is = tt
      value_shown user counts z is = tt
      value_shown count_rows counts z is = tt
      value_shown (set_function f distinct e) counts z is = tt
      value_shown (signed sign e) counts z is = tt
      value_shown (added sign e f) counts z is = tt
      value_shown (scaled sign e f) counts z is = tt
      value_shown (bracketed e) counts z is = tt

      each_shown : (es : List (Expr Named)) → KnownIf (λ shown. AllZip (IsShownAs item) es (map (λ c. c.tree) shown)) (each (shown_column inner) es)
      each_shown [] = pure_known (λ shown. AllZip (IsShownAs item) [] (map (λ c. c.tree) shown)) [] tt
      each_shown (e ∷ es) =
          then_known (λ c. IsShownAs item e c.tree) (λ shown. AllZip (IsShownAs item) (e ∷ es) (map (λ c. c.tree) shown)) (shown_column inner e) (λ y. each (shown_column inner) es >>= λ ys. pure (y ∷ ys))
          (then_known (λ x. IsShownAs item e x.tree) (λ c. IsShownAs item e c.tree) (value inner e) (λ x. pure (record { tree = x.tree; column = record { name = item_name e; kind = x.kind } })) (value_shown e)
          (λ x h. pure_known (λ c. IsShownAs item e c.tree) (record { tree = x.tree; column = record { name = item_name e; kind = x.kind } }) h))
          (λ y h. then_known (λ shown. AllZip (IsShownAs item) es (map (λ c. c.tree) shown)) (λ shown. AllZip (IsShownAs item) (e ∷ es) (map (λ c. c.tree) shown)) (each (shown_column inner) es) (λ ys. pure (y ∷ ys)) (each_shown es)
          (λ ys g. pure_known (λ shown. AllZip (IsShownAs item) (e ∷ es) (map (λ c. c.tree) shown)) (y ∷ ys) (h, g)))

      list_shown : (list : SelectList Named) → KnownIf (ListShown list) (list_bound inner (items_of items) list)
      list_shown all_columns counts z is =
          pure_known (ListShown all_columns) (columns_of_items (items_of items)) (ap (λ items. map (λ (c : ShownColumn). c.tree) (columns_of_items items)) are.items_are) counts z
          (at_most_ok (nat_lt most_columns (length (columns_of_items (items_of items)))) (pure (columns_of_items (items_of items))) counts z is).1
      list_shown (expressions es) counts z is = each_shown es counts z (at_most_ok (nat_lt most_columns (length es)) (each (shown_column inner) es) counts z is).1

    abbrev pub TreesShown : SelectList Named → NumberedSelect → Type 0
    TreesShown all_columns s = shown_of s ≡ map (λ c. c.tree) (columns_of_items (item_known j.known r ∷ []))
    TreesShown (expressions es) s = AllZip (IsShownAs item) es (shown_of s)

    trees_shown : (list : SelectList Named) (x : Found Parts) → ListShown list x.part.shown → TreesShown list (select_found x).part
    trees_shown all_columns x h = h
    trees_shown (expressions es) x h = h

    pub select_shown : (distinct : Bool) (list : SelectList Named) (filter : Clause Named) (by : List ColumnReference) (having : Clause Named) → KnownIf (TreesShown list) (select_bound here (select distinct list (r ∷ []) filter by having))
    select_shown distinct list filter by having counts z is =
        let steps = steps_of (parts first_counts) (λ x. rightly_grouped (is_star list) (groups_of x) x) z is in
        subst (λ (z : Found NumberedSelect). TreesShown list z.part) (rightly_is names.tables j fits.tables (is_star list) (groups_of steps.step) steps.step z steps.second)
        (trees_shown list steps.step (parts_shown first_counts steps.step steps.first))
      where
        first_counts : Counts
        first_counts = record counts { functions = 0 }

        lines : List NamedItem → Surroundings
        lines items = surrounded names.tables j (lines_over items ∷ []) false

        groups : List NamedItem → List Place → Surroundings
        groups items columns = surrounded names.tables j (groups_over items columns ∷ []) true

        whole : List NamedItem → NumberedClause → List Place → List ShownColumn → NumberedClause → Parts
        whole items y columns shown kept = record { distinct = distinct; from = tables_of items; filter = y; by = columns; shown = shown; having = kept }

        after_list : List NamedItem → NumberedClause → List Place → List ShownColumn → Binding Parts
        after_list items y columns shown = clause_bound (groups items columns) having >>= λ kept. pure (whole items y columns shown kept)

        after_columns : List NamedItem → NumberedClause → List Place → Binding Parts
        after_columns items y columns = list_bound (groups items columns) (items_of items) list >>= after_list items y columns

        after_filter : List NamedItem → NumberedClause → Binding Parts
        after_filter items y = each (grouping_column (lines items)) by >>= after_columns items y

        after_from : List NamedItem → Binding Parts
        after_from items = from_first (clause_bound (lines items) filter) >>= after_filter items

        parts : Binding Parts
        parts = from_bound names.tables (r ∷ []) >>= after_from

        P : Parts → Type 0
        P p = ListShown list p.shown

        parts_shown : KnownIf P parts
        parts_shown =
            then_known (AreItems j (r ∷ [])) P (from_bound names.tables (r ∷ [])) after_from
            (known_of j (map Site.table_read (r ∷ []) ++ Site.from_whole (r ∷ []) ∷ []) ⊤ ⊤ (AreItems j (r ∷ [])) (from_bound names.tables (r ∷ [])) (from_judges names.tables j fits.tables ⊤ ⊤ (r ∷ [])))
            (λ items are. then_known (λ y. ⊤) P (from_first (clause_bound (lines items) filter)) (after_filter items) (anything_known (from_first (clause_bound (lines items) filter)))
            (λ y u. then_known (λ columns. ⊤) P (each (grouping_column (lines items)) by) (after_columns items y) (anything_known (each (grouping_column (lines items)) by))
            (λ columns v. then_known (ListShown list) P (list_bound (groups items columns) (items_of items) list) (after_list items y columns) (list_shown (Some columns) None items are list)
            (λ shown h. then_known (λ x. ⊤) P (clause_bound (groups items columns) having) (λ kept. pure (whole items y columns shown kept)) (anything_known (clause_bound (groups items columns) having))
            (λ kept w. pure_known P (whole items y columns shown kept) h)))))

    -- ---- the columns of the base table

    module _ (t : NamedTable) (there : names.tables r.table ≡ Some t) (u : UnderTable) (under : names.under r.table ≡ Some u) (d : TableDescriptor) (known : descriptor_of j.known.tables r.table ≡ Ok d) (columns : t.columns ≡ d.columns) where
      item_there : item_of j.known.tables r ≡ Ok item
      item_there = item_is r (descriptor_of j.known.tables r.table) (subst HasValue (sym known) tt)

      item_columns : item.columns ≡ column_names d
      item_columns = ap (λ (o : status.Outcome TableDescriptor). (unwrap_or (result_ok (status.and_then {B = Item} o (λ d. Ok (record { reference = r; columns = column_names d })))) (record { reference = r; columns = [] })).columns) known

      wide : length u.columns ≡ length d.columns
      wide = fits.wide r.table t u there under ∙ ap length columns

      named_within : (names : Bool) (name : Name) (all : List Name) (n : ℕ) → (if names then position (λ m. same_name m name) all else None) ≡ Some n → n < length all
      named_within true name all n e = (position-Some (λ m. same_name m name) all n [] e).0
      named_within false name all n e = cc

      leaf_there : (n : ℕ) (c : ColumnReference) → column_in c item ≡ Some n → (v : ℕ) × (slice_get u.columns n ≡ Some v)
      leaf_there n c e =
          let less = named_within (names_item c.qualifier item) c.column item.columns n e in
          within u.columns n (subst (λ m. n < m) (ap length item_columns ∙ length-map d.columns (λ c. c.name) ∙ sym wide) less)

      star_trees : map (λ c. c.tree) (columns_of_items (item_known j.known r ∷ [])) ≡ map (λ c. c.tree) (map (column_of_item 0) (map column_over (enumerate_from 0 d.columns)))
      star_trees =
          ap (map (λ (c : ShownColumn). c.tree)) (append-nil (map (column_of_item 0) (item_known j.known r).columns)) ∙ ap (λ o. map (λ (c : ShownColumn). c.tree) (map (column_of_item 0) (map column_over (enumerate_from 0 (columns_in o))))) known

      pub shown_same : (list : SelectList Named) (s : NumberedSelect) → TreesShown list s → is_some (columns_shown u list (shown_of s)) ≡ is_ok (shown_columns item list)
      shown_same all_columns s h = ap (λ trees. is_some (columns_shown u all_columns trees)) (h ∙ star_trees) ∙ star_shown item u d.columns (once r.table u under) wide
      shown_same (expressions es) s h = expressions_shown item u leaf_there (once r.table u under) es (shown_of s) h

  -- ---- the rule

  module _ (list : SelectList Named) (filter : Clause Named) where
    abbrev over_source : Source → status.Outcome Source
    over_source source = status.and_then (target_of j.known.tables source.item.reference.table) (λ _. Ok source)

    abbrev source_from : status.Outcome TableReference → status.Outcome Source
    source_from o =
        status.and_then o (λ r. status.and_then (item_of j.known.tables r) (λ item. status.and_then (shown_columns item list) (λ columns. Ok (record { item = item; columns = columns; condition = filter }))))

    -- the table of an updatable query, where these rules hold of it
    abbrev pub rule : Bool → List TableReference → Option TableName
    rule b from = option_map (λ (s : Source). s.item.reference.table) (result_ok (status.and_then (status.and_then (status.well_formed_if b) (λ _. source_from (only_table from))) over_source))

    pub none_from : (b : Bool) (from : List TableReference) → (only_table from ≡ status.not_well_formed) → rule b from ≡ None
    none_from true from e = ap (λ o. option_map (λ (s : Source). s.item.reference.table) (result_ok (status.and_then (source_from o) over_source))) e
    none_from false from e = refl

    pub no_item : (b : Bool) (r : TableReference) → is_ok (item_of j.known.tables r) ≡ false → rule b (r ∷ []) ≡ None
    no_item false r e = refl
    no_item true r e = by (item_of j.known.tables r) e
      where
        by : (o : status.Outcome Item) → is_ok o ≡ false
            → option_map (λ (s : Source). s.item.reference.table) (result_ok (status.and_then (status.and_then o (λ item. status.and_then (shown_columns item list) (λ columns. Ok (record { item = item; columns = columns; condition = filter })))) over_source)) ≡ None
        by (Ok x) e = cc
        by (Err x) e = refl

    module _ (r : TableReference) (item : Item) (is_item : item_of j.known.tables r ≡ Ok item) (of_r : item.reference.table ≡ r.table) where
      abbrev last : status.Outcome (List ℕ) → Option TableName
      last o = option_map (λ (s : Source). s.item.reference.table) (result_ok (status.and_then (status.and_then o (λ columns. Ok (record { item = item; columns = columns; condition = filter }))) over_source))

      rule_is : rule true (r ∷ []) ≡ last (shown_columns item list)
      rule_is =
          ap (λ (o : status.Outcome Item). option_map (λ (s : Source). s.item.reference.table) (result_ok (status.and_then (status.and_then o (λ item. status.and_then (shown_columns item list) (λ columns. Ok (record { item = item; columns = columns; condition = filter })))) over_source)))
          is_item

      pub no_target : (b : Bool) → is_ok (target_of j.known.tables r.table) ≡ false → rule b (r ∷ []) ≡ None
      no_target false e = refl
      no_target true e = rule_is ∙ by (shown_columns item list)
        where
          over_table : (x : List ℕ) (p : status.Outcome Target) → is_ok p ≡ false
              → option_map (λ (s : Source). s.item.reference.table) (result_ok (status.and_then p (λ _. Ok (record { item = item; columns = x; condition = filter })))) ≡ None
          over_table x (Ok y) e = cc
          over_table x (Err s) e = refl

          by : (o : status.Outcome (List ℕ)) → last o ≡ None
          by (Ok x) = over_table x (target_of j.known.tables item.reference.table) (ap (λ t. is_ok (target_of j.known.tables t)) of_r ∙ e)
          by (Err s) = refl

      pub whole_rule : (b : Bool) → is_ok (target_of j.known.tables r.table) ≡ true → rule b (r ∷ []) ≡ (if b && is_ok (shown_columns item list) then Some r.table else None)
      whole_rule false e = refl
      whole_rule true e = rule_is ∙ by (shown_columns item list)
        where
          over_table : (x : List ℕ) (p : status.Outcome Target) → is_ok p ≡ true
              → option_map (λ (s : Source). s.item.reference.table) (result_ok (status.and_then p (λ _. Ok (record { item = item; columns = x; condition = filter })))) ≡ Some r.table
          over_table x (Ok y) e = ap Some of_r
          over_table x (Err s) e = cc

          by : (o : status.Outcome (List ℕ)) → last o ≡ (if true && is_ok o then Some r.table else None)
          by (Ok x) = over_table x (target_of j.known.tables item.reference.table) (ap (λ t. is_ok (target_of j.known.tables t)) of_r ∙ e)
          by (Err s) = refl
