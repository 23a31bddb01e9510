-- A query specification is bound to an updatable one exactly if the rules say that it is updatable, and over the same table (ISO/IEC
-- 9075:1992, 7.9; own rule).
use Rattle.std.proofs.Common.{◌≡◌, ℕ, Bool, true, false, not, ◌&&◌, List, [], ◌∷◌, Option, Some, None, Ok, Err, refl, sym, ap, subst, ◌∙◌}
use Rattle.std.specs.Option.{option_and_then, option_map}
use Rattle.std.specs.Prelude.{if◌then◌else◌, is_ok, is_some, unwrap_or}
use Rattle.std.specs.Result.{result_ok}
use Rattle.sq_meaning.specs.Environment.{Item, TableName, TableReference}
use Rattle.sq_meaning.specs.Spelled.{Named}
use Rattle.sq_meaning.specs.Status as status
use Rattle.sq_meaning.specs.Syntax.{Clause, Select, SelectList, select}
use Rattle.sq_meaning.specs.Tables.{TableDescriptor, column_names, descriptor_of, item_of}
use Rattle.sq_meaning.specs.Target.{clause_has_subquery}
use Rattle.sq_meaning.specs.WellFormed.{HasValue}
use Rattle.sq_meaning.specs.Binding.{Judged, item_here}
use Rattle.sq_meaning.specs.Privileges.{updatable_here}
use Rattle.sq_binding.specs.Changeable.{NumberedUpdatable, UnderTable, UserNames, columns_shown, condition_bound, filter_of, has_plain_rows, list_of, made, may_be_changed, only_one, shown_of, table_over, target_over, updatable_bound, updatable_over, updatable_where}
use Rattle.sq_binding.specs.Condition.{select_bound}
use Rattle.sq_binding.specs.Found.{Counts, Found, pure}
use Rattle.sq_binding.specs.From.{NamedTable}
use Rattle.sq_binding.specs.NumberedCondition.{NumberedClause, NumberedSelect}
use Rattle.sq_binding.specs.Select.{Surroundings}
use Rattle.sq_binding.proofs.Exactly.ChangedTold.{TablesFit}
use Rattle.sq_binding.proofs.Faultless.Clean.{steps_of}
use Rattle.sq_binding.proofs.Faultless.CleanQuery.{pure_known}
use Rattle.sq_binding.proofs.FaultsFound.CondFaults.{SelectSpellsNoNull}
use Rattle.sq_binding.proofs.FaultsFound.FoundKinds.{item_is}
use Rattle.sq_binding.proofs.OneTable.PlainRows.{plain_rows}
use Rattle.sq_binding.proofs.FaultsFound.PredicateFaults.{surrounded}
use Rattle.sq_binding.proofs.AtSites.Subqueries.{clause_finds}
use Rattle.sq_binding.proofs.OneTable.UpdatableRule.{ColumnsFit, TreesShown, no_item, no_target, none_from, rule, select_shown, shown_same, whole_rule}

module _ (names : UserNames) (j : Judged) (fits : TablesFit names j) (once : ColumnsFit names) where
  abbrev here : Surroundings
  here = surrounded names.tables j [] false

  abbrev over : Option NumberedUpdatable → Option TableName
  over o = option_map (λ u. u.table) o

  none_left : (counts : Counts) (y : Found (Option NumberedUpdatable)) → pure None counts ≡ Ok y → over y.part ≡ None
  none_left counts y is = pure_known (λ o. over o ≡ None) None refl counts y is

  described : (t : NamedTable) (r : TableReference) (o : status.Outcome TableDescriptor) → descriptor_of j.known.tables r.table ≡ o → option_map (λ (n : NamedTable). n.columns) (Some t) ≡ option_map (λ d. d.columns) (result_ok o)
      → (d : TableDescriptor) × (descriptor_of j.known.tables r.table ≡ Ok d) × (t.columns ≡ d.columns)
  described t r (Ok d) is e = let columns : t.columns ≡ d.columns = cc in (d, is, columns)
  described t r (Err s) is e = cc

  no_table : (r : TableReference) (o : status.Outcome TableDescriptor) → option_map (λ (n : NamedTable). n.columns) None ≡ option_map (λ d. d.columns) (result_ok o) → is_ok (status.and_then {B = Item} o (λ d. Ok (record { reference = r; columns = column_names d }))) ≡ false
  no_table r (Ok d) e = cc
  no_table r (Err s) e = refl

  known_item : (r : TableReference) (d : TableDescriptor) → descriptor_of j.known.tables r.table ≡ Ok d → item_of j.known.tables r ≡ Ok (item_here j.known r)
  known_item r d known = item_is r (descriptor_of j.known.tables r.table) (subst HasValue (sym known) tt)

  of_table : (r : TableReference) (d : TableDescriptor) → descriptor_of j.known.tables r.table ≡ Ok d → (item_here j.known r).reference.table ≡ r.table
  of_table r d known =
      ap (λ (o : status.Outcome TableDescriptor). (unwrap_or (result_ok (status.and_then {B = Item} o (λ d. Ok (record { reference = r; columns = column_names d })))) (record { reference = r; columns = [] })).reference.table) known

  where_over : (r : TableReference) (t : NamedTable) (u : UnderTable) (o : Option (List ℕ)) (x : Found NumberedClause) (some : Bool) → x.findings.has_subquery ≡ some
      → over (updatable_where (table_over r t u) o x) ≡ (if not some && is_some o then Some r.table else None)
  where_over r t u None x true e = refl
  where_over r t u None x false e = refl
  where_over r t u (Some columns) x some e =
      ap (λ b. over (if b then None else Some (record { table = r.table; target = target_over (table_over r t u) x.part; columns = columns }))) e ∙ by some
    where
      by : (b : Bool) → over (if b then None else Some (record { table = r.table; target = target_over (table_over r t u) x.part; columns = columns })) ≡ (if not b && true then Some r.table else None)
      by true = refl
      by false = refl

  module _ (q : Select Named) (list : SelectList Named) (filter : Clause Named) (list_is : list_of q ≡ list) (filter_is : filter_of q ≡ filter) (s : NumberedSelect) (counts : Counts) where
    abbrev S : Bool
    S = clause_has_subquery filter

    one_table : (r : TableReference) → TreesShown names j fits once r list s → (plain : Bool) (o : Option NamedTable) → names.tables r.table ≡ o → (p : Option UnderTable) → names.under r.table ≡ p → (y : Found (Option NumberedUpdatable))
        → updatable_over here q s (if plain then option_and_then (λ t. option_map (table_over r t) p) o else None) counts ≡ Ok y → over y.part ≡ rule names j fits once list filter (plain && not S) (r ∷ [])
    one_table r trees false o there p under y is = none_left counts y is
    one_table r trees true None there p under y is =
        none_left counts y is ∙ sym (no_item names j fits once list filter (not S) r (no_table r (descriptor_of j.known.tables r.table) (sym (ap (option_map (λ (n : NamedTable). n.columns)) there) ∙ fits.tables r.table)))
    one_table r trees true (Some t) there None under y is =
        let d = described t r (descriptor_of j.known.tables r.table) refl (sym (ap (option_map (λ (n : NamedTable). n.columns)) there) ∙ fits.tables r.table) in
        none_left counts y is ∙ sym (no_target names j fits once list filter r (item_here j.known r) (known_item r d.0 d.1) (of_table r d.0 d.1) (not S) (sym (fits.changes r.table t there) ∙ ap is_some under))
    one_table r trees true (Some t) there (Some u) under y is =
        let d = described t r (descriptor_of j.known.tables r.table) refl (sym (ap (option_map (λ (n : NamedTable). n.columns)) there) ∙ fits.tables r.table) in
        let steps = steps_of (condition_bound here (table_over r t u) (filter_of q) counts) (λ x. Ok (made (updatable_where (table_over r t u) (columns_shown u (list_of q) (shown_of s))) x)) y is in
        let made_is = steps.second in
        let same : made (updatable_where (table_over r t u) (columns_shown u (list_of q) (shown_of s))) steps.step ≡ y = cc in
        ap (λ (y : Found (Option NumberedUpdatable)). over y.part) (sym same)
        ∙ where_over r t u (columns_shown u (list_of q) (shown_of s)) steps.step S (clause_finds (filter_of q) _ _ steps.step steps.first ∙ ap clause_has_subquery filter_is)
        ∙ (λ i. if not S && is_some (columns_shown u (list_is i) (shown_of s)) then Some r.table else None)
        ∙ ap (λ b. if not S && b then Some r.table else None) (shown_same names j fits once r t there u under d.0 d.1 d.2 list s trees)
        ∙ sym (whole_rule names j fits once list filter r (item_here j.known r) (known_item r d.0 d.1) (of_table r d.0 d.1) (not S) (sym (fits.changes r.table t there) ∙ ap is_some under))

    any_tables : (from : List TableReference) → ((r : TableReference) → from ≡ r ∷ [] → TreesShown names j fits once r list s) → (plain : Bool) (y : Found (Option NumberedUpdatable))
        → updatable_over here q s (if plain then option_and_then (may_be_changed names) (only_one from) else None) counts ≡ Ok y → over y.part ≡ rule names j fits once list filter (plain && not S) from
    any_tables [] trees true y is = none_left counts y is ∙ sym (none_from names j fits once list filter (not S) [] refl)
    any_tables [] trees false y is = none_left counts y is
    any_tables (r ∷ []) trees plain y is = one_table r (trees r refl) plain (names.tables r.table) refl (names.under r.table) refl y (over_one r plain y is)
      where
        over_one : (r : TableReference) (plain : Bool) (y : Found (Option NumberedUpdatable)) → updatable_over here q s (if plain then option_and_then (may_be_changed names) (only_one (r ∷ [])) else None) counts ≡ Ok y
            → updatable_over here q s (if plain then option_and_then (λ t. option_map (table_over r t) (names.under r.table)) (names.tables r.table) else None) counts ≡ Ok y
        over_one r true y is = is
        over_one r false y is = is
    any_tables (r ∷ t ∷ from) trees true y is = none_left counts y is ∙ sym (none_from names j fits once list filter (not S) (r ∷ t ∷ from) refl)
    any_tables (r ∷ t ∷ from) trees false y is = none_left counts y is

  -- a query specification is updatable exactly where the rules say so, and over the same table
  pub updatable_same : (q : Select Named) → SelectSpellsNoNull q → (before : Counts) (z : Found NumberedSelect) → select_bound here q before ≡ Ok z → (counts : Counts) (y : Found (Option NumberedUpdatable))
      → updatable_bound names here q z.part counts ≡ Ok y → over y.part ≡ option_map (λ source. source.item.reference.table) (updatable_here j.known.tables q)
  updatable_same (select distinct list from filter by having) null before z is counts y so =
      any_tables (select distinct list from filter by having) list filter refl refl z.part counts from
      (λ r one. select_shown names j fits once r distinct list filter by having before z (subst (λ from. select_bound here (select distinct list from filter by having) before ≡ Ok z) one is)) (has_plain_rows z.part) y so
      ∙ ap (λ plain. rule names j fits once list filter (plain && not (clause_has_subquery filter)) from) (plain_rows names.tables j fits.tables distinct list from filter by having null before z is)
