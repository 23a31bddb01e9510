-- An updatable query, as the rules know it: the table underneath, its columns, and its condition (ISO/IEC 9075:1992, 7.9).
use Rattle.std.proofs.Common.{◌≡◌, ℕ, Bool, false, not, ◌&&◌, List, [], ◌∷◌, map, Some, Ok, Err, refl, sym, ap, subst, ◌∙◌}
use Rattle.std.proofs.lemmas.List.{append-nil}
use Rattle.std.specs.List.{AllZip}
use Rattle.std.specs.Prelude.{unwrap_or}
use Rattle.std.specs.Result.{result_ok}
use Rattle.sq_lex.specs.declared.name.Name.{Name}
use Rattle.sq_tree.specs.declared.names.ColumnReference.{ColumnReference}
use Rattle.sq_meaning.specs.Environment.{Item, TableReference}
use Rattle.sq_meaning.specs.Query.{is_grouped}
use Rattle.sq_meaning.specs.Spelled.{Named}
use Rattle.sq_meaning.specs.Status as status
use Rattle.sq_meaning.specs.Syntax.{Clause, Expr, Select, SelectList, all_columns, expressions, select}
use Rattle.sq_meaning.specs.Tables.{ColumnDescriptor, TableDescriptor, column_names, descriptor_of, item_of}
use Rattle.sq_meaning.specs.Target.{Source, are_distinct, clause_has_subquery, only_table, places_of, shown_column, shown_columns, target_of, updatable_source}
use Rattle.sq_meaning.specs.Binding.{Judged, item_here}
use Rattle.sq_meaning.specs.Catalog.{tables_of}
use Rattle.sq_meaning.specs.Privileges.{updatable_here}
use Rattle.sq_meaning.specs.Schema.{Elements}
use Rattle.sq_binding.specs.Changeable.{UserNames, filter_of, shown_of}
use Rattle.sq_binding.specs.Condition.{select_bound}
use Rattle.sq_binding.specs.Found.{Found}
use Rattle.sq_binding.specs.Select.{ShownColumn, column_of_item}
use Rattle.sq_binding.specs.NumberedCondition.{NumberedSelect}
use Rattle.sq_binding.specs.Whole.{at_first}
use Rattle.sq_binding.proofs.FaultsFound.Known.{columns_in, item_known}
use Rattle.sq_binding.proofs.FaultsFound.PredicateFaults.{surrounded}
use Rattle.sq_binding.proofs.OneTable.ShownColumns.{IsShownAs}
use Rattle.sq_binding.proofs.OneTable.UpdatableRule.{TreesShown, select_shown}
use Rattle.sq_binding.specs.Catalog.{Catalog}
use Rattle.sq_binding.specs.CreateView.{column_shown}
use Rattle.sq_binding.proofs.Schemas.KnownTables.{IsCatalogOf}
use Rattle.sq_binding.proofs.SchemaViews.ViewGrants.{shown_places, star_columns, star_places}
use Rattle.sq_binding.proofs.SchemaViews.ViewNames.{all_fit, columns_fit, j, names}

-- ---- steps of what is well formed

pub record Step {A B : Type 0} (o : status.Outcome A) (f : A → status.Outcome B) (y : B) : Type 0 where
  pub step : A
  pub first : o ≡ Ok step
  pub second : f step ≡ Ok y

pub status_step : {A B : Type 0} (o : status.Outcome A) (f : A → status.Outcome B) (y : B) → status.and_then o f ≡ Ok y → Step o f y
status_step (Ok x) f y e = record { step = x; first = refl; second = e }
status_step (Err s) f y e = cc

pub is_there : {A : Type 0} (o : status.Outcome A) (x : A) → result_ok o ≡ Some x → o ≡ Ok x
is_there (Ok y) x e = let same : y ≡ x = cc in ap Ok same
is_there (Err s) x e = cc

-- what an updatable query is made of
pub record IsSource (before : Elements) (r : TableReference) (list : SelectList Named) (filter : Clause Named) (source : Source) : Type 0 where
  pub condition : source.condition ≡ filter
  pub item : item_of (tables_of before) r ≡ Ok source.item
  pub columns : shown_columns source.item list ≡ Ok source.columns

abbrev with_columns : Clause Named → Item → List ℕ → status.Outcome Source
with_columns filter item columns = Ok (record { item = item; columns = columns; condition = filter })

abbrev of_item : SelectList Named → Clause Named → Item → status.Outcome Source
of_item list filter item = status.and_then (shown_columns item list) (with_columns filter item)

abbrev of_table : Elements → SelectList Named → Clause Named → TableReference → status.Outcome Source
of_table before list filter r = status.and_then (item_of (tables_of before) r) (of_item list filter)

only_one_table : (from : List TableReference) (r : TableReference) → only_table from ≡ Ok r → from ≡ r ∷ []
only_one_table [] r e = cc
only_one_table (s ∷ []) r e = let same : s ≡ r = cc in ap (λ r. r ∷ []) same
only_one_table (s ∷ t ∷ from) r e = cc

source_of : (before : Elements) (distinct : Bool) (list : SelectList Named) (from : List TableReference) (filter : Clause Named) (by : List ColumnReference) (having : Clause Named) (source : Source)
    → updatable_here (tables_of before) (select distinct list from filter by having) ≡ Some source → (r : TableReference) × (from ≡ r ∷ []) × IsSource before r list filter source
source_of before distinct list from filter by having source e =
    let all = is_there (status.and_then (updatable_source (tables_of before) (select distinct list from filter by having)) (λ source. status.and_then (target_of (tables_of before) source.item.reference.table) (λ _. Ok source))) source e in
    let outer = status_step (updatable_source (tables_of before) (select distinct list from filter by having)) (λ source. status.and_then (target_of (tables_of before) source.item.reference.table) (λ _. Ok source)) source all in
    let inner = status_step (target_of (tables_of before) outer.step.item.reference.table) (λ _. Ok outer.step) source outer.second in
    let last = inner.second in
    let same : outer.step ≡ source = cc in
    let plain = status_step (status.well_formed_if (not distinct && not (is_grouped list by having) && not (clause_has_subquery filter))) (λ _. status.and_then (only_table from) (of_table before list filter)) outer.step outer.first in
    let table = status_step (only_table from) (of_table before list filter) outer.step plain.second in
    let item = status_step (item_of (tables_of before) table.step) (of_item list filter) outer.step table.second in
    let columns = status_step (shown_columns item.step list) (with_columns filter item.step) outer.step item.second in
    let made = columns.second in
    let is : record { item = item.step; columns = columns.step; condition = filter } ≡ outer.step = cc in
    (table.step, only_one_table from table.step table.first, subst (IsSource before table.step list filter) (is ∙ same) (record { condition = refl; item = item.first; columns = columns.first }))

-- the item of a table reference has the columns of the table
item_columns : (before : Elements) (r : TableReference) (item : Item) → item_of (tables_of before) r ≡ Ok item → (item.reference ≡ r) × (item.columns ≡ map (λ c. c.name) (columns_in (descriptor_of (tables_of before) r.table)))
item_columns before r item e = by (descriptor_of (tables_of before) r.table) e
  where
    by : (o : status.Outcome TableDescriptor) → status.and_then o (λ d. Ok (record { reference = r; columns = column_names d })) ≡ Ok item → (item.reference ≡ r) × (item.columns ≡ map (λ c. c.name) (columns_in o))
    by (Ok d) e = let same : record { reference = r; columns = column_names d } ≡ item = cc in (ap (λ (i : Item). i.reference) (sym same), ap (λ (i : Item). i.columns) (sym same))
    by (Err s) e = cc

listed_columns : (item : Item) (es : List (Expr Named)) (ns : List ℕ) → shown_columns item (expressions es) ≡ Ok ns → status.each (shown_column item) es ≡ Ok ns
listed_columns item es ns e =
    let found = status_step (status.each (shown_column item) es) (λ columns. status.and_then (status.well_formed_if (are_distinct columns)) (λ _. Ok columns)) ns e in
    let once = status_step (status.well_formed_if (are_distinct found.step)) (λ _. Ok found.step) ns found.second in
    let last = once.second in
    let same : found.step ≡ ns = cc in
    found.first ∙ ap Ok same

module _ (users : List Name) (before : Elements) (c : Catalog) (of : IsCatalogOf users before c) (user : Name) where
  abbrev N : UserNames
  N = names users before c of user

  abbrev J : Judged
  J = j users before c of user

  -- What an updatable query shows, as the rules know it.
  pub record Shows (q : Select Named) (s : NumberedSelect) (source : Source) : Type 0 where
    pub underneath : source.item.columns ≡ map (λ c. c.name) (columns_in (descriptor_of (tables_of before) source.item.reference.table))
    pub columns : map column_shown (shown_of s) ≡ map Some source.columns
    pub condition : source.condition ≡ filter_of q

  abbrev Trees : TableReference → SelectList Named → NumberedSelect → Type 0
  Trees = TreesShown N J (all_fit users before c of user) (columns_fit users before c of user)

  star_shows : (r : TableReference) (s : NumberedSelect) (item : Item) (ns : List ℕ) → Trees r all_columns s → item.columns ≡ map (λ c. c.name) (columns_in (descriptor_of (tables_of before) r.table)) → shown_columns item all_columns ≡ Ok ns → map column_shown (shown_of s) ≡ map Some ns
  star_shows r s item ns trees is e =
      let cs = columns_in (descriptor_of (tables_of before) r.table) in
      let same : places_of item.columns ≡ ns = cc in
      ap (map column_shown) (trees ∙ ap (map (λ (c : ShownColumn). c.tree)) (append-nil (map (column_of_item 0) (item_known J.known r).columns)))
      ∙ star_columns 0 cs ∙ ap (map Some) (sym (star_places cs) ∙ ap places_of (sym is) ∙ same)

  list_shows : (r : TableReference) (es : List (Expr Named)) (s : NumberedSelect) (item : Item) (ns : List ℕ) → Trees r (expressions es) s → item_of (tables_of before) r ≡ Ok item → shown_columns item (expressions es) ≡ Ok ns → map column_shown (shown_of s) ≡ map Some ns
  list_shows r es s item ns trees is e =
      let here : item_here J.known r ≡ item = ap (λ (o : status.Outcome Item). unwrap_or (result_ok o) (record { reference = r; columns = [] })) is in
      shown_places item es (shown_of s) (subst (λ item. AllZip (IsShownAs item) es (shown_of s)) here trees) ns (listed_columns item es ns e)

  pub shows : (q : Select Named) (x : Found NumberedSelect) → select_bound (surrounded N.tables J [] false) q at_first ≡ Ok x → (source : Source) → updatable_here (tables_of before) q ≡ Some source → Shows q x.part source
  shows (select distinct list from filter by having) x is source here =
      let of_source = source_of before distinct list from filter by having source here in
      let r = of_source.0 in
      let item = item_columns before r source.item of_source.2.item in
      let trees = select_shown N J (all_fit users before c of user) (columns_fit users before c of user) r distinct list filter by having at_first x
      (subst (λ from. select_bound (surrounded N.tables J [] false) (select distinct list from filter by having) at_first ≡ Ok x) of_source.1 is) in
      record {
        underneath = item.1 ∙ ap (λ (r : TableReference). map (λ (c : ColumnDescriptor). c.name) (columns_in (descriptor_of (tables_of before) r.table))) (sym item.0);
        columns = by_list list r trees of_source.2 item.1;
        condition = of_source.2.condition;
      }
    where
      by_list : (list : SelectList Named) (r : TableReference) → Trees r list x.part → IsSource before r list filter source → source.item.columns ≡ map (λ c. c.name) (columns_in (descriptor_of (tables_of before) r.table)) → map column_shown (shown_of x.part) ≡ map Some source.columns
      by_list all_columns r trees is_source item = star_shows r x.part source.item source.columns trees item is_source.columns
      by_list (expressions es) r trees is_source item = list_shows r es x.part source.item source.columns trees is_source.item is_source.columns
