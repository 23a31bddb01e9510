-- A catalog with one more view knows what the elements with its CREATE VIEW make (ISO/IEC 9075:1992, 11.19).
use Rattle.std.proofs.Common.{◌≡◌, ◌≤◌, take, ℕ, suc, ◌+◌, Bool, true, false, cond, List, [], ◌∷◌, ◌++◌, arith, length, map, Option, Some, None, Ok, Err, refl, sym, ap, subst, ◌∙◌}
use Rattle.std.proofs.Math.Seq.{take-length}
use Rattle.std.proofs.lemmas.List.{length-append, take-append-le}
use Rattle.std.proofs.lemmas.List.Elements.{filter_map-append}
use Rattle.std.proofs.lemmas.Option.{get_or_from_slice_get}
use Rattle.std.proofs.lemmas.List.Sums.{sum_by-cons}
use Rattle.std.specs.List.{cons_option}
use Rattle.std.specs.Option.{option_and_then, option_map}
use Rattle.std.specs.Prelude.{if◌then◌else◌, is_ok, is_some, nat_lt, option_to_list, slice_get, slice_index, unwrap_or}
use Rattle.std.specs.Result.{result_ok}
use Rattle.sq_lex.specs.declared.name.Name.{Name}
use Rattle.sq_value.specs.declared.domain.Kind.{Kind}
use Rattle.sq_tree.specs.declared.schema.SchemaElement.TheVariants as element
use Rattle.sq_tree.specs.declared.schema.ViewDefinition.{ViewDefinition}
use Rattle.sq_meaning.specs.Environment.{TableName, TableReference, same_table}
use Rattle.sq_meaning.specs.Spelled.{Named, select_of, table_of}
use Rattle.sq_meaning.specs.Status as status
use Rattle.sq_meaning.specs.Syntax.{Clause, Cond, Select, absent, present}
use Rattle.sq_meaning.specs.Tables.{ColumnDescriptor, TableDescriptor, Tables}
use Rattle.sq_meaning.specs.Target.{Level, Source, Target, are_distinct, seen_through, target_of, updatable_source, with_check_option}
use Rattle.sq_meaning.specs.Catalog.{base_count, is_base_table, names_written, tables_of, view_descriptor, view_kinds, view_names}
use Rattle.sq_meaning.specs.Privileges.{updatable_here}
use Rattle.sq_meaning.specs.Schema.{Element, Elements, has_name_twice, table_named}
use Rattle.sq_meaning.specs.SchemaRefusal.{with_element}
use Rattle.sq_binding.specs.Changeable.{ChangedTable, NumberedUpdatable, UnderTable, UserNames, filter_of, from_of, item_at_leaf, leaf_column, leaf_columns, list_of, may_be_changed, only_one, outside, shown_of, table_over}
use Rattle.sq_binding.specs.From.{NamedTable}
use Rattle.sq_binding.specs.Numbered.{Numbered}
use Rattle.sq_binding.specs.NumberedCondition.{NumberedClause, NumberedCond, ResultColumn, clause_of, columns_of}
use Rattle.sq_binding.specs.PlacedQuery.{clause_placed, cond_placed}
use Rattle.sq_binding.specs.Select.{Surroundings, of_lines}
use Rattle.sq_bound.specs.Condition.{PlacedCond}
use Rattle.sq_binding.specs.View.{NumberedView}
use Rattle.sq_binding.proofs.FaultsFound.CondFaults.{SelectSpellsNoNull}
use Rattle.sq_binding.proofs.Placing.PlacedCursor.{IfAny, IsUpdatable}
use Rattle.sq_binding.proofs.Placing.PlacedParts.{around}
use Rattle.sq_binding.specs.Catalog.{Catalog, DeclaredUnder, Entry, entry, entry_under, table_count}
use Rattle.sq_binding.specs.Table.{most_tables}
use Rattle.sq_binding.specs.CreateView.{NewView, above, column_shown, conditions_with, view_columns, view_under, with_view}
use Rattle.sq_binding.proofs.SchemaViews.BoundViews.{IsBoundView, leaf_count, shown_leaves, view_known}
use Rattle.sq_binding.proofs.Schemas.Created.{descriptor_here, is_new, still_known, target_here}
use Rattle.sq_binding.proofs.Schemas.KnownTables.{IsCatalogOf, IsTargetAs, IsUnderAs, Known, condition_written, conditions_written, known_target}
use Rattle.sq_binding.proofs.Schemas.Names.{table_itself, table_same}
use Rattle.sq_binding.proofs.SchemaViews.ViewNames.{entry_of, names, under_of}
use Rattle.sq_binding.proofs.SchemaViews.ViewShows.{is_there, shows, status_step}
use Rattle.sq_binding.proofs.SchemaViews.CreatedViews.{IsNewView}
use Rattle.sq_binding.proofs.SchemaViews.ViewAdded.{columns_same, counted, described_columns, names_shown, view_added}

-- ---- the catalog

module _ (users : List Name) (before : Elements) (c : Catalog) (of : IsCatalogOf users before c) (user : Name) (v : ViewDefinition) (null : SelectSpellsNoNull (select_of user v.query)) (n : NewView) (m : IsNewView users before c of user v null n) where
  abbrev own : TableName
  own = table_of user v.name

  abbrev Q : Select Named
  Q = select_of user v.query

  abbrev N : UserNames
  N = names users before c of user

  abbrev pub elements : Elements
  elements = with_element before user (element.View v)

  abbrev described : TableDescriptor
  described = view_descriptor (tables_of before) user v

  abbrev b : NumberedView
  b = m.bound

  abbrev cs : List ResultColumn
  cs = columns_of b.query

  pub bound_known : IsBoundView users before c of user Q null b
  bound_known = view_known users before c of user Q null b m.is_bound.1

  pub view_new : entry c own ≡ None
  view_new = is_new users before c of user own m.untaken m.in_schema

  named : n.view.name ≡ own
  named = ap (λ (n : NewView). n.view.name) m.made

  pub view_entry : (to : TableName) → entry (with_view c n) to ≡ (if same_table own to then Some (Entry.view n.view) else entry c to)
  view_entry to = view_added c n (ap (entry c) named ∙ view_new) to ∙ ap (λ t. if same_table t to then Some (Entry.view n.view) else entry c to) named

  -- ---- its columns

  pub columns_are : n.view.columns ≡ view_columns m.ns cs
  columns_are = ap (λ (n : NewView). n.view.columns) m.made

  pub described_are : described.columns ≡ n.view.columns
  described_are =
      (λ i. described_columns (names_are i) (kinds_are i)) ∙ columns_same m.ns cs ∙ sym columns_are
    where
      names_are : view_names (tables_of before) user v ≡ map Some m.ns
      names_are = ap (λ (o : status.Outcome (List (Option Name))). names_written v.columns (unwrap_or (result_ok o) [])) bound_known.names_are ∙ sym m.are.written

      kinds_are : view_kinds (tables_of before) user v ≡ map (λ c. c.kind) cs
      kinds_are = ap (λ (o : status.Outcome (List Kind)). unwrap_or (result_ok o) []) bound_known.kinds_are

  pub columns_named : map (λ c. c.name) n.view.columns ≡ m.ns
  columns_named = ap (map (λ (c : ColumnDescriptor). c.name)) columns_are ∙ names_shown m.ns cs m.are.as_many

  columns_counted : length n.view.columns ≡ length cs
  columns_counted = ap length columns_are ∙ counted m.ns cs m.are.as_many

  -- ---- what is under it

  -- the table underneath
  pub record IsOverTable (u : NumberedUpdatable) : Type 0 where
    pub reference : TableReference
    pub only : from_of Q ≡ reference ∷ []
    pub table : u.table ≡ reference.table
    pub on : Entry
    pub there : entry c reference.table ≡ Some on
    pub below : DeclaredUnder
    pub has : entry_under on ≡ Some below
    pub leaf : UnderTable
    pub leaf_as : leaf.columns ≡ below.columns
    pub leaves : leaf_columns leaf (shown_of b.query) ≡ Some u.columns
    pub count : length u.columns ≡ length (shown_of b.query)
    pub once : are_distinct u.columns ≡ true

  over_table : (u : NumberedUpdatable) → IsUpdatable N (outside N []) Q b.query u → IsOverTable u
  over_table u h = by (from_of Q) refl h.is_only
    where
      of_reference : (r : TableReference) → from_of Q ≡ r ∷ [] → may_be_changed N r ≡ Some h.changed → IsOverTable u
      of_reference r one may_it = of_table (N.tables r.table) refl (N.under r.table) refl may_it
        where
          of_table : (t : Option NamedTable) → N.tables r.table ≡ t → (under : Option UnderTable) → N.under r.table ≡ under → option_and_then (λ t. option_map (table_over r t) under) t ≡ Some h.changed → IsOverTable u
          of_table None is under under_is e = cc
          of_table (Some t) is None under_is e = cc
          of_table (Some t) is (Some x) under_is e =
              let same : table_over r t x ≡ h.changed = cc in
              let there = entry_of users before c of user r.table t is in
              let below = under_of users before c of user r.table x under_is there.on there.there in
              let shown = shown_leaves h.changed.under (list_of Q) (shown_of b.query) u.columns h.columns in
              record {
                reference = r;
                only = one;
                table = h.table ∙ ap (λ (t : ChangedTable). t.reference.table) (sym same);
                on = there.on;
                there = there.there;
                below = below.below;
                has = below.has;
                leaf = x;
                leaf_as = below.columns;
                leaves = subst (λ (t : ChangedTable). leaf_columns t.under (shown_of b.query) ≡ Some u.columns) (sym same) shown.0;
                count = leaf_count h.changed.under (shown_of b.query) u.columns shown.0;
                once = shown.1;
              }

      by : (from : List TableReference) → from_of Q ≡ from → option_and_then (may_be_changed N) (only_one from) ≡ Some h.changed → IsOverTable u
      by [] is e = cc
      by (r ∷ []) is e = of_reference r is e
      by (r ∷ s ∷ from) is e = cc

  pub over_known : (u : NumberedUpdatable) → b.updatable ≡ Some u → IsOverTable u
  over_known u is = over_table u (subst (IfAny N (outside N []) Q b.query) is bound_known.shows)

  -- the source that is there where the view is updatable
  pub source_there : (u : NumberedUpdatable) → b.updatable ≡ Some u → (source : Source) × (updatable_here (tables_of before) Q ≡ Some source) × (u.table ≡ source.item.reference.table)
  source_there u is = by (updatable_here (tables_of before) Q) refl (sym (ap (option_map (λ (u : NumberedUpdatable). u.table)) is) ∙ bound_known.over)
    where
      by : (o : Option Source) → updatable_here (tables_of before) Q ≡ o → Some u.table ≡ option_map (λ source. source.item.reference.table) o → (source : Source) × (updatable_here (tables_of before) Q ≡ Some source) × (u.table ≡ source.item.reference.table)
      by None here e = cc
      by (Some source) here e = let same : u.table ≡ source.item.reference.table = cc in (source, here, same)

  under_is : n.view.under ≡ option_and_then (view_under c v.check_option) b.updatable
  under_is = ap (λ (n : NewView). n.view.under) m.made

  pub under_some : (u : NumberedUpdatable) → b.updatable ≡ Some u → (d : DeclaredUnder) × (n.view.under ≡ Some d) × (d.columns ≡ u.columns)
  under_some u is =
      let k = over_known u is in (
        above v.check_option u k.below,
        under_is ∙ ap (option_and_then (view_under c v.check_option)) is
            ∙ ap (λ o. option_map (above v.check_option u) (option_and_then entry_under o)) (ap (entry c) k.table ∙ k.there) ∙ ap (option_map (above v.check_option u)) k.has,
        refl,
      )

  is_under : is_some b.updatable ≡ is_some n.view.under
  is_under = by b.updatable refl
    where
      by : (o : Option NumberedUpdatable) → b.updatable ≡ o → is_some o ≡ is_some n.view.under
      by None is = sym (ap is_some (under_is ∙ ap (option_and_then (view_under c v.check_option)) is))
      by (Some u) is = sym (ap is_some (under_some u is).1)

  -- the columns of what is under it
  of_under : (d : DeclaredUnder) → n.view.under ≡ Some d → (u : NumberedUpdatable) × (b.updatable ≡ Some u) × (d.columns ≡ u.columns)
  of_under d has = by b.updatable refl
    where
      by : (o : Option NumberedUpdatable) → b.updatable ≡ o → (u : NumberedUpdatable) × (b.updatable ≡ Some u) × (d.columns ≡ u.columns)
      by None is = let none : None ≡ Some d = sym (under_is ∙ ap (option_and_then (view_under c v.check_option)) is) ∙ has in cc
      by (Some u) is =
          let k = under_some u is in
          let both : Some k.0 ≡ Some d = sym k.1 ∙ has in
          let same : k.0 ≡ d = cc in
          (u, is, ap (λ (d : DeclaredUnder). d.columns) (sym same) ∙ k.2)

  both_some : {A B C : Type 0} (f : A → C) (g : B → C) (o : Option A) (p : Option B) → option_map f o ≡ option_map g p → is_some o ≡ is_some p
  both_some f g None None e = refl
  both_some f g None (Some y) e = cc
  both_some f g (Some x) None e = cc
  both_some f g (Some x) (Some y) e = refl

  source_targets : (o : status.Outcome Source) (make : Source → Target → Target)
      → is_ok (status.and_then o (λ source. status.and_then (target_of (tables_of before) source.item.reference.table) (λ under. Ok (make source under))))
      ≡ is_some (result_ok (status.and_then o (λ source. status.and_then (target_of (tables_of before) source.item.reference.table) (λ under. Ok source))))
  source_targets (Err s) make = refl
  source_targets (Ok source) make = by (target_of (tables_of before) source.item.reference.table)
    where
      by : (p : status.Outcome Target) → is_ok (status.and_then p (λ under. Ok (make source under))) ≡ is_some (result_ok (status.and_then p (λ under. Ok source)))
      by (Err s) = refl
      by (Ok t) = refl

  is_target : (to : TableName) → same_table own to ≡ true → is_ok (target_of (described ∷ tables_of before) to) ≡ is_some n.view.under
  is_target to is =
      ap is_ok (target_here (tables_of before) described to is)
      ∙ source_targets (updatable_source (tables_of before) Q) (λ source under. with_check_option v.check_option (seen_through source under))
      ∙ sym (both_some (λ u. u.table) (λ source. source.item.reference.table) b.updatable (updatable_here (tables_of before) Q) bound_known.over)
      ∙ is_under

  -- the columns of the base table, and the conditions
  leaves_are : (x : UnderTable) (ts : List Numbered) (ks ns : List ℕ) → map column_shown ts ≡ map Some ks → leaf_columns x ts ≡ Some ns → map (λ k. slice_index x.columns k) ks ≡ ns
  leaves_are x [] [] ns shown e = let same : [] ≡ ns = cc in same
  leaves_are x [] (k ∷ ks) ns shown e = cc
  leaves_are x (t ∷ ts) [] ns shown e = cc
  leaves_are x (t ∷ ts) (k ∷ ks) ns shown e =
      let first : column_shown t ≡ Some k = cc in
      let rest : map column_shown ts ≡ map Some ks = cc in
      by t first (leaf_column x t) refl (leaf_columns x ts) (λ ms is. leaves_are x ts ks ms rest is) refl e
    where
      of_tree : (t : Numbered) → column_shown t ≡ Some k → (k' : ℕ) → leaf_column x t ≡ Some k' → slice_index x.columns k ≡ k'
      of_tree (Numbered.column p) e k' is = let same : p.column ≡ k = cc in get_or_from_slice_get x.columns k k' 0 (ap (slice_get x.columns) (sym same) ∙ is)
      of_tree (Numbered.literal w) e k' is = cc
      of_tree (Numbered.parameter w) e k' is = cc
      of_tree Numbered.user e k' is = cc
      of_tree (Numbered.set_function w) e k' is = cc
      of_tree (Numbered.signed w y) e k' is = cc
      of_tree (Numbered.operation w y z) e k' is = cc

      by : (t : Numbered) → column_shown t ≡ Some k → (o : Option ℕ) → leaf_column x t ≡ o → (rest : Option (List ℕ)) → ((ms : List ℕ) → leaf_columns x ts ≡ Some ms → map (λ k. slice_index x.columns k) ks ≡ ms) → leaf_columns x ts ≡ rest
          → option_and_then (λ n. option_map (λ ns. n ∷ ns) rest) o ≡ Some ns → slice_index x.columns k ∷ map (λ k. slice_index x.columns k) ks ≡ ns
      by t shown None is rest later are e = cc
      by t shown (Some m) is None later are e = cc
      by t shown (Some m) is (Some ms) later are e = let same : m ∷ ms ≡ ns = cc in (λ i. of_tree t shown m is i ∷ later ms are i) ∙ same

  -- a condition is there in what is bound where it is written
  present_alike : (names : Surroundings) (filter : Clause Named) (y : NumberedClause) → clause_placed names filter ≡ Ok (clause_of [] y) → (below : List NumberedCond) → length (conditions_with below y) ≡ length below + length (option_to_list (condition_written filter))
  present_alike names absent NumberedClause.absent e below = let sum : length below ≡ length below + 0 = omega arith in sum
  present_alike names absent (NumberedClause.present y) e below = cc
  present_alike names (present x) NumberedClause.absent e below = none (cond_placed names x) e
    where
      none : (o : status.Outcome PlacedCond) → status.and_then o (λ c. Ok (present c)) ≡ Ok absent → length below ≡ length below + 1
      none (Ok c) e = cc
      none (Err s) e = cc
  present_alike names (present x) (NumberedClause.present y) e below = length-append below (y ∷ [])

  one_more_level : (ls : List Level) (l : Level) → length (conditions_written (ls ++ l ∷ [])) ≡ length (conditions_written ls) + length (option_to_list (condition_written l.condition))
  one_more_level ls l = ap length (filter_map-append (λ (l : Level). condition_written l.condition) ls (l ∷ [])) ∙ length-append (conditions_written ls) (conditions_written (l ∷ [])) ∙ ap (λ n. length (conditions_written ls) + n) (last (condition_written l.condition))
    where
      last : (o : Option (Cond Named)) → length (cons_option o []) ≡ length (option_to_list o)
      last None = refl
      last (Some x) = refl

  -- the target that the rules know, and what is under the view
  module _ (u : NumberedUpdatable) (is : b.updatable ≡ Some u) where
    abbrev T : Tables
    T = tables_of before

    k : IsOverTable u
    k = over_known u is

    there : (source : Source) × (updatable_here T Q ≡ Some source) × (u.table ≡ source.item.reference.table)
    there = source_there u is

    abbrev targeted : Source → status.Outcome Source
    targeted source = status.and_then (target_of T source.item.reference.table) (λ _. Ok source)

    under_now : n.view.under ≡ Some (above v.check_option u k.below)
    under_now =
        under_is ∙ ap (option_and_then (view_under c v.check_option)) is
        ∙ ap (λ o. option_map (above v.check_option u) (option_and_then entry_under o)) (ap (entry c) k.table ∙ k.there) ∙ ap (option_map (above v.check_option u)) k.has

    h : IsUpdatable N (outside N []) Q b.query u
    h = subst (IfAny N (outside N []) Q b.query) is bound_known.shows

    module _ (source : Source) (cols : map column_shown (shown_of b.query) ≡ map Some source.columns) (filter_is : source.condition ≡ filter_of Q) (under : Target) (below : IsUnderAs under k.below) where
      abbrev level : Level
      level = record { item = source.item; columns = under.columns; condition = source.condition }

      columns_ok : map (λ n. slice_index under.columns n) source.columns ≡ u.columns
      columns_ok = ap (λ cs. map (λ n. slice_index cs n) source.columns) (below.columns ∙ sym k.leaf_as) ∙ leaves_are k.leaf (shown_of b.query) source.columns u.columns cols k.leaves

      conditions_ok : length (conditions_written (under.levels ++ level ∷ [])) ≡ length (conditions_with k.below.conditions u.target.condition)
      conditions_ok =
          one_more_level under.levels level ∙ (λ i. below.conditions i + length (option_to_list (condition_written (filter_is i))))
          ∙ sym (present_alike (around (of_lines (item_at_leaf h.changed ∷ []) (outside N []))) (filter_of Q) u.target.condition h.condition k.below.conditions)

      demanded_ok : length (conditions_written (take under.demanded (under.levels ++ level ∷ []))) ≡ k.below.demanded
      demanded_ok = ap (λ ls. length (conditions_written ls)) (take-append-le under.demanded under.levels (level ∷ []) below.within) ∙ below.demanded

      within_ok : under.demanded ≤ length (under.levels ++ level ∷ [])
      within_ok = let sum = length-append under.levels (level ∷ []) in let less = below.within in omega (arith, sum, less)

      as_above : (co : Bool) → IsUnderAs (with_check_option co (seen_through source under)) (above co u k.below)
      as_above true = record {
        place = below.place;
        columns = columns_ok;
        conditions = conditions_ok;
        demanded = ap (λ ls. length (conditions_written ls)) (take-length (under.levels ++ level ∷ [])) ∙ conditions_ok;
        within = omega arith;
      }
      as_above false = record { place = below.place; columns = columns_ok; conditions = conditions_ok; demanded = demanded_ok; within = within_ok }

    target_as : IsTargetAs (target_of (described ∷ T) own) (Some (above v.check_option u k.below))
    target_as =
        let source = there.0 in
        let all = is_there (status.and_then (updatable_source T Q) targeted) source there.1 in
        let outer = status_step (updatable_source T Q) targeted source all in
        let inner = status_step (target_of T outer.step.item.reference.table) (λ _. Ok outer.step) source outer.second in
        let last = inner.second in
        let same : outer.step ≡ source = cc in
        let at_source : target_of T source.item.reference.table ≡ Ok inner.step = ap (λ (s : Source). target_of T s.item.reference.table) (sym same) ∙ inner.first in
        let found : updatable_source T Q ≡ Ok source = outer.first ∙ ap Ok same in
        let below : IsUnderAs inner.step k.below = subst (λ o. IsTargetAs o (Some k.below)) (ap (target_of T) (sym k.table ∙ there.2) ∙ at_source)
        (subst (IsTargetAs (target_of T k.reference.table)) k.has (known_target before k.reference.table k.on (subst (Known before k.reference.table) k.there (of.known k.reference.table)))) in
        let shown = shows users before c of user Q bound_known.found bound_known.is_found source there.1 in
        subst (λ o. IsTargetAs o (Some (above v.check_option u k.below)))
        (sym (target_here T described own (table_itself own)
        ∙ ap (λ (o : status.Outcome Source). status.and_then o (λ source. status.and_then (target_of T source.item.reference.table) (λ under. Ok (with_check_option v.check_option (seen_through source under))))) found
        ∙ ap (λ (o : status.Outcome Target). status.and_then o (λ under. Ok (with_check_option v.check_option (seen_through source under)))) at_source))
        (as_above source (ap (λ s. map column_shown (shown_of s)) (sym bound_known.query) ∙ shown.columns) shown.condition inner.step below v.check_option)

  none_as : (o : status.Outcome Target) (d : Option DeclaredUnder) → d ≡ None → is_ok o ≡ is_some d → IsTargetAs o d
  none_as (Ok t) None e f = cc
  none_as (Ok t) (Some d) e f = cc
  none_as (Err s) None e f = tt
  none_as (Err s) (Some d) e f = cc

  target_now : (to : TableName) → same_table own to ≡ true → IsTargetAs (target_of (described ∷ tables_of before) to) n.view.under
  target_now to is = by b.updatable refl
    where
      by : (o : Option NumberedUpdatable) → b.updatable ≡ o → IsTargetAs (target_of (described ∷ tables_of before) to) n.view.under
      by None e = none_as (target_of (described ∷ tables_of before) to) n.view.under (under_is ∙ ap (option_and_then (view_under c v.check_option)) e) (is_target to is)
      by (Some u) e =
          subst (λ t. IsTargetAs (target_of (described ∷ tables_of before) t) n.view.under) (table_same own to is)
          (subst (IsTargetAs (target_of (described ∷ tables_of before) own)) (sym (under_now u e)) (target_as u e))

  -- ---- what names mean now

  known_here : (to : TableName) → same_table own to ≡ true → Known elements to (Some (Entry.view n.view))
  known_here to is = record {
    named = named ∙ table_same own to is;
    no_base = subst (λ t. table_named before t ≡ None) (table_same own to is) (no_base_before (entry c own) view_new (of.known own));
    descriptor = described;
    known = descriptor_here (tables_of before) described to is;
    columns = described_are;
    apart = ap has_name_twice columns_named ∙ m.are.apart;
    narrow = ap (nat_lt 64) columns_counted ∙ bound_known.narrow;
    target = target_now to is;
    wide = λ d has. let u = of_under d has in ap length u.2 ∙ (over_known u.0 u.1).count ∙ bound_known.trees ∙ sym columns_counted;
    once = λ d has. let u = of_under d has in ap are_distinct u.2 ∙ (over_known u.0 u.1).once;
  }
    where
      no_base_before : (e : Option Entry) → e ≡ None → Known before own e → table_named before own ≡ None
      no_base_before None is k = k.no_base
      no_base_before (Some e) is k = cc

  pub known_now : (to : TableName) → Known elements to (entry (with_view c n) to)
  known_now to = subst (Known elements to) (sym (view_entry to)) (by (same_table own to) refl)
    where
      by : (same : Bool) → same_table own to ≡ same → Known elements to (if same then Some (Entry.view n.view) else entry c to)
      by true is = known_here to is
      by false is = still_known before elements described refl to is refl (entry c to) (of.known to)

  -- ---- how many

  longer : length (c.views ++ n.view ∷ []) ≡ suc (length c.views)
  longer = let sum = length-append c.views (n.view ∷ []) in omega (arith, sum)

  pub count_now : length (tables_of elements) ≡ table_count (with_view c n)
  count_now = let sum = longer in let count = of.count in omega (arith, sum, count)

  pub bases_now : base_count elements ≡ length c.bases
  bases_now = let count = of.bases in let step : base_count elements ≡ 0 + base_count before = sum_by-cons (λ (e : Element). cond (is_base_table e.element) 1 0) (record { user = user; element = element.View v }) before in omega (arith, count, step)

  pub few_now : nat_lt most_tables (table_count (with_view c n)) ≡ false
  few_now = ap (nat_lt most_tables) (sym count_now) ∙ m.room
