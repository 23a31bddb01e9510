-- The facts known of a view's query if it is bound: its columns, whether it is updatable, and the privileges that its owner may grant
-- (ISO/IEC 9075:1992, 7.9 and 11.19).
use Rattle.std.proofs.Common.{◌≡◌, ℕ, suc, Bool, true, false, not, ◌&&◌, ◌||◌, List, [], ◌∷◌, ◌++◌, length, map, Option, Some, None, Ok, refl, sym, ap, subst, ◌∙◌}
use Rattle.std.proofs.lemmas.List.{length-map}
use Rattle.std.specs.List.{cons_option, filter_map, list_all, list_any}
use Rattle.std.specs.Option.{option_and_then, option_map}
use Rattle.std.specs.Prelude.{⊤, if◌then◌else◌, nat_lt}
use Rattle.sq_lex.specs.declared.name.Name.{Name}
use Rattle.sq_tree.specs.declared.expr.SetFunction.{SetFunction}
use Rattle.sq_tree.specs.declared.expr.SetFunction.TheVariants.{Avg, Count, Max, Min, Sum}
use Rattle.sq_meaning.specs.Environment.{TableName}
use Rattle.sq_meaning.specs.Kind.{select_kinds}
use Rattle.sq_meaning.specs.SortKeys.{select_names}
use Rattle.sq_meaning.specs.Spelled.{Named}
use Rattle.sq_meaning.specs.Status as status
use Rattle.sq_meaning.specs.Syntax.{Expr, Select, SelectList, added, all_columns, bracketed, column, count_rows, expressions, literal, parameter, scaled, select, set_function, signed, user}
use Rattle.sq_meaning.specs.Tables.{kinds_by_name}
use Rattle.sq_meaning.specs.Target.{are_distinct}
use Rattle.sq_value.specs.declared.domain.Kind.{Kind}
use Rattle.sq_meaning.specs.Binding.{Judged}
use Rattle.sq_meaning.specs.Catalog.{tables_of}
use Rattle.sq_meaning.specs.Privilege.{Privilege}
use Rattle.sq_meaning.specs.Privileges.{table_in, tables_named, updatable_here}
use Rattle.sq_meaning.specs.Schema.{Elements}
use Rattle.sq_meaning.specs.Site.{Around, EnclosingQuery, Known, Site, expr_sites, kind_here, operand_of, outside, select_count, select_sites, summed_sites}
use Rattle.sq_meaning.specs.Words.{is_some_and}
use Rattle.sq_binding.specs.Changeable.{NumberedUpdatable, UnderTable, UserNames, columns_shown, if_distinct, is_of_references, leaf_column, leaf_columns, list_of, only_table, shown_of, updatable_bound}
use Rattle.sq_binding.specs.Changeable as changeable
use Rattle.sq_binding.specs.Condition.{clause_bound, select_bound}
use Rattle.sq_binding.specs.Cursor.{behind}
use Rattle.sq_binding.specs.Found.{Counts, Found, each, pure}
use Rattle.sq_binding.specs.From.{NamedTable, items_of}
use Rattle.sq_binding.specs.Numbered.{Numbered}
use Rattle.sq_binding.specs.NumberedCondition.{NumberedSelect, columns_of}
use Rattle.sq_binding.specs.Outcome.{and_then}
use Rattle.sq_binding.specs.QueryFindings.{QueryFindings}
use Rattle.sq_binding.specs.Scope.{FromItem}
use Rattle.sq_binding.specs.Select.{ShownColumn, Surroundings, columns_of_items, list_bound, most_columns, of_groups, shown_column}
use Rattle.sq_binding.specs.View.{NumberedView, view_bound, view_of}
use Rattle.sq_binding.specs.Whole.{at_first}
use Rattle.sq_binding.proofs.Faultless.Clean.{steps_of}
use Rattle.sq_binding.proofs.Faultless.CleanQuery.{pure_known}
use Rattle.sq_binding.proofs.Faultless.CleanSelect.{at_most_ok}
use Rattle.sq_binding.proofs.FaultsFound.CondFaults.{SelectSpellsNoNull, select_faults}
use Rattle.sq_binding.proofs.FaultsFound.Judged.{IfJudged}
use Rattle.sq_binding.proofs.Inductions.Pieces.{shown_holds}
use Rattle.sq_binding.proofs.Placing.PlacedCursor.{IfAny, over_placed}
use Rattle.sq_binding.proofs.FaultsFound.PredicateFaults.{IsShown, surrounded}
use Rattle.sq_binding.proofs.Inductions.QueryCases.{whole_holds}
use Rattle.sq_binding.proofs.Inductions.QueryCases as cases
use Rattle.sq_binding.proofs.Faultless.ResultNames.{names_in, select_named}
use Rattle.sq_binding.proofs.AtSites.Seen.{Sees, any_both}
use Rattle.sq_binding.proofs.AtSites.SeenConds.{select_seen}
use Rattle.sq_binding.proofs.Inductions.Turns.{anything, each_holds, it_is}
use Rattle.sq_binding.proofs.OneTable.UpdatableSame.{updatable_same}
use Rattle.sq_binding.specs.Catalog.{Catalog, may}
use Rattle.sq_binding.proofs.Schemas.KnownTables.{IsCatalogOf}
use Rattle.sq_binding.proofs.SchemaViews.ViewNames.{all_fit, columns_fit, entry_of, j, names, tables_fit}

-- ---- as many trees as columns, and not too many

abbrev Whole : Found NumberedSelect → Type 0
Whole x = (length (shown_of x.part) ≡ length (columns_of x.part)) × (nat_lt 64 (length (columns_of x.part)) ≡ false)

narrow_list : (a : Surroundings) (items : List FromItem) (list : SelectList Named) (counts : Counts) (x : Found (List ShownColumn)) → list_bound a items list counts ≡ Ok x → nat_lt 64 (length x.part) ≡ false
narrow_list a items all_columns counts x is =
    let limited = at_most_ok (nat_lt most_columns (length (columns_of_items items))) (pure (columns_of_items items)) counts x is in
    pure_known (λ shown. nat_lt 64 (length shown) ≡ false) (columns_of_items items) limited.0 counts x limited.1
narrow_list a items (expressions es) counts x is =
    let limited = at_most_ok (nat_lt most_columns (length es)) (each (shown_column a) es) counts x is in
    let as_many = it_is (λ x. length es ≡ length x.part) (each (shown_column a) es counts) x limited.1
    (each_holds (λ counts e y. ⊤) (λ counts es ys. length es ≡ length ys.part) (shown_column a) (λ counts e. shown_holds a counts (λ y. ⊤) e (λ z also. tt)) (λ counts. refl) (λ counts e es y ys p q. ap suc q) es counts) in
    ap (nat_lt 64) (sym as_many) ∙ limited.0

whole_query : (s : Select Named) (a : Surroundings) (counts : Counts) (x : Found NumberedSelect) → select_bound a s counts ≡ Ok x → Whole x
whole_query (select distinct list from filter by having) a counts x is =
    it_is Whole (select_bound a (select distinct list from filter by having) counts) x is
    (whole_holds (λ a counts c x. ⊤) a counts distinct list from filter by having (λ a counts. anything (clause_bound a filter counts)) (λ a counts. anything (clause_bound a having counts)) Whole
    (λ items kept places shown groups parts right. (
      length-map shown.part (λ (c : ShownColumn). c.tree) ∙ sym (length-map shown.part (λ (c : ShownColumn). c.column)),
      ap (nat_lt 64) (length-map shown.part (λ (c : ShownColumn). c.column)) ∙ narrow_list (of_groups (items_of items.part) places.part a) (items_of items.part) list (cases.at_first kept.subqueries) shown parts.list_is,
    )))

-- ---- what an updatable query shows

pub leaf_count : (u : UnderTable) (trees : List Numbered) (ns : List ℕ) → leaf_columns u trees ≡ Some ns → length ns ≡ length trees
leaf_count u [] [] e = refl
leaf_count u [] (n ∷ ns) e = cc
leaf_count u (t ∷ trees) ns e = by (leaf_column u t) (leaf_columns u trees) refl ns e (λ ns e. leaf_count u trees ns e)
  where
    by : (o : Option ℕ) (rest : Option (List ℕ)) → leaf_columns u trees ≡ rest → (ns : List ℕ) → option_and_then (λ n. option_map (λ ns. n ∷ ns) rest) o ≡ Some ns → ((ns : List ℕ) → leaf_columns u trees ≡ Some ns → length ns ≡ length trees) → length ns ≡ suc (length trees)
    by None rest is ns e h = cc
    by (Some n) None is ns e h = cc
    by (Some n) (Some ms) is ns e h = let same : n ∷ ms ≡ ns = cc in sym (ap length same) ∙ ap suc (h ms is)

pub shown_leaves : (u : UnderTable) (list : SelectList Named) (trees : List Numbered) (ns : List ℕ) → columns_shown u list trees ≡ Some ns → (leaf_columns u trees ≡ Some ns) × (are_distinct ns ≡ true) × (is_of_references list ≡ true)
shown_leaves u list trees ns e = by (is_of_references list) refl (leaf_columns u trees) refl e
  where
    distinct : (ms : List ℕ) (b : Bool) → are_distinct ms ≡ b → (if b then Some ms else None) ≡ Some ns → (Some ms ≡ Some ns) × (are_distinct ns ≡ true)
    distinct ms true is e = let same : ms ≡ ns = cc in (e, ap are_distinct (sym same) ∙ is)
    distinct ms false is e = cc

    by : (b : Bool) → is_of_references list ≡ b → (o : Option (List ℕ)) → leaf_columns u trees ≡ o → (if b then option_and_then if_distinct o else None) ≡ Some ns → (leaf_columns u trees ≡ Some ns) × (are_distinct ns ≡ true) × (is_of_references list ≡ true)
    by false references o is e = cc
    by true references None is e = cc
    by true references (Some ms) is e = let parts = distinct ms (are_distinct ms) refl e in (is ∙ parts.0, parts.1, references)

-- ---- SELECT with the grant option, on each table that is named

module _ (grants : TableName → Bool) where
  abbrev is_ungranted : Site → Bool
  is_ungranted s = is_some_and (λ t. not (grants t)) (table_in s)

  quiet_both : (xs ys : List Site) → list_any is_ungranted xs ≡ false → list_any is_ungranted ys ≡ false → list_any is_ungranted (xs ++ ys) ≡ false
  quiet_both xs ys h g = any_both is_ungranted xs ys ∙ (λ i. h i || g i)

  summed_quiet : (f : SetFunction) (k : status.Outcome Kind) → list_any is_ungranted (summed_sites f k) ≡ false
  summed_quiet Count k = refl
  summed_quiet Sum k = refl
  summed_quiet Avg k = refl
  summed_quiet Min k = refl
  summed_quiet Max k = refl

  expr_quiet : (k : Known) (e : Expr Named) (a : Around) → list_any is_ungranted (expr_sites k a e) ≡ false
  expr_quiet k (literal v) a = refl
  expr_quiet k (parameter p) a = refl
  expr_quiet k user a = refl
  expr_quiet k (column c) a = refl
  expr_quiet k count_rows a = refl
  expr_quiet k (set_function f distinct e) a = quiet_both (Site.function_called a (Some e) ∷ summed_sites f (kind_here k a e)) (expr_sites k (operand_of a) e) (summed_quiet f (kind_here k a e)) (expr_quiet k e (operand_of a))
  expr_quiet k (signed sign e) a = expr_quiet k e a
  expr_quiet k (added sign e f) a = quiet_both (Site.number_wanted (kind_here k a e) ∷ Site.number_wanted (kind_here k a f) ∷ expr_sites k a e) (expr_sites k a f) (expr_quiet k e a) (expr_quiet k f a)
  expr_quiet k (scaled sign e f) a =
      quiet_both (Site.number_wanted (kind_here k a e) ∷ Site.number_wanted (kind_here k a f) ∷ Site.product_scale sign (kind_here k a e) (kind_here k a f) ∷ expr_sites k a e) (expr_sites k a f) (expr_quiet k e a) (expr_quiet k f a)
  expr_quiet k (bracketed e) a = expr_quiet k e a

  pub all_granted : (sites : List Site) → not (list_any is_ungranted sites) ≡ list_all grants (filter_map table_in sites)
  all_granted [] = refl
  all_granted (s ∷ sites) = by (table_in s) (all_granted sites)
    where
      one : (t : TableName) (b : Bool) → grants t ≡ b → not (list_any is_ungranted sites) ≡ list_all grants (filter_map table_in sites) → not (not b || list_any is_ungranted sites) ≡ (b && list_all grants (filter_map table_in sites))
      one t true is h = h
      one t false is h = refl

      by : (o : Option TableName) → not (list_any is_ungranted sites) ≡ list_all grants (filter_map table_in sites) → not (is_some_and (λ t. not (grants t)) o || list_any is_ungranted sites) ≡ list_all grants (cons_option o (filter_map table_in sites))
      by None h = h
      by (Some t) h = one t (grants t) refl h

abbrev Anywhere : List EnclosingQuery → Bool → Type 0
Anywhere queries allowed = ⊤

abbrev lacking : QueryFindings → Bool
lacking f = f.lacks_grant_option

module _ (users : List Name) (before : Elements) (c : Catalog) (of : IsCatalogOf users before c) (user : Name) where
  abbrev N : UserNames
  N = names users before c of user

  abbrev J : Judged
  J = j users before c of user

  abbrev granted : TableName → Bool
  granted t = may c true user t Privilege.select

  grants_seen : Sees N.tables J (is_ungranted granted) lacking Anywhere
  grants_seen = record {
    both_seen = λ a b. refl;
    nothing_seen = refl;
    status_seen = refl;
    subquery_seen = λ f. refl;
    noted_seen = λ f can_fail. refl;
    table_seen = λ r t there. ap (λ (n : NamedTable). not n.may_grant) (sym (entry_of users before c of user r.table t there).named);
    column_seen = λ scopes queries over good c found is. refl;
    value_seen = λ scopes queries over allowed good e n x is. sym (expr_quiet granted J.known e _);
    lines_good = λ queries allowed query good. tt;
    groups_good = λ queries allowed query good. tt;
    subquery_silent = refl;
    whole_silent = λ from. refl;
    width_silent = λ n. refl;
    star_silent = refl;
    alike_silent = λ k l. refl;
    text_silent = λ k. refl;
    counts_silent = λ m n. refl;
  }

  -- ---- a view that is bound

  abbrev here : Surroundings
  here = surrounded N.tables J [] false

  module _ (q : Select Named) (null : SelectSpellsNoNull q) where
    pub record IsBoundView (b : NumberedView) : Type 0 where
      pub names_are : select_names (tables_of before) q ≡ Ok (names_in (columns_of b.query))
      pub kinds_are : select_kinds (kinds_by_name (tables_of before) []) [] q ≡ Ok (map (λ c. c.kind) (columns_of b.query))
      pub count : select_count (tables_of before) q ≡ length (columns_of b.query)
      pub trees : length (shown_of b.query) ≡ length (columns_of b.query)
      pub narrow : nat_lt 64 (length (columns_of b.query)) ≡ false
      pub over : option_map (λ u. u.table) b.updatable ≡ option_map (λ source. source.item.reference.table) (updatable_here (tables_of before) q)
      pub shows : IfAny N (changeable.outside N []) q b.query b.updatable
      pub grants : b.may_grant_select ≡ list_all granted (tables_named (tables_of before) q)
      -- the query specification that it is bound from
      pub found : Found NumberedSelect
      pub is_found : select_bound here q at_first ≡ Ok found
      pub query : found.part ≡ b.query

    bound_from : (x : Found NumberedSelect) → select_bound here q at_first ≡ Ok x → (y : Found (Option NumberedUpdatable)) → updatable_bound N here q x.part (behind x) ≡ Ok y → IsBoundView (view_of x y)
    bound_from x first y second =
        let shown = (subst (IfJudged J (select_sites J.known outside q) ⊥ (false ≡ true) (IsShown N.tables J [] [] tt (λ depth far. tt) false q)) first (select_faults N.tables J (tables_fit users before c of user) q null [] [] tt (λ depth. tt) false at_first)).part in
        let whole = whole_query q here at_first x first in
        record {
          names_are = select_named N.tables J (tables_fit users before c of user) [] false q at_first x first;
          kinds_are = shown.kinds;
          count = shown.count;
          trees = whole.0;
          narrow = whole.1;
          over = updatable_same N J (all_fit users before c of user) (columns_fit users before c of user) q null at_first x first (behind x) y second;
          shows = over_placed N (changeable.outside N []) q x.part (only_table N q x.part) refl x.subqueries y second;
          grants =
              ap not (select_seen N.tables J (tables_fit users before c of user) (is_ungranted granted) lacking Anywhere grants_seen q [] [] tt false tt at_first x first)
              ∙ all_granted granted (select_sites J.known outside q);
          found = x;
          is_found = first;
          query = refl;
        }

    pub view_known : (b : NumberedView) → view_bound N q ≡ Ok b → IsBoundView b
    view_known b is =
        let x = steps_of (select_bound here q at_first) (λ x. and_then (updatable_bound N here q x.part (behind x)) (λ y. Ok (view_of x y))) b is in
        let y = steps_of (updatable_bound N here q x.step.part (behind x.step)) (λ y. Ok (view_of x.step y)) b x.second in
        let made = y.second in
        let same : view_of x.step y.step ≡ b = cc in
        subst IsBoundView same (bound_from x.step x.first y.step y.first)
