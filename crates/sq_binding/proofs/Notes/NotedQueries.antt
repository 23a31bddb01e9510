-- The findings in search conditions and query specifications are true. They never end with a status unless that is found. They read no
-- items of FROM further to the right, and no columns further out, than is found (ISO/IEC 9075:1992, 6.4, 7.3 to 7.9, 7.11 and clause 8).
use Rattle.std.proofs.Common.{◌≡◌, ℕ, Bool, true, false, not, ◌&&◌, ◌||◌, List, [], ◌∷◌, ◌++◌, map, Option, Ok, arith, refl, sym, ap, subst, ◌∙◌}
use Rattle.std.specs.List.{AllByRecursion, enumerate_from, list_all}
use Rattle.std.specs.Prelude.{⊤}
use Rattle.std.proofs.lemmas.Bool.{and_from, or_parts}
use Rattle.sq_tree.specs.declared.cond.Comparison.{Comparison}
use Rattle.sq_tree.specs.declared.cond.Quantifier.{Quantifier}
use Rattle.sq_tree.specs.declared.cond.Quantifier.TheVariants as quantifier
use Rattle.sq_tree.specs.declared.names.ColumnReference.{ColumnReference}
use Rattle.sq_meaning.proofs.AnswerLaws.{all_appended, all_flat_mapped, all_mapped, all_true}
use Rattle.sq_meaning.specs.Environment.{Place, TableReference}
use Rattle.sq_meaning.specs.Spelled.{Named}
use Rattle.sq_meaning.specs.Sure.{is_sure, is_sure_expr, is_sure_select}
use Rattle.sq_meaning.specs.Syntax.{SelectList, all_columns, expressions, Cond, Conds, Clause, Select, select}
use Rattle.sq_bound.proofs.ReadColumns.{compared_reads}
use Rattle.sq_bound.specs.Columns.{ExprReads, SelectReads}
use Rattle.sq_bound.specs.Condition.{compared_with}
use Rattle.sq_bound.specs.Expression.{PlacedExpr}
use Rattle.sq_bound.specs.Noted.{AreSure, may_fail}
use Rattle.sq_bound.specs.declared.condition.Compared.TheVariants.{Scalar}
use Rattle.sq_bound.specs.declared.condition.TablePlace.{TablePlace}
use Rattle.sq_binding.specs.Condition.{as_subquery, compared_as, cond_bound, noted, select_bound}
use Rattle.sq_binding.specs.Findings.{Findings}
use Rattle.sq_binding.specs.Findings as findings
use Rattle.sq_binding.specs.Found.{Counts, Found, after, each, joined}
use Rattle.sq_binding.specs.From.{NamedItem, NamedTables, from_bound, item_bound, items_of, tables_of}
use Rattle.sq_binding.specs.Numbered.{Numbered, tree_of}
use Rattle.sq_binding.specs.NumberedCondition.{NumberedClause, NumberedCond, NumberedConds, NumberedSelect, clause_of, cond_of, select_of, trees_of}
use Rattle.sq_binding.specs.QueryFindings.{a_status}
use Rattle.sq_binding.specs.Scope.{FromItem, ItemColumn}
use Rattle.sq_binding.specs.Select.{Parts, ShownColumn, Surroundings, Typed, column_of_item, columns_of_item, columns_of_items, grouping_column, list_bound, of_groups, of_lines, select_can_fail, select_found}
use Rattle.sq_binding.proofs.Notes.Noted.{ReadsOwn, item_there}
use Rattle.sq_binding.proofs.Notes.NotedParts.{PartNoted, SelectNoted, Trees, agreeing_noted, bare_noted, clause_trees, cond_trees, conds_trees, each_tree, escape_noted, escape_trees, numbered_trees, one_noted, scalar_trees, select_trees, shown_noted, status_noted, subquery_noted, two_noted, typed_trees, value_noted}
use Rattle.sq_binding.proofs.Notes.Outward.{AreSmall, IsOutward, NoFurther, clause_further, exprs_further, first_further, from_small, places_further, second_further, small_item, then_further}
use Rattle.sq_binding.proofs.Inductions.Pieces.{from_holds, grouping_holds, item_holds, list_holds, star_holds}
use Rattle.sq_binding.proofs.Placing.PlacedParts.{groups_same, parts_of, shown_trees}
use Rattle.sq_binding.proofs.Inductions.QueryCases.{AreParts, QueryCases, at_first, cond_is, select_is, whole_of}
use Rattle.sq_binding.proofs.Inductions.Turns.{each_holds, found_too, it_is, put}

-- ---- lists of trees

all_list : {A : Type 0} (test : A → Bool) (xs : List A) → AllByRecursion (λ x. test x ≡ true) xs → list_all test xs ≡ true
all_list test [] h = refl
all_list test (x ∷ xs) h = λ i. h.0 i && all_list test xs h.1 i

list_map : {A B : Type 0} (test : B → Bool) (f : A → B) (xs : List A) → list_all test (map f xs) ≡ list_all (λ x. test (f x)) xs
list_map test f [] = refl
list_map test f (x ∷ xs) = ap (λ t. test (f x) && t) (list_map test f xs)

-- the trees of a select list
shown_all : (R : PlacedExpr → Type 0) (functions : List PlacedExpr) (shown : List ShownColumn) → AllByRecursion (λ c. R (tree_of functions c.tree)) shown → AllByRecursion R (shown_trees functions shown)
shown_all R functions shown h =
    all_mapped (λ t. R (tree_of functions t)) R (tree_of functions) (λ t r. r) (map (λ c. c.tree) shown)
    (all_mapped (λ (c : ShownColumn). R (tree_of functions c.tree)) (λ t. R (tree_of functions t)) (λ c. c.tree) (λ c r. r) shown h)

star_all : (R : ShownColumn → Type 0) → ((item : ℕ) (c : ItemColumn) → R (column_of_item item c)) → (items : List FromItem) → AllByRecursion R (columns_of_items items)
star_all R h items =
    all_flat_mapped (λ (i : ℕ × FromItem). ⊤) R columns_of_item (λ i u. all_mapped (λ (c : ItemColumn). ⊤) R (column_of_item i.0) (λ c v. h i.0 c) i.1.columns (all_true i.1.columns)) (enumerate_from 0 items) (all_true (enumerate_from 0 items))

-- ---- select lists

-- What is found in a select list; `*` reads columns of its own query.
pub record ListNoted (a : Surroundings) (x : Found (List ShownColumn)) : Type 0 where
  pub own : AllByRecursion ReadsOwn x.calls
  pub out : AreSmall a.scopes → (functions : List PlacedExpr) → AllByRecursion ReadsOwn functions → AllByRecursion (ExprReads (IsOutward x.findings.values) 1) (shown_trees functions x.part)
  pub sure : x.findings.values.can_fail ≡ false → (functions : List PlacedExpr) → AreSure functions → list_all is_sure_expr (shown_trees functions x.part) ≡ true
  pub sure_calls : x.calls_can_fail ≡ false → AreSure x.calls

own_column : (item number : ℕ) → IsOutward findings.none 1 (record { depth = 0; item = item; column = number })
own_column item number = (omega arith, (λ e. absurd (omega (arith, e))), (λ far. absurd (omega (arith, far))))

list_noted : (a : Surroundings) (items : List FromItem) (list : SelectList Named) (counts : Counts) (x : Found (List ShownColumn)) → list_bound a items list counts ≡ Ok x → ListNoted a x
list_noted a items all_columns counts x is =
    it_is (ListNoted a) (list_bound a items all_columns counts) x is
    (star_holds a counts (ListNoted a) items
    (record {
      own = tt;
      out = λ small functions own. shown_all (ExprReads (IsOutward findings.none) 1) functions (columns_of_items items)
          (star_all (λ c. ExprReads (IsOutward findings.none) 1 (tree_of functions c.tree)) (λ item c. own_column item c.position) items);
      sure = λ none functions all. all_list is_sure_expr (shown_trees functions (columns_of_items items))
          (shown_all (λ e. is_sure_expr e ≡ true) functions (columns_of_items items) (star_all (λ c. is_sure_expr (tree_of functions c.tree) ≡ true) (λ item c. refl) items));
      sure_calls = λ none. tt;
    }))
list_noted a items (expressions es) counts x is =
    it_is (ListNoted a) (list_bound a items (expressions es) counts) x is
    (list_holds a counts (ListNoted a) items es
    (λ y so.
    let h = shown_noted a es counts y so in
    record {
      own = h.own;
      out = λ small functions own. shown_all (ExprReads (IsOutward y.findings.values) 1) functions y.part (h.out small functions own);
      sure = λ none functions all. list_map is_sure_expr (tree_of functions) (map (λ c. c.tree) y.part) ∙ list_map (λ t. is_sure_expr (tree_of functions t)) (λ (c : ShownColumn). c.tree) y.part ∙ h.sure none functions all;
      sure_calls = h.sure_calls;
    }))

-- ---- FROM and GROUP BY

abbrev are_sure_tables : List TablePlace → Bool
are_sure_tables tables = list_all (λ t. not (may_fail t)) tables

from_sure : (names : NamedTables) (from : List TableReference) (counts : Counts) (x : Found (List NamedItem)) → from_bound names from counts ≡ Ok x → x.findings.values.can_fail ≡ false → are_sure_tables (tables_of x.part) ≡ true
from_sure names from counts x is =
    it_is Q (from_bound names from counts) x is
    (from_holds names counts Q from
    (λ x so few. it_is Q (each (item_bound names) from counts) x so
    (each_holds (λ counts r y. y.findings.values.can_fail ≡ false → not (may_fail y.part.table) ≡ true) (λ counts from ys. Q ys) (item_bound names)
    (λ counts r. item_holds names counts (λ y. y.findings.values.can_fail ≡ false → not (may_fail y.part.table) ≡ true) r (λ t there none. ap not none)) (λ counts none. refl)
    (λ counts r from y ys p q none. let parts = or_parts y.findings.values.can_fail ys.findings.values.can_fail none in (λ i. p parts.0 i && q parts.1 i)) from counts)))
  where
    Q : Found (List NamedItem) → Type 0
    Q x = x.findings.values.can_fail ≡ false → are_sure_tables (tables_of x.part) ≡ true

grouping_out : (a : Surroundings) (by : List ColumnReference) (counts : Counts) (x : Found (List Place)) → each (grouping_column a) by counts ≡ Ok x → AreSmall a.scopes → AllByRecursion (IsOutward x.findings.values 1) x.part
grouping_out a by counts x is small =
    it_is (λ x. AllByRecursion (IsOutward x.findings.values 1) x.part) (each (grouping_column a) by counts) x is
    (each_holds (λ counts c y. IsOutward y.findings.values 1 y.part) (λ counts by ys. AllByRecursion (IsOutward ys.findings.values 1) ys.part) (grouping_column a)
    (λ counts c. grouping_holds a counts (λ y. IsOutward y.findings.values 1 y.part) c (λ found so grouped. (omega arith, item_there 1 found.depth found.item, (λ far. small_item a.scopes c found so small))))
    (λ counts. tt)
    (λ counts c by y ys p q.
    let f = y.findings.values in
    let g = ys.findings.values in
    ((places_further f (findings.both f g) (first_further f g) (y.part ∷ []) (p, tt)).0, places_further g (findings.both f g) (second_further f g) ys.part q))
    by counts)

-- ---- a query specification by its parts

abbrev ClauseNoted : Surroundings → Counts → Clause Named → Found NumberedClause → Type 0
ClauseNoted a counts c x = PartNoted clause_trees a x

module _ (a : Surroundings) (counts : Counts) (distinct : Bool) (list : SelectList Named) (from : List TableReference) (filter : Clause Named) (by : List ColumnReference) (having : Clause Named)
    (items : Found (List NamedItem)) (kept : Found NumberedClause) (places : Found (List Place)) (shown : Found (List ShownColumn)) (groups : Found NumberedClause)
    (parts : AreParts ClauseNoted a counts list from filter by having items kept places shown groups) where
  abbrev whole : Found Parts
  whole = whole_of distinct items kept places shown groups

  abbrev lines : Surroundings
  lines = of_lines (items_of items.part) a

  abbrev grouped_in : Surroundings
  grouped_in = of_groups (items_of items.part) places.part a

  abbrev calls : List PlacedExpr
  calls = shown.calls ++ groups.calls

  abbrev from_found : Findings
  from_found = items.findings.values

  abbrev where_found : Findings
  where_found = kept.findings.values

  abbrev by_found : Findings
  by_found = places.findings.values

  abbrev list_found : Findings
  list_found = shown.findings.values

  abbrev having_found : Findings
  having_found = groups.findings.values

  -- in the select list and HAVING; with GROUP BY; and with WHERE
  abbrev group_found : Findings
  group_found = findings.both list_found having_found

  abbrev later_found : Findings
  later_found = findings.both by_found group_found

  abbrev rest_found : Findings
  rest_found = findings.both where_found later_found

  abbrev all_found : Findings
  all_found = whole.findings.values

  list_is : ListNoted grouped_in shown
  list_is = list_noted grouped_in (items_of items.part) list (at_first kept.subqueries) shown parts.list_is

  tree_is : select_of (select_found whole).part ≡ parts_of calls whole.part
  tree_is = groups_same distinct shown.part (tables_of items.part) kept.part places.part groups.part calls (map (λ c. c.column) shown.part) (select_can_fail whole)

  after_items : NoFurther rest_found all_found
  after_items = second_further from_found rest_found

  after_kept : NoFurther later_found all_found
  after_kept = then_further later_found rest_found all_found (second_further where_found later_found) after_items

  after_places : NoFurther group_found all_found
  after_places = then_further group_found later_found all_found (second_further by_found group_found) after_kept

  whole_out : AreSmall a.scopes → SelectReads (IsOutward all_found) 0 (parts_of calls whole.part)
  whole_out small =
      let few = from_small a.names from (at_first counts.subqueries) items parts.from_is in
      let own = all_appended ReadsOwn shown.calls groups.calls list_is.own parts.having_is.1.own in (
        exprs_further list_found all_found (then_further list_found group_found all_found (first_further list_found having_found) after_places) (shown_trees calls shown.part) (list_is.out (few, small) calls own),
        clause_further where_found all_found (then_further where_found rest_found all_found (first_further where_found later_found) after_items) (clause_of [] kept.part)
            (parts.filter_is.1.out (few, small) [] tt),
        places_further by_found all_found (then_further by_found later_found all_found (first_further by_found group_found) after_kept) places.part
            (grouping_out lines by (at_first kept.subqueries) places parts.by_is (few, small)),
        clause_further having_found all_found (then_further having_found group_found all_found (second_further list_found having_found) after_places) (clause_of calls groups.part) (parts.having_is.1.out (few, small) calls own),
      )

  whole_sure : select_can_fail whole ≡ false → is_sure_select may_fail (parts_of calls whole.part) ≡ true
  whole_sure none =
      let both = or_parts all_found.can_fail whole.calls_can_fail none in
      let one = or_parts from_found.can_fail (where_found.can_fail || (by_found.can_fail || (list_found.can_fail || having_found.can_fail))) both.0 in
      let two = or_parts where_found.can_fail (by_found.can_fail || (list_found.can_fail || having_found.can_fail)) one.1 in
      let three = or_parts by_found.can_fail (list_found.can_fail || having_found.can_fail) two.1 in
      let four = or_parts list_found.can_fail having_found.can_fail three.1 in
      let of_kept = or_parts kept.calls_can_fail (shown.calls_can_fail || groups.calls_can_fail) both.1 in
      let of_calls = or_parts shown.calls_can_fail groups.calls_can_fail of_kept.1 in
      let sure = all_appended (λ f. is_sure_expr f ≡ true) shown.calls groups.calls (list_is.sure_calls of_calls.0) (parts.having_is.1.sure_calls of_calls.1) in
      let tables = from_sure a.names from (at_first counts.subqueries) items parts.from_is one.0 in
      let shows = list_is.sure four.0 calls sure in
      let keeps = parts.filter_is.1.sure two.0 [] tt in
      let leaves = parts.having_is.1.sure four.1 calls sure in
      (λ j. tables j && shows j && keeps j && leaves j)

  pub select_noted_by : SelectNoted a counts (select distinct list from filter by having) (select_found whole)
  select_noted_by = record {
    none = refl;
    is_noted = refl;
    out = λ small. subst (SelectReads (IsOutward all_found) 0) (sym tree_is) (whole_out small);
    sure = λ none. ap (is_sure_select may_fail) tree_is ∙ whole_sure none;
  }

-- ---- two values of a predicate

pair_wider : (P Q : ℕ → Place → Type 0) → ((n : ℕ) (p : Place) → P n p → Q n p) → (n : ℕ) (functions : List PlacedExpr) (x : Typed × Typed)
    → ExprReads P n (tree_of functions x.0.tree) × ExprReads P n (tree_of functions x.1.tree) → ExprReads Q n (tree_of functions x.0.tree) × ExprReads Q n (tree_of functions x.1.tree)
pair_wider P Q f n functions x h = (typed_trees.wider P Q f n functions x.0 h.0, typed_trees.wider P Q f n functions x.1 h.1)

abbrev pair_trees : Trees (Typed × Typed)
pair_trees = record {
  Reads = λ P n functions x. ExprReads P n (tree_of functions x.0.tree) × ExprReads P n (tree_of functions x.1.tree);
  wider = pair_wider;
  is_sure = λ functions x. is_sure_expr (tree_of functions x.0.tree) && is_sure_expr (tree_of functions x.1.tree);
}

like_wider : (P Q : ℕ → Place → Type 0) → ((n : ℕ) (p : Place) → P n p → Q n p) → (n : ℕ) (functions : List PlacedExpr) (x : Typed × Option Numbered)
    → ExprReads P n (tree_of functions x.0.tree) × escape_trees.Reads P n functions x.1 → ExprReads Q n (tree_of functions x.0.tree) × escape_trees.Reads Q n functions x.1
like_wider P Q f n functions x h = (typed_trees.wider P Q f n functions x.0 h.0, escape_trees.wider P Q f n functions x.1 h.1)

abbrev like_trees : Trees (Typed × Option Numbered)
like_trees = record {
  Reads = λ P n functions x. ExprReads P n (tree_of functions x.0.tree) × escape_trees.Reads P n functions x.1;
  wider = like_wider;
  is_sure = λ functions x. is_sure_expr (tree_of functions x.0.tree) && escape_trees.is_sure functions x.1;
}

and_turn : (a b c : Bool) → a ≡ true → (b && c) ≡ true → (a && b && c) ≡ true
and_turn a b c h g = ap (λ t. t && b && c) h ∙ g

between_sure : (functions : List PlacedExpr) (x y z : Typed) → is_sure_expr (tree_of functions x.tree) ≡ true → (is_sure_expr (tree_of functions y.tree) && is_sure_expr (tree_of functions z.tree)) ≡ true
    → is_sure may_fail (cond_of functions (NumberedCond.between x.tree y.tree z.tree)) ≡ true
between_sure functions x y z h g = and_turn (is_sure_expr (tree_of functions x.tree)) (is_sure_expr (tree_of functions y.tree)) (is_sure_expr (tree_of functions z.tree)) h g

like_sure : (functions : List PlacedExpr) (x y : Typed) (z : Option Numbered) → is_sure_expr (tree_of functions x.tree) ≡ true → (is_sure_expr (tree_of functions y.tree) && escape_trees.is_sure functions z) ≡ true
    → is_sure may_fail (cond_of functions (NumberedCond.like x.tree y.tree z)) ≡ true
like_sure functions x y z h g = and_turn (is_sure_expr (tree_of functions x.tree)) (is_sure_expr (tree_of functions y.tree)) (escape_trees.is_sure functions z) h g

-- ---- all of them

abbrev CondNoted : Surroundings → Counts → Cond Named → Found NumberedCond → Type 0
CondNoted a counts c x = PartNoted cond_trees a x

abbrev CondsNoted : Surroundings → Counts → Conds Named → Found NumberedConds → Type 0
CondsNoted a counts cs x = PartNoted conds_trees a x

quantified_sure : (functions : List PlacedExpr) (op : Comparison) (k : Quantifier) (x : Numbered) (q : NumberedSelect) → is_sure_expr (tree_of functions x) ≡ true → is_sure_select may_fail (select_of q) ≡ true
    → is_sure may_fail (compared_with (compared_as k) op (tree_of functions x) (select_of q)) ≡ true
quantified_sure functions op quantifier.All x q h g = λ i. h i && g i
quantified_sure functions op quantifier.Any x q h g = λ i. h i && g i
quantified_sure functions op quantifier.Some x q h g = λ i. h i && g i

trees_read : (P : ℕ → Place → Type 0) (n : ℕ) (functions : List PlacedExpr) (ys : List Numbered) → AllByRecursion (λ y. ExprReads P n (tree_of functions y)) ys → AllByRecursion (ExprReads P n) (trees_of functions ys)
trees_read P n functions ys h = all_mapped (λ y. ExprReads P n (tree_of functions y)) (ExprReads P n) (tree_of functions) (λ y r. r) ys h

cases : QueryCases CondNoted CondsNoted ClauseNoted SelectNoted
cases = record {
  of_compare = λ a counts op e f x y is so alike.
      two_noted typed_trees typed_trees cond_trees a x y (NumberedCond.compare op x.part.tree y.part.tree) (λ P n functions h g. (h, g)) (λ functions h g i. h i && g i) (value_noted a counts e x is) (value_noted a (after counts x) f y so);
  of_scalar = λ a counts op e s x q is h one.
      two_noted typed_trees scalar_trees cond_trees a x (found_too a_status (as_subquery q)) (NumberedCond.compare_query Scalar op x.part.tree (as_subquery q).part) (λ P n functions r t. (r, t)) (λ functions r no. cc)
      (value_noted a counts e x is) (status_noted select_trees scalar_trees a (as_subquery q) (λ P n functions r. r) (subquery_noted a (after counts x) s q h.1));
  of_quantified = λ a counts op k e s x q is h one.
      two_noted typed_trees select_trees cond_trees a x (as_subquery q) (NumberedCond.compare_query (compared_as k) op x.part.tree (as_subquery q).part)
      (λ P n functions r t. compared_reads P n (compared_as k) op (tree_of functions x.part.tree) (select_of (as_subquery q).part) r t)
      (λ functions r t. quantified_sure functions op k x.part.tree (as_subquery q).part r t) (value_noted a counts e x is) (subquery_noted a (after counts x) s q h.1);
  of_between = λ a counts e low high x y z is so also alike same.
      two_noted typed_trees pair_trees cond_trees a x (joined y (put (y.part, z.part) z)) (NumberedCond.between x.part.tree y.part.tree z.part.tree) (λ P n functions h g. (h, g.0, g.1)) (λ functions h g. between_sure functions x.part y.part z.part h g)
      (value_noted a counts e x is)
      (two_noted typed_trees typed_trees pair_trees a y z (y.part, z.part) (λ P n functions h g. (h, g)) (λ functions h g i. h i && g i) (value_noted a (after counts x) low y so) (value_noted a (after (after counts x) y) high z also));
  of_among = λ a counts e s x q is h one.
      two_noted typed_trees select_trees cond_trees a x (as_subquery q) (NumberedCond.in_query x.part.tree (as_subquery q).part) (λ P n functions r t. (r, t)) (λ functions r t i. r i && t i)
      (value_noted a counts e x is) (subquery_noted a (after counts x) s q h.1);
  of_list = λ a counts e es x ys is so.
      two_noted typed_trees (each_tree numbered_trees) cond_trees a x ys (NumberedCond.in_list x.part.tree ys.part) (λ P n functions h g. (h, trees_read P n functions ys.part g))
      (λ functions h g. and_from (is_sure_expr (tree_of functions x.part.tree)) (list_all is_sure_expr (trees_of functions ys.part)) h (list_map is_sure_expr (tree_of functions) ys.part ∙ g))
      (value_noted a counts e x is) (agreeing_noted a x.part.kind es (after counts x) ys so);
  of_like = λ a counts e pattern escape x y z is so one two also.
      two_noted typed_trees like_trees cond_trees a x (joined y (put (y.part, z.part) z)) (NumberedCond.like x.part.tree y.part.tree z.part) (λ P n functions h g. (h, g.0, g.1)) (λ functions h g. like_sure functions x.part y.part z.part h g)
      (value_noted a counts e x is)
      (two_noted typed_trees escape_trees like_trees a y z (y.part, z.part) (λ P n functions h g. (h, g)) (λ functions h g i. h i && g i) (value_noted a (after counts x) pattern y so)
      (escape_noted a escape (after (after counts x) y) z also));
  of_null = λ a counts e x is. one_noted typed_trees cond_trees a x (NumberedCond.is_null x.part.tree) (λ P n functions h. h) (λ functions h. h) (value_noted a counts e x is);
  of_exists = λ a counts s q h. one_noted select_trees cond_trees a (as_subquery q) (NumberedCond.exists (as_subquery q).part) (λ P n functions r. r) (λ functions r. r) (subquery_noted a counts s q h.1);
  of_negated = λ a counts c x h. one_noted cond_trees cond_trees a x (NumberedCond.negated x.part) (λ P n functions r. r) (λ functions r. r) h.1;
  of_conjunction = λ a counts cs xs h. one_noted conds_trees cond_trees a xs (NumberedCond.conjunction xs.part) (λ P n functions r. r) (λ functions r. r) h;
  of_disjunction = λ a counts cs xs h. one_noted conds_trees cond_trees a xs (NumberedCond.disjunction xs.part) (λ P n functions r. r) (λ functions r. r) h;
  of_none = λ a counts. bare_noted conds_trees a counts.subqueries NumberedConds.no_cond (λ P n functions. tt) (λ functions. refl);
  of_test = λ a counts c cs x xs h g.
      two_noted cond_trees conds_trees conds_trees a x xs (NumberedConds.a_cond (noted x).part xs.part) (λ P n functions r t. (r, t)) (λ functions r t i. r i && t i) h.1 g;
  of_term = λ a counts c cs x xs h g. two_noted cond_trees conds_trees conds_trees a x xs (NumberedConds.a_cond x.part xs.part) (λ P n functions r t. (r, t)) (λ functions r t i. r i && t i) h.1 g;
  of_absent = λ a counts. bare_noted clause_trees a counts.subqueries NumberedClause.absent (λ P n functions. tt) (λ functions. refl);
  of_present = λ a counts c x h. one_noted cond_trees clause_trees a x (NumberedClause.present x.part) (λ P n functions r. r) (λ functions r. r) h.1;
  of_select = λ a counts distinct list from filter by having items kept places shown groups parts right. select_noted_by a counts distinct list from filter by having items kept places shown groups parts;
}

-- what is found in a search condition is so
pub cond_noted : (c : Cond Named) (a : Surroundings) (counts : Counts) (x : Found NumberedCond) → cond_bound a c counts ≡ Ok x → PartNoted cond_trees a x
cond_noted = cond_is CondNoted CondsNoted ClauseNoted SelectNoted cases

-- what is found in a query specification is noted as it is
pub select_noted : (s : Select Named) (a : Surroundings) (counts : Counts) (x : Found NumberedSelect) → select_bound a s counts ≡ Ok x → SelectNoted a counts s x
select_noted = select_is CondNoted CondsNoted ClauseNoted SelectNoted cases
