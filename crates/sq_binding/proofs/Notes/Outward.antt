-- The columns that a search condition or query specification reads are no more queries further out than is found. The items of the query
-- around that hold them are no more than is found (ISO/IEC 9075:1992, 6.4, 6.5, 7.9, 7.11 and 8.12).
use Rattle.std.proofs.Common.{◌≡◌, ℕ, suc, ◌+◌, ◌-◌, ◌<◌, ◌≤◌, Bool, true, false, List, length, Option, Some, None, Ok, arith, refl, sym, ap, subst, ◌∙◌}
use Rattle.std.proofs.Math.Nat.{le-max_left, le-max_right}
use Rattle.std.proofs.lemmas.Bool.{ltb-false}
use Rattle.std.proofs.lemmas.Bool.Decides.{nat_tests}
use Rattle.std.proofs.lemmas.List.{length-map}
use Rattle.std.proofs.lemmas.Option.{slice_get_within}
use Rattle.std.specs.List.{AllByRecursion}
use Rattle.std.specs.Option.{option_and_then}
use Rattle.std.specs.Prelude.{nat_eq, nat_lt, slice_get, slice_index_or, if◌then◌else◌}
use Rattle.sq_tree.specs.declared.names.ColumnReference.{ColumnReference}
use Rattle.sq_meaning.proofs.AnswerLaws.{all_weaker}
use Rattle.sq_meaning.specs.Environment.{Place, TableReference}
use Rattle.sq_meaning.specs.Spelled.{Named}
use Rattle.sq_meaning.specs.Syntax.{Expr}
use Rattle.sq_meaning.specs.Tables.{Declared}
use Rattle.sq_bound.proofs.ReadColumns.{clause_from, cond_from, expr_from, select_from}
use Rattle.sq_bound.specs.Columns.{ClauseReads, CondReads, ExprReads, ExprsRead, IsAmongItems, IsClosed, IsInside, IsWithin, SelectReads}
use Rattle.sq_bound.specs.Condition.{PlacedClause, PlacedCond, PlacedSelect}
use Rattle.sq_bound.specs.Expression.{PlacedExpr, missing}
use Rattle.sq_binding.specs.Condition.{as_subquery}
use Rattle.sq_binding.specs.Expression.{Bound, bound, product_operator, sum_operator}
use Rattle.sq_binding.specs.Findings.{Findings, both, none}
use Rattle.sq_binding.specs.Found.{Counts, Found}
use Rattle.sq_binding.specs.From.{NamedItem, NamedTables, from_bound, item_bound, items_of}
use Rattle.sq_binding.specs.Numbered.{tree_of}
use Rattle.sq_binding.specs.NumberedCondition.{NumberedSelect, with_number}
use Rattle.sq_binding.specs.QueryFindings.{most_items, of_subquery, values_of_subquery}
use Rattle.sq_binding.specs.Scope.{FromItem, ItemColumn, FoundColumn, Scope, column_meant, column_numbered}
use Rattle.sq_binding.proofs.Inductions.Cases.{Cases, it_holds}
use Rattle.sq_binding.proofs.Standing.Levels.{all_at}
use Rattle.sq_binding.proofs.Notes.Noted.{ReadsOwn, at_index, item_there, reads_both, reads_more}
use Rattle.sq_binding.proofs.Inductions.Pieces.{from_holds}
use Rattle.sq_binding.proofs.Placing.Placed.{found_at}
use Rattle.sq_binding.proofs.Inductions.Turns.{each_length, it_is}

-- ---- no FROM clause has more items than most

abbrev pub AreSmall : List Scope → Type 0
AreSmall scopes = AllByRecursion (λ scope. length scope.items ≤ most_items) scopes

item_within : (items : List FromItem) (n k : ℕ) (c : ItemColumn) (o : Option FromItem) → slice_get items n ≡ o → option_and_then (λ item. slice_get item.columns k) o ≡ Some c → n < length items
item_within items n k c None is e = cc
item_within items n k c (Some item) is e = slice_get_within items n item is

-- the item of a column that a reference means is one of them
pub small_item : (scopes : List Scope) (c : ColumnReference) (found : FoundColumn) → column_meant c scopes ≡ Ok found → AreSmall scopes → found.item < most_items
small_item scopes c found is small =
    let at = found_at c scopes found is in
    let there : column_numbered at.scope (found.item, at.number) ≡ Some found.column = sym (ap (option_and_then (λ scope. column_numbered scope (found.item, at.number))) at.here) ∙ at.there in
    let within = item_within at.scope.items found.item at.number found.column (slice_get at.scope.items found.item) refl there in
    let few = all_at (λ scope. length scope.items ≤ most_items) scopes found.depth at.scope small at.here in
    omega (arith, within, few)

-- there is one item for each reference
pub from_length : (names : NamedTables) (from : List TableReference) (counts : Counts) (x : Found (List NamedItem)) → from_bound names from counts ≡ Ok x → length x.part ≡ length from
from_length names from counts x is =
    it_is (λ x. length x.part ≡ length from) (from_bound names from counts) x is (from_holds names counts (λ x. length x.part ≡ length from) from (λ x so few. each_length (item_bound names) from counts x so))

pub from_small : (names : NamedTables) (from : List TableReference) (counts : Counts) (x : Found (List NamedItem)) → from_bound names from counts ≡ Ok x → length (items_of x.part) ≤ most_items
from_small names from counts x is =
    it_is (λ x. length (items_of x.part) ≤ most_items) (from_bound names from counts) x is
    (from_holds names counts (λ x. length (items_of x.part) ≤ most_items) from
    (λ x so few.
    let as_many : length x.part ≡ length from = each_length (item_bound names) from counts x so in
    let bound = ltb-false most_items (length from) few in
    let same = length-map x.part (λ (i : NamedItem). i.item) in
    omega (arith, as_many, bound, same)))

-- ---- columns further out

-- where a tree stands n queries deep in the query around
abbrev pub IsOutward : Findings → ℕ → Place → Type 0
IsOutward f n p = IsWithin f.reach n p × IsAmongItems f.outer_items n p × (n ≤ p.depth → p.item < most_items)

pub record NoFurther (f g : Findings) : Type 0 where
  pub reach : f.reach ≤ g.reach
  pub items : f.outer_items ≤ g.outer_items

pub first_further : (f g : Findings) → NoFurther f (both f g)
first_further f g = record { reach = le-max_left f.reach g.reach; items = le-max_left f.outer_items g.outer_items }

pub second_further : (f g : Findings) → NoFurther g (both f g)
second_further f g = record { reach = le-max_right f.reach g.reach; items = le-max_right f.outer_items g.outer_items }

pub then_further : (f g h : Findings) → NoFurther f g → NoFurther g h → NoFurther f h
then_further f g h a b = record { reach = omega (arith, a.reach, b.reach); items = omega (arith, a.items, b.items) }

module _ (f g : Findings) (le : NoFurther f g) where
  pub further : (n m : ℕ) (p : Place) → n ≡ m → IsOutward f n p → IsOutward g m p
  further n m p is h = subst (λ k. IsOutward g k p) is (omega (arith, le.reach, h.0), (λ near. let k = h.1 near in omega (arith, le.items, k)), h.2)

  pub expr_further : (e : PlacedExpr) → ExprReads (IsOutward f) 1 e → ExprReads (IsOutward g) 1 e
  expr_further = expr_from (IsOutward f) (IsOutward g) (λ k m. k ≡ m) (λ k m is. ap suc is) further 1 1 refl

  pub exprs_further : (es : List PlacedExpr) → ExprsRead (IsOutward f) 1 es → ExprsRead (IsOutward g) 1 es
  exprs_further es h = all_weaker (ExprReads (IsOutward f) 1) (ExprReads (IsOutward g) 1) expr_further es h

  pub cond_further : (c : PlacedCond) → CondReads (IsOutward f) 1 c → CondReads (IsOutward g) 1 c
  cond_further = cond_from (IsOutward f) (IsOutward g) (λ k m. k ≡ m) (λ k m is. ap suc is) further 1 1 refl

  pub clause_further : (c : PlacedClause) → ClauseReads (IsOutward f) 1 c → ClauseReads (IsOutward g) 1 c
  clause_further = clause_from (IsOutward f) (IsOutward g) (λ k m. k ≡ m) (λ k m is. ap suc is) further 1 1 refl

  pub select_further : (n : ℕ) (q : PlacedSelect) → SelectReads (IsOutward f) n q → SelectReads (IsOutward g) n q
  select_further n = select_from (IsOutward f) (IsOutward g) (λ k m. k ≡ m) (λ k m is. ap suc is) further n n refl

  pub places_further : (ps : List Place) → AllByRecursion (IsOutward f 1) ps → AllByRecursion (IsOutward g 1) ps
  places_further ps h = all_weaker (IsOutward f 1) (IsOutward g 1) (λ p. further 1 1 p refl) ps h

-- what reads columns of its own query alone
pub own_out : (f : Findings) (e : PlacedExpr) → ReadsOwn e → ExprReads (IsOutward f) 1 e
own_out f e h = reads_more (IsWithin 0) (IsOutward f) 1 (λ p near. (omega (arith, near), (λ is. absurd (omega (arith, near, is))), (λ far. absurd (omega (arith, near, far))))) e h

-- ---- subqueries

-- a subquery stands one query deeper than the query around it, which is one fewer further out
inward : (f : Findings) (n m : ℕ) (p : Place) → m ≡ suc n → IsOutward f n p → IsOutward (values_of_subquery f) m p
inward f n m p is h =
    subst (λ k. IsOutward (values_of_subquery f) k p) (sym is)
    (let fewer : f.reach ≤ suc (f.reach - 1) = omega arith in (
      omega (arith, h.0, fewer),
      (λ near.
          let beyond : nat_lt 1 f.reach ≡ true = grind (arith, nat_tests, h.0, near) in
          let small : p.item < most_items = h.2 (omega (arith, near)) in
          subst (λ t. p.item < (if t then most_items else 0)) (sym beyond) small),
      (λ far. h.2 (omega (arith, far))),
    ))

pub subquery_out : (f : Findings) (q : PlacedSelect) → SelectReads (IsOutward f) 0 q → SelectReads (IsOutward (values_of_subquery f)) 1 q
subquery_out f = select_from (IsOutward f) (IsOutward (values_of_subquery f)) (λ k m. m ≡ suc k) (λ k m is. ap suc is) (inward f) 0 1 refl

-- one that reads no column further out is closed
inside_only : (f : Findings) → f.reach ≡ 0 → (n m : ℕ) (p : Place) → n ≡ m → IsOutward f n p → IsInside m p
inside_only f here n m p is h = subst (λ k. p.depth < k) is (omega (arith, here, h.0))

pub closed_out : (f : Findings) → f.reach ≡ 0 → (q : PlacedSelect) → SelectReads (IsOutward f) 0 q → IsClosed q
closed_out f here = select_from (IsOutward f) IsInside (λ k m. k ≡ m) (λ k m is. ap suc is) (inside_only f here) 0 0 refl

-- the items of the query around it that a query specification reads are among those that are found
pub items_out : (f : Findings) (q : PlacedSelect) → SelectReads (IsOutward f) 0 q → SelectReads (IsAmongItems f.outer_items) 0 q
items_out f = select_from (IsOutward f) (IsAmongItems f.outer_items) (λ k m. k ≡ m) (λ k m is. ap suc is) (λ n m p is h. subst (λ k. IsAmongItems f.outer_items k p) is h.1) 0 0 refl

pub findings_same : (q : Found NumberedSelect) → (as_subquery q).findings ≡ of_subquery q.findings
findings_same q = if_closed (nat_eq q.findings.values.reach 0)
  where
    if_closed : (closed : Bool)
        → (if closed then record q { part = with_number (Some q.subqueries) q.part; findings = of_subquery q.findings; subqueries = q.subqueries + 1 } else record q { findings = of_subquery q.findings }).findings ≡ of_subquery q.findings
    if_closed true = refl
    if_closed false = refl

-- ---- value expressions

module _ (scopes : List Scope) (parameters : List Declared) where
  abbrev ExprOutward : Bound → Type 0
  ExprOutward b = AreSmall scopes → (functions : List PlacedExpr) → AllByRecursion ReadsOwn functions → ExprReads (IsOutward b.findings) 1 (tree_of functions b.tree)

  cases : Cases scopes parameters (λ allowed n e b. ExprOutward b)
  cases = record {
    of_literal = λ allowed n v k is small functions own. tt;
    of_parameter = λ allowed n p at i is so small functions own. tt;
    of_user = λ allowed n small functions own. tt;
    of_column = λ allowed n c found is small functions own. (omega arith, item_there 1 found.depth found.item, (λ far. small_item scopes c found is small));
    of_count = λ n small functions own. own_out none (slice_index_or functions n missing) (at_index ReadsOwn functions n own tt);
    of_function = λ n f distinct e x k h alone is small functions own. own_out none (slice_index_or functions n missing) (at_index ReadsOwn functions n own tt);
    of_signed = λ allowed n sign e x h number small functions own. h small functions own;
    of_added = λ allowed n sign a b x y k h g is small functions own.
        reads_both (IsOutward (both x.findings y.findings)) 1 (sum_operator sign) (tree_of functions x.tree) (tree_of functions y.tree)
        (expr_further x.findings (both x.findings y.findings) (first_further x.findings y.findings) (tree_of functions x.tree) (h small functions own))
        (expr_further y.findings (both x.findings y.findings) (second_further x.findings y.findings) (tree_of functions y.tree) (g small functions own));
    of_scaled = λ allowed n sign a b x y k h g is small functions own.
        reads_both (IsOutward (both x.findings y.findings)) 1 (product_operator sign) (tree_of functions x.tree) (tree_of functions y.tree)
        (expr_further x.findings (both x.findings y.findings) (first_further x.findings y.findings) (tree_of functions x.tree) (h small functions own))
        (expr_further y.findings (both x.findings y.findings) (second_further x.findings y.findings) (tree_of functions y.tree) (g small functions own));
    of_bracketed = λ allowed n e x h. h;
  }

  pub expr_outward : (allowed inside : Bool) (e : Expr Named) (n : ℕ) (b : Bound) → bound scopes parameters allowed inside e n ≡ Ok b → ExprOutward b
  expr_outward = it_holds scopes parameters (λ allowed n e b. ExprOutward b) cases
