-- The findings in parts of a query are true. A part never ends with a status unless that is found. It reads no items of FROM further to
-- the right, and no columns further out, than is found (ISO/IEC 9075:1992, 6.4, 6.5, 7.11 and clause 8).
use Rattle.std.proofs.Common.{◌≡◌, ℕ, suc, ◌+◌, ◌≤◌, Bool, true, false, ◌&&◌, ◌||◌, List, [], ◌∷◌, max, Option, Some, None, Ok, arith, refl, sym, ap, subst, ◌∙◌}
use Rattle.std.proofs.Math.Nat.{le-max_left, le-max_right}
use Rattle.std.specs.List.{AllByRecursion, list_all}
use Rattle.std.specs.Option.{option_map}
use Rattle.std.specs.Prelude.{nat_eq, if◌then◌else◌}
use Rattle.std.proofs.lemmas.Bool.{or_parts}
use Rattle.sq_value.specs.declared.domain.Kind.{Kind}
use Rattle.sq_meaning.proofs.AnswerLaws.{all_appended, all_weaker}
use Rattle.sq_meaning.specs.Environment.{Place}
use Rattle.sq_meaning.specs.Quiet.{has_no_escape}
use Rattle.sq_meaning.specs.SortKeys.{item_name}
use Rattle.sq_meaning.specs.Spelled.{Named}
use Rattle.sq_meaning.specs.Sure.{is_sure, is_sure_clause, is_sure_expr, is_sure_select}
use Rattle.sq_meaning.specs.Syntax.{Expr, Select, conjunction}
use Rattle.sq_bound.proofs.ReadColumns.{clause_from, cond_from, expr_from, select_from}
use Rattle.sq_bound.specs.Columns.{ClauseReads, CondReads, EscapeReads, ExprReads, IsAmongItems, SelectReads}
use Rattle.sq_bound.specs.Expression.{PlacedExpr}
use Rattle.sq_bound.specs.Noted.{AreSure, may_fail}
use Rattle.sq_binding.specs.Condition.{agreeing, as_subquery, escape_bound}
use Rattle.sq_binding.specs.Expression.{Bound, bound}
use Rattle.sq_binding.specs.Findings.{Findings}
use Rattle.sq_binding.specs.Findings as findings
use Rattle.sq_binding.specs.Found.{Counts, Found, each, joined}
use Rattle.sq_binding.specs.Numbered.{Numbered, tree_of}
use Rattle.sq_binding.specs.NumberedCondition.{NumberedClause, NumberedCond, NumberedConds, NumberedSelect, clause_of, cond_of, conds_of, select_of, with_number}
use Rattle.sq_binding.specs.QueryFindings.{QueryFindings, a_status, nothing, of_subquery, values_of_subquery}
use Rattle.sq_binding.specs.Select.{ShownColumn, Surroundings, Typed, shown_column, value, value_found}
use Rattle.sq_binding.proofs.Standing.CondsStand.{calls_same}
use Rattle.sq_binding.proofs.Notes.Noted.{ReadsOwn, bound_noted}
use Rattle.sq_binding.proofs.Notes.Outward.{AreSmall, IsOutward, expr_outward, findings_same, first_further, further, items_out, second_further, subquery_out}
use Rattle.sq_binding.proofs.Inductions.Pieces.{agreeing_holds, escape_holds, shown_holds, value_holds}
use Rattle.sq_binding.proofs.Placing.PlacedParts.{same_select}
use Rattle.sq_binding.proofs.Inductions.Turns.{each_holds, found_too, it_is, only, put}

-- ---- the trees by place of a part

-- What a part reads where it stands so many queries deep, and whether it never ends with a status, where the query has these set
-- functions.
pub record Trees (A : Type 0) : Type 1 where
  pub Reads : (ℕ → Place → Type 0) → ℕ → List PlacedExpr → A → Type 0
  pub wider : (P Q : ℕ → Place → Type 0) → ((n : ℕ) (p : Place) → P n p → Q n p) → (n : ℕ) (functions : List PlacedExpr) (x : A) → Reads P n functions x → Reads Q n functions x
  pub is_sure : List PlacedExpr → A → Bool

moved : (P Q : ℕ → Place → Type 0) → ((n : ℕ) (p : Place) → P n p → Q n p) → (n m : ℕ) (p : Place) → n ≡ m → P n p → Q m p
moved P Q f n m p is h = subst (λ k. Q k p) is (f n p h)

pub expr_wider : (P Q : ℕ → Place → Type 0) → ((n : ℕ) (p : Place) → P n p → Q n p) → (n : ℕ) (e : PlacedExpr) → ExprReads P n e → ExprReads Q n e
expr_wider P Q f n = expr_from P Q (λ k m. k ≡ m) (λ k m is. ap suc is) (moved P Q f) n n refl

abbrev pub numbered_trees : Trees Numbered
numbered_trees = record { Reads = λ P n functions x. ExprReads P n (tree_of functions x); wider = λ P Q f n functions x. expr_wider P Q f n (tree_of functions x); is_sure = λ functions x. is_sure_expr (tree_of functions x) }

abbrev pub typed_trees : Trees Typed
typed_trees = record { Reads = λ P n functions x. ExprReads P n (tree_of functions x.tree); wider = λ P Q f n functions x. expr_wider P Q f n (tree_of functions x.tree); is_sure = λ functions x. is_sure_expr (tree_of functions x.tree) }

abbrev pub shown_trees_of : Trees ShownColumn
shown_trees_of = record { Reads = λ P n functions x. ExprReads P n (tree_of functions x.tree); wider = λ P Q f n functions x. expr_wider P Q f n (tree_of functions x.tree); is_sure = λ functions x. is_sure_expr (tree_of functions x.tree) }

abbrev pub each_tree : {A : Type 0} → Trees A → Trees (List A)
each_tree t = record {
  Reads = λ P n functions xs. AllByRecursion (t.Reads P n functions) xs;
  wider = λ P Q f n functions xs. all_weaker (t.Reads P n functions) (t.Reads Q n functions) (t.wider P Q f n functions) xs;
  is_sure = λ functions xs. list_all (t.is_sure functions) xs;
}

pub escape_wider : (P Q : ℕ → Place → Type 0) → ((n : ℕ) (p : Place) → P n p → Q n p) → (n : ℕ) (functions : List PlacedExpr) (x : Option Numbered) → EscapeReads P n (option_map (tree_of functions) x)
    → EscapeReads Q n (option_map (tree_of functions) x)
escape_wider P Q f n functions None h = tt
escape_wider P Q f n functions (Some x) h = expr_wider P Q f n (tree_of functions x) h

abbrev pub escape_trees : Trees (Option Numbered)
escape_trees = record {
  Reads = λ P n functions x. EscapeReads P n (option_map (tree_of functions) x);
  wider = escape_wider;
  is_sure = λ functions x. has_no_escape (option_map (tree_of functions) x);
}

pub select_wider : (P Q : ℕ → Place → Type 0) → ((n : ℕ) (p : Place) → P n p → Q n p) → (n : ℕ) (functions : List PlacedExpr) (q : NumberedSelect) → SelectReads P n (select_of q) → SelectReads Q n (select_of q)
select_wider P Q f n functions q = select_from P Q (λ k m. k ≡ m) (λ k m is. ap suc is) (moved P Q f) n n refl (select_of q)

abbrev pub select_trees : Trees NumberedSelect
select_trees = record { Reads = λ P n functions q. SelectReads P n (select_of q); wider = select_wider; is_sure = λ functions q. is_sure_select may_fail (select_of q) }

-- a scalar subquery may have more than one row
abbrev pub scalar_trees : Trees NumberedSelect
scalar_trees = record { Reads = λ P n functions q. SelectReads P n (select_of q); wider = select_wider; is_sure = λ functions q. false }

pub cond_wider : (P Q : ℕ → Place → Type 0) → ((n : ℕ) (p : Place) → P n p → Q n p) → (n : ℕ) (functions : List PlacedExpr) (c : NumberedCond) → CondReads P n (cond_of functions c) → CondReads Q n (cond_of functions c)
cond_wider P Q f n functions c = cond_from P Q (λ k m. k ≡ m) (λ k m is. ap suc is) (moved P Q f) n n refl (cond_of functions c)

abbrev pub cond_trees : Trees NumberedCond
cond_trees = record { Reads = λ P n functions c. CondReads P n (cond_of functions c); wider = cond_wider; is_sure = λ functions c. is_sure may_fail (cond_of functions c) }

pub conds_wider : (P Q : ℕ → Place → Type 0) → ((n : ℕ) (p : Place) → P n p → Q n p) → (n : ℕ) (functions : List PlacedExpr) (cs : NumberedConds) → CondReads P n (conjunction (conds_of functions cs))
    → CondReads Q n (conjunction (conds_of functions cs))
conds_wider P Q f n functions cs = cond_from P Q (λ k m. k ≡ m) (λ k m is. ap suc is) (moved P Q f) n n refl (conjunction (conds_of functions cs))

abbrev pub conds_trees : Trees NumberedConds
conds_trees = record { Reads = λ P n functions cs. CondReads P n (conjunction (conds_of functions cs)); wider = conds_wider; is_sure = λ functions cs. is_sure may_fail (conjunction (conds_of functions cs)) }

pub clause_wider : (P Q : ℕ → Place → Type 0) → ((n : ℕ) (p : Place) → P n p → Q n p) → (n : ℕ) (functions : List PlacedExpr) (c : NumberedClause) → ClauseReads P n (clause_of functions c) → ClauseReads Q n (clause_of functions c)
clause_wider P Q f n functions c = clause_from P Q (λ k m. k ≡ m) (λ k m is. ap suc is) (moved P Q f) n n refl (clause_of functions c)

abbrev pub clause_trees : Trees NumberedClause
clause_trees = record { Reads = λ P n functions c. ClauseReads P n (clause_of functions c); wider = clause_wider; is_sure = λ functions c. is_sure_clause may_fail (clause_of functions c) }

-- ---- what is found

-- The set functions that are added, and the part, whatever set functions of its own the query has.
pub record PartNoted {A : Type 0} (t : Trees A) (a : Surroundings) (x : Found A) : Type 0 where
  pub own : AllByRecursion ReadsOwn x.calls
  pub out : AreSmall a.scopes → (functions : List PlacedExpr) → AllByRecursion ReadsOwn functions → t.Reads (IsOutward x.findings.values) 1 functions x.part
  pub sure : x.findings.values.can_fail ≡ false → (functions : List PlacedExpr) → AreSure functions → t.is_sure functions x.part ≡ true
  pub sure_calls : x.calls_can_fail ≡ false → AreSure x.calls
  pub read : AreSmall a.scopes → t.Reads (IsAmongItems x.findings.values.items) 0 [] x.part

-- a part of one
pub one_noted : {A B : Type 0} (t : Trees A) (u : Trees B) (a : Surroundings) (x : Found A) (y : B) → ((P : ℕ → Place → Type 0) (n : ℕ) (functions : List PlacedExpr) → t.Reads P n functions x.part → u.Reads P n functions y)
    → ((functions : List PlacedExpr) → t.is_sure functions x.part ≡ true → u.is_sure functions y ≡ true) → PartNoted t a x → PartNoted u a (put y x)
one_noted t u a x y reads sures h = record {
  own = h.own;
  out = λ small functions own. reads (IsOutward x.findings.values) 1 functions (h.out small functions own);
  sure = λ none functions all. sures functions (h.sure none functions all);
  sure_calls = h.sure_calls;
  read = λ small. reads (IsAmongItems x.findings.values.items) 0 [] (h.read small);
}

among_wider : (a b : ℕ) → a ≤ b → (n : ℕ) (p : Place) → IsAmongItems a n p → IsAmongItems b n p
among_wider a b le n p near is = let low = near is in omega (arith, le, low)

-- a part of two
pub two_noted : {A B C : Type 0} (t : Trees A) (u : Trees B) (v : Trees C) (a : Surroundings) (x : Found A) (y : Found B) (z : C)
    → ((P : ℕ → Place → Type 0) (n : ℕ) (functions : List PlacedExpr) → t.Reads P n functions x.part → u.Reads P n functions y.part → v.Reads P n functions z)
    → ((functions : List PlacedExpr) → t.is_sure functions x.part ≡ true → u.is_sure functions y.part ≡ true → v.is_sure functions z ≡ true) → PartNoted t a x → PartNoted u a y → PartNoted v a (joined x (put z y))
two_noted t u v a x y z reads sures h g =
    let f = x.findings.values in
    let k = y.findings.values in
    record {
      own = all_appended ReadsOwn x.calls y.calls h.own g.own;
      out = λ small functions own. reads (IsOutward (findings.both f k)) 1 functions
          (t.wider (IsOutward f) (IsOutward (findings.both f k)) (λ n p. further f (findings.both f k) (first_further f k) n n p refl) 1 functions x.part (h.out small functions own))
          (u.wider (IsOutward k) (IsOutward (findings.both f k)) (λ n p. further k (findings.both f k) (second_further f k) n n p refl) 1 functions y.part (g.out small functions own));
      sure = λ none functions all. let parts = or_parts f.can_fail k.can_fail none in sures functions (h.sure parts.0 functions all) (g.sure parts.1 functions all);
      sure_calls = λ none. let parts = or_parts x.calls_can_fail y.calls_can_fail none in all_appended (λ f. is_sure_expr f ≡ true) x.calls y.calls (h.sure_calls parts.0) (g.sure_calls parts.1);
      read = λ small. reads (IsAmongItems (max f.items k.items)) 0 []
          (t.wider (IsAmongItems f.items) (IsAmongItems (max f.items k.items)) (among_wider f.items (max f.items k.items) (le-max_left f.items k.items)) 0 [] x.part (h.read small))
          (u.wider (IsAmongItems k.items) (IsAmongItems (max f.items k.items)) (among_wider k.items (max f.items k.items) (le-max_right f.items k.items)) 0 [] y.part (g.read small));
    }

-- a part without any
pub bare_noted : {A : Type 0} (t : Trees A) (a : Surroundings) (next : ℕ) (x : A) → ((P : ℕ → Place → Type 0) (n : ℕ) (functions : List PlacedExpr) → t.Reads P n functions x) → ((functions : List PlacedExpr) → t.is_sure functions x ≡ true)
    → PartNoted t a (only next nothing x)
bare_noted t a next x reads sures = record {
  own = tt;
  out = λ small functions own. reads (IsOutward findings.none) 1 functions;
  sure = λ none functions all. sures functions;
  sure_calls = λ none. tt;
  read = λ small. reads (IsAmongItems 0) 0 [];
}

or_true : (b : Bool) → (b || true) ≡ false → ⊥
or_true true e = cc
or_true false e = cc

-- where a status is found beside, nothing is said of it
pub status_noted : {A : Type 0} (t u : Trees A) (a : Surroundings) (x : Found A) → ((P : ℕ → Place → Type 0) (n : ℕ) (functions : List PlacedExpr) → t.Reads P n functions x.part → u.Reads P n functions x.part)
    → PartNoted t a x → PartNoted u a (found_too a_status x)
status_noted t u a x reads h = record {
  own = h.own;
  out = λ small functions own.
      u.wider (IsOutward x.findings.values) (IsOutward (findings.both x.findings.values a_status.values))
      (λ n p. further x.findings.values (findings.both x.findings.values a_status.values) (first_further x.findings.values a_status.values) n n p refl) 1 functions x.part
      (reads (IsOutward x.findings.values) 1 functions (h.out small functions own));
  sure = λ none functions all. absurd (or_true x.findings.values.can_fail none);
  sure_calls = h.sure_calls;
  read = λ small.
      u.wider (IsAmongItems x.findings.values.items) (IsAmongItems (max x.findings.values.items 0))
      (among_wider x.findings.values.items (max x.findings.values.items 0) (le-max_left x.findings.values.items 0)) 0 [] x.part
      (reads (IsAmongItems x.findings.values.items) 0 [] (h.read small));
}

-- ---- values

value_part : (a : Surroundings) (counts : Counts) (e : Expr Named) (b : Bound) → bound a.scopes a.parameters a.functions_allowed false e counts.functions ≡ Ok b → PartNoted typed_trees a (value_found counts b)
value_part a counts e b is =
    let h = bound_noted a.scopes a.parameters a.functions_allowed false e counts.functions b is in
    record {
      own = h.own_calls;
      out = expr_outward a.scopes a.parameters a.functions_allowed false e counts.functions b is;
      sure = h.sure;
      sure_calls = h.sure_calls;
      read = λ small. h.read;
    }

pub value_noted : (a : Surroundings) (counts : Counts) (e : Expr Named) (x : Found Typed) → value a e counts ≡ Ok x → PartNoted typed_trees a x
value_noted a counts e x is = it_is (PartNoted typed_trees a) (value a e counts) x is (value_holds a counts (PartNoted typed_trees a) e (λ b so. value_part a counts e b so))

pub agreeing_noted : (a : Surroundings) (k : Kind) (es : List (Expr Named)) (counts : Counts) (ys : Found (List Numbered)) → each (agreeing a k) es counts ≡ Ok ys → PartNoted (each_tree numbered_trees) a ys
agreeing_noted a k es counts ys is =
    it_is (PartNoted (each_tree numbered_trees) a) (each (agreeing a k) es counts) ys is
    (each_holds (λ counts e y. PartNoted numbered_trees a y) (λ counts es ys. PartNoted (each_tree numbered_trees) a ys) (agreeing a k)
    (λ counts e. agreeing_holds a counts (PartNoted numbered_trees a) k e (λ x so alike. one_noted typed_trees numbered_trees a x x.part.tree (λ P n functions h. h) (λ functions h. h) (value_noted a counts e x so)))
    (λ counts. bare_noted (each_tree numbered_trees) a counts.subqueries [] (λ P n functions. tt) (λ functions. refl))
    (λ counts e es y ys p q. two_noted numbered_trees (each_tree numbered_trees) (each_tree numbered_trees) a y ys (y.part ∷ ys.part) (λ P n functions h g. (h, g)) (λ functions h g i. h i && g i) p q)
    es counts)

pub escape_noted : (a : Surroundings) (escape : Option (Expr Named)) (counts : Counts) (z : Found (Option Numbered)) → escape_bound a escape counts ≡ Ok z → PartNoted escape_trees a z
escape_noted a None counts z is =
    it_is (PartNoted escape_trees a) (escape_bound a None counts) z is (bare_noted escape_trees a counts.subqueries None (λ P n functions. tt) (λ functions. refl))
escape_noted a (Some e) counts z is =
    it_is (PartNoted escape_trees a) (escape_bound a (Some e) counts) z is
    (escape_holds a counts (PartNoted escape_trees a) e
    (λ x so text. status_noted maybe_sure escape_trees a (put (Some x.part.tree) x) (λ P n functions h. h) (one_noted typed_trees maybe_sure a x (Some x.part.tree) (λ P n functions h. h) (λ functions h. refl) (value_noted a counts e x so))))
  where
    maybe_sure : Trees (Option Numbered)
    maybe_sure = record { Reads = escape_trees.Reads; wider = escape_trees.wider; is_sure = λ functions x. true }

pub shown_noted : (a : Surroundings) (es : List (Expr Named)) (counts : Counts) (ys : Found (List ShownColumn)) → each (shown_column a) es counts ≡ Ok ys → PartNoted (each_tree shown_trees_of) a ys
shown_noted a es counts ys is =
    it_is (PartNoted (each_tree shown_trees_of) a) (each (shown_column a) es counts) ys is
    (each_holds (λ counts e y. PartNoted shown_trees_of a y) (λ counts es ys. PartNoted (each_tree shown_trees_of) a ys) (shown_column a)
    (λ counts e. shown_holds a counts (PartNoted shown_trees_of a) e
    (λ x so. one_noted typed_trees shown_trees_of a x (record { tree = x.part.tree; column = record { name = item_name e; kind = x.part.kind } }) (λ P n functions h. h) (λ functions h. h) (value_noted a counts e x so)))
    (λ counts. bare_noted (each_tree shown_trees_of) a counts.subqueries [] (λ P n functions. tt) (λ functions. refl))
    (λ counts e es y ys p q. two_noted shown_trees_of (each_tree shown_trees_of) (each_tree shown_trees_of) a y ys (y.part ∷ ys.part) (λ P n functions h g. (h, g)) (λ functions h g i. h i && g i) p q)
    es counts)

-- ---- subqueries

-- A query specification: whether evaluating it may answer a status is noted of it, too.
abbrev pub can_fail_of : NumberedSelect → Bool
can_fail_of (NumberedSelect.select distinct list from filter groups columns can_fail number) = can_fail

pub record SelectNoted (a : Surroundings) (counts : Counts) (s : Select Named) (x : Found NumberedSelect) : Type 0 where
  pub none : x.calls ≡ []
  pub is_noted : can_fail_of x.part ≡ x.findings.values.can_fail
  pub out : AreSmall a.scopes → SelectReads (IsOutward x.findings.values) 0 (select_of x.part)
  pub sure : x.findings.values.can_fail ≡ false → is_sure_select may_fail (select_of x.part) ≡ true

pub select_same : (q : Found NumberedSelect) → select_of (as_subquery q).part ≡ select_of q.part
select_same q = if_closed (nat_eq q.findings.values.reach 0)
  where
    if_closed : (closed : Bool)
        → select_of (if closed then record q { part = with_number (Some q.subqueries) q.part; findings = of_subquery q.findings; subqueries = q.subqueries + 1 } else record q { findings = of_subquery q.findings }).part ≡ select_of q.part
    if_closed true = same_select (Some q.subqueries) q.part
    if_closed false = refl

pub subquery_noted : (a : Surroundings) (counts : Counts) (s : Select Named) (q : Found NumberedSelect) → SelectNoted a counts s q → PartNoted select_trees a (as_subquery q)
subquery_noted a counts s q h =
    let none : (as_subquery q).calls ≡ [] = calls_same q ∙ h.none in
    let found : (as_subquery q).findings.values ≡ values_of_subquery q.findings.values = ap (λ (f : QueryFindings). f.values) (findings_same q) in
    record {
      own = subst (AllByRecursion ReadsOwn) (sym none) tt;
      out = λ small functions own.
          subst (λ f. SelectReads (IsOutward f) 1 (select_of (as_subquery q).part)) (sym found)
          (subst (SelectReads (IsOutward (values_of_subquery q.findings.values)) 1) (sym (select_same q)) (subquery_out q.findings.values (select_of q.part) (h.out small)));
      sure = λ free functions all. ap (is_sure_select may_fail) (select_same q) ∙ h.sure (sym (ap (λ (f : Findings). f.can_fail) found) ∙ free);
      sure_calls = λ free. subst AreSure (sym none) tt;
      read = λ small.
          subst (λ f. SelectReads (IsAmongItems f.items) 0 (select_of (as_subquery q).part)) (sym found)
          (subst (SelectReads (IsAmongItems q.findings.values.outer_items) 0) (sym (select_same q)) (items_out q.findings.values (select_of q.part) (h.out small)));
    }
