-- The findings in a value expression are true. It never ends with a status unless that is found. It reads no columns further to
-- the right, and further out, than is found (ISO/IEC 9075:1992, 6.4, 6.5 and 6.11).
use Rattle.std.proofs.Common.{◌≡◌, ℕ, zero, suc, ◌+◌, ◌<◌, ◌≤◌, Bool, true, false, not, ◌&&◌, List, [], ◌∷◌, max, Ok, arith, refl, sym, ap, subst}
use Rattle.std.proofs.Math.Nat.{le-max_left, le-max_right}
use Rattle.std.proofs.lemmas.Bool.{ltb-false, or_parts, not-false}
use Rattle.std.proofs.lemmas.Bool.Decides.{nat_tests}
use Rattle.std.specs.List.{AllByRecursion}
use Rattle.std.specs.Prelude.{nat_eq, nat_lt, slice_index_or, if◌then◌else◌}
use Rattle.sq_value.specs.declared.domain.Kind.{Kind}
use Rattle.sq_meaning.proofs.AnswerLaws.{all_appended}
use Rattle.sq_meaning.specs.Environment.{Place}
use Rattle.sq_meaning.specs.Spelled.{Named}
use Rattle.sq_meaning.specs.Sure.{is_extreme, is_sure_expr}
use Rattle.sq_meaning.specs.Syntax.{Expr, literal, parameter, user, column, count_rows, set_function, signed, added, scaled, bracketed}
use Rattle.sq_meaning.specs.Tables.{Declared}
use Rattle.sq_bound.specs.Columns.{ExprReads, ExprReadsItems, IsAmongItems, IsWithin}
use Rattle.sq_bound.specs.Expression.{PlacedExpr, missing, operated}
use Rattle.sq_bound.specs.Noted.{AreSure}
use Rattle.sq_bound.specs.declared.expression.Operator.{Operator}
use Rattle.sq_bound.specs.declared.expression.Operator.TheVariants.{Plus, Minus, Times, Over}
use Rattle.sq_binding.specs.Expression.{Bound, bound, if_at, operands, product_operator, sum_operator}
use Rattle.sq_binding.specs.Numbered.{tree_of}
use Rattle.sq_binding.specs.Scope.{Scope}
use Rattle.sq_binding.proofs.Inductions.Cases.{Cases, it_holds}

-- a set function reads columns of its own query alone
abbrev pub ReadsOwn : PlacedExpr → Type 0
ReadsOwn e = ExprReads (IsWithin 0) 1 e

-- What is found in an expression, whatever set functions of its own the query has.
pub record IsNoted (b : Bound) : Type 0 where
  pub sure : b.findings.can_fail ≡ false → (functions : List PlacedExpr) → AreSure functions → is_sure_expr (tree_of functions b.tree) ≡ true
  pub sure_calls : b.calls_can_fail ≡ false → AreSure b.calls
  pub read : ExprReadsItems b.findings.items (tree_of [] b.tree)
  pub reach : (functions : List PlacedExpr) → AllByRecursion ReadsOwn functions → ExprReads (IsWithin b.findings.reach) 1 (tree_of functions b.tree)
  pub outer : (functions : List PlacedExpr) → AllByRecursion ReadsOwn functions → ExprReads (IsAmongItems b.findings.outer_items) 1 (tree_of functions b.tree)
  pub own_calls : AllByRecursion ReadsOwn b.calls

-- ---- columns that are read

pub reads_more : (P Q : ℕ → Place → Type 0) (n : ℕ) → ((p : Place) → P n p → Q n p) → (e : PlacedExpr) → ExprReads P n e → ExprReads Q n e
reads_more P Q n f (literal v) h = tt
reads_more P Q n f (parameter p) h = tt
reads_more P Q n f user h = tt
reads_more P Q n f (column p) h = f p h
reads_more P Q n f count_rows h = tt
reads_more P Q n f (set_function function distinct e) h = reads_more P Q n f e h
reads_more P Q n f (signed sign e) h = reads_more P Q n f e h
reads_more P Q n f (added sign a b) h = (reads_more P Q n f a h.0, reads_more P Q n f b h.1)
reads_more P Q n f (scaled sign a b) h = (reads_more P Q n f a h.0, reads_more P Q n f b h.1)
reads_more P Q n f (bracketed e) h = reads_more P Q n f e h

pub reads_both : (P : ℕ → Place → Type 0) (n : ℕ) (operator : Operator) (a b : PlacedExpr) → ExprReads P n a → ExprReads P n b → ExprReads P n (operated operator a b)
reads_both P n Plus a b h g = (h, g)
reads_both P n Minus a b h g = (h, g)
reads_both P n Times a b h g = (h, g)
reads_both P n Over a b h g = (h, g)

-- a set function by its number
pub at_index : (P : PlacedExpr → Type 0) (functions : List PlacedExpr) (n : ℕ) → AllByRecursion P functions → P missing → P (slice_index_or functions n missing)
at_index P [] zero h m = m
at_index P [] (suc n) h m = m
at_index P (f ∷ functions) zero h m = h.0
at_index P (f ∷ functions) (suc n) h m = at_index P functions n h.1 m

own_within : (reach : ℕ) (e : PlacedExpr) → ReadsOwn e → ExprReads (IsWithin reach) 1 e
own_within reach e h = reads_more (IsWithin 0) (IsWithin reach) 1 (λ p near. omega (arith, near)) e h

own_outer : (items : ℕ) (e : PlacedExpr) → ReadsOwn e → ExprReads (IsAmongItems items) 1 e
own_outer items e h = reads_more (IsWithin 0) (IsAmongItems items) 1 (λ p near further. absurd (omega (arith, near, further))) e h

within_more : (a b : ℕ) (e : PlacedExpr) → a ≤ b → ExprReads (IsWithin a) 1 e → ExprReads (IsWithin b) 1 e
within_more a b e le h = reads_more (IsWithin a) (IsWithin b) 1 (λ p near. omega (arith, le, near)) e h

among_more : (a b n : ℕ) (e : PlacedExpr) → a ≤ b → ExprReads (IsAmongItems a) n e → ExprReads (IsAmongItems b) n e
among_more a b n e le h = reads_more (IsAmongItems a) (IsAmongItems b) n (λ p near there. let low = near there in omega (arith, le, low)) e h

-- the items that hold a column
pub item_there : (d depth item : ℕ) → depth ≡ d → item < if_at d depth (item + 1)
item_there d depth item is =
    let same : nat_eq depth d ≡ true = grind (arith, nat_tests) in
    let more : item < item + 1 = omega arith in
    subst (λ n. item < n) (sym (ap (λ b. if b then item + 1 else 0) same)) more

no_reach : (n : ℕ) → nat_lt 0 n ≡ false → n ≡ 0
no_reach n e = omega (arith, ltb-false 0 n e)

both_noted : (operator : Operator) (x y : Bound) (k : Kind) → IsNoted x → IsNoted y → IsNoted (operands operator x y k)
both_noted operator x y k h g = record {
  sure = λ e functions all. cc;
  sure_calls = λ none. let parts = or_parts x.calls_can_fail y.calls_can_fail none in all_appended (λ f. is_sure_expr f ≡ true) x.calls y.calls (h.sure_calls parts.0) (g.sure_calls parts.1);
  read = reads_both (IsAmongItems (max x.findings.items y.findings.items)) 0 operator (tree_of [] x.tree) (tree_of [] y.tree)
      (among_more x.findings.items (max x.findings.items y.findings.items) 0 (tree_of [] x.tree) (le-max_left x.findings.items y.findings.items) h.read)
      (among_more y.findings.items (max x.findings.items y.findings.items) 0 (tree_of [] y.tree) (le-max_right x.findings.items y.findings.items) g.read);
  reach = λ functions all. reads_both (IsWithin (max x.findings.reach y.findings.reach)) 1 operator (tree_of functions x.tree) (tree_of functions y.tree)
      (within_more x.findings.reach (max x.findings.reach y.findings.reach) (tree_of functions x.tree) (le-max_left x.findings.reach y.findings.reach) (h.reach functions all))
      (within_more y.findings.reach (max x.findings.reach y.findings.reach) (tree_of functions y.tree) (le-max_right x.findings.reach y.findings.reach) (g.reach functions all));
  outer = λ functions all. reads_both (IsAmongItems (max x.findings.outer_items y.findings.outer_items)) 1 operator (tree_of functions x.tree) (tree_of functions y.tree)
      (among_more x.findings.outer_items (max x.findings.outer_items y.findings.outer_items) 1 (tree_of functions x.tree) (le-max_left x.findings.outer_items y.findings.outer_items) (h.outer functions all))
      (among_more y.findings.outer_items (max x.findings.outer_items y.findings.outer_items) 1 (tree_of functions y.tree) (le-max_right x.findings.outer_items y.findings.outer_items) (g.outer functions all));
  own_calls = all_appended ReadsOwn x.calls y.calls h.own_calls g.own_calls;
}

module _ (scopes : List Scope) (parameters : List Declared) where
  cases : Cases scopes parameters (λ allowed n e b. IsNoted b)
  cases = record {
    of_literal = λ allowed n v k is. record { sure = λ e functions all. refl; sure_calls = λ e. tt; read = tt; reach = λ functions all. tt; outer = λ functions all. tt; own_calls = tt };
    of_parameter = λ allowed n p at i is so. record { sure = λ e functions all. refl; sure_calls = λ e. tt; read = tt; reach = λ functions all. tt; outer = λ functions all. tt; own_calls = tt };
    of_user = λ allowed n. record { sure = λ e functions all. refl; sure_calls = λ e. tt; read = tt; reach = λ functions all. tt; outer = λ functions all. tt; own_calls = tt };
    of_column = λ allowed n c found is. record {
      sure = λ e functions all. refl;
      sure_calls = λ e. tt;
      read = item_there 0 found.depth found.item;
      reach = λ functions all. omega arith;
      outer = λ functions all. item_there 1 found.depth found.item;
      own_calls = tt;
    };
    of_count = λ n. record {
      sure = λ e functions all. at_index (λ f. is_sure_expr f ≡ true) functions n all refl;
      sure_calls = λ e. cc;
      read = at_index (ExprReadsItems 0) [] n tt tt;
      reach = λ functions all. at_index (ExprReads (IsWithin 0) 1) functions n all tt;
      outer = λ functions all. own_outer 0 (slice_index_or functions n missing) (at_index ReadsOwn functions n all tt);
      own_calls = (tt, tt);
    };
    of_function = λ n f distinct e x k h own is. record {
      sure = λ e functions all. at_index (λ f. is_sure_expr f ≡ true) functions n all refl;
      sure_calls = λ none.
          let parts = or_parts x.findings.can_fail (not (is_extreme f)) none in
          ((λ i. not-false (is_extreme f) parts.1 i && h.sure parts.0 [] tt i), tt);
      read = at_index (ExprReadsItems 0) [] n tt tt;
      reach = λ functions all. at_index (ExprReads (IsWithin 0) 1) functions n all tt;
      outer = λ functions all. own_outer 0 (slice_index_or functions n missing) (at_index ReadsOwn functions n all tt);
      own_calls = (subst (λ r. ExprReads (IsWithin r) 1 (tree_of [] x.tree)) (no_reach x.findings.reach own) (h.reach [] tt), tt);
    };
    of_signed = λ allowed n sign e x h number. record { sure = h.sure; sure_calls = h.sure_calls; read = h.read; reach = h.reach; outer = h.outer; own_calls = h.own_calls };
    of_added = λ allowed n sign a b x y k h g is. both_noted (sum_operator sign) x y k h g;
    of_scaled = λ allowed n sign a b x y k h g is. both_noted (product_operator sign) x y k h g;
    of_bracketed = λ allowed n e x h. h;
  }

  pub bound_noted : (allowed inside : Bool) (e : Expr Named) (n : ℕ) (b : Bound) → bound scopes parameters allowed inside e n ≡ Ok b → IsNoted b
  bound_noted = it_holds scopes parameters (λ allowed n e b. IsNoted b) cases
