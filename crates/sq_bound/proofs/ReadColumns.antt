-- The demand on each column reference in a tree by place, and its consequence for another depth. And the references in bound
-- trees, part by part.
use Rattle.std.proofs.Common.{◌≡◌, ◌≤◌, ◌<◌, ℕ, suc, Bool, true, false, List, [], ◌∷◌, map, Option, Some, None, refl, sym, ap, subst, arith}
use Rattle.std.specs.List.{AllByRecursion}
use Rattle.sq_tree.specs.declared.cond.Comparison.{Comparison}
use Rattle.sq_meaning.proofs.AnswerLaws.{all_weaker}
use Rattle.sq_meaning.specs.Environment as meaning
use Rattle.sq_meaning.specs.Placed.{Placed}
use Rattle.sq_meaning.specs.Syntax.{Expr, literal, parameter, user, column, count_rows, set_function, signed, added, scaled, bracketed, SelectList, all_columns, expressions, Cond, Conds, Clause, Select, compare, compare_subquery, compare_quantified, between, in_subquery, in_list, like, is_null, exists, negated, conjunction, disjunction, no_cond, a_cond, absent, present, select, conds}
use Rattle.sq_bound.specs.Columns.{ExprReads, ExprsRead, EscapeReads, ListReads, CondReads, CondsRead, ClauseReads, SelectReads, IsInside, IsWithin, IsClosed}
use Rattle.sq_bound.specs.Condition.{PlacedCond, PlacedSelect, not_if, compared_with}
use Rattle.sq_bound.specs.Expression.{PlacedExpr}
use Rattle.sq_bound.specs.declared.condition.Compared.{Compared}
use Rattle.sq_bound.specs.declared.condition.Compared.TheVariants.{Scalar, All, Any}

-- ---- what holds of the references where the tree stands n deep, and so at another depth

module _ {T : Type 0} (P Q : ℕ → meaning.Place → Type 0) (R : ℕ → ℕ → Type 0)
    (deeper : (n m : ℕ) → R n m → R (suc n) (suc m)) (holds : (n m : ℕ) (p : meaning.Place) → R n m → P n p → Q m p) where
  pub expr_from : (n m : ℕ) → R n m → (e : Expr (Placed T)) → ExprReads P n e → ExprReads Q m e
  expr_from n m r (literal v) h = tt
  expr_from n m r (parameter p) h = tt
  expr_from n m r user h = tt
  expr_from n m r (column p) h = holds n m p r h
  expr_from n m r count_rows h = tt
  expr_from n m r (set_function function distinct e) h = expr_from n m r e h
  expr_from n m r (signed sign e) h = expr_from n m r e h
  expr_from n m r (added sign a b) h = (expr_from n m r a h.0, expr_from n m r b h.1)
  expr_from n m r (scaled sign a b) h = (expr_from n m r a h.0, expr_from n m r b h.1)
  expr_from n m r (bracketed e) h = expr_from n m r e h

  exprs_from : (n m : ℕ) → R n m → (es : List (Expr (Placed T))) → ExprsRead P n es → ExprsRead Q m es
  exprs_from n m r es h = all_weaker (ExprReads P n) (ExprReads Q m) (expr_from n m r) es h

  escape_from : (n m : ℕ) → R n m → (e : Option (Expr (Placed T))) → EscapeReads P n e → EscapeReads Q m e
  escape_from n m r None h = tt
  escape_from n m r (Some e) h = expr_from n m r e h

  list_from : (n m : ℕ) → R n m → (l : SelectList (Placed T)) → ListReads P n l → ListReads Q m l
  list_from n m r all_columns h = tt
  list_from n m r (expressions es) h = exprs_from n m r es h

  mutual
    pub cond_from : (n m : ℕ) → R n m → (c : Cond (Placed T)) → CondReads P n c → CondReads Q m c
    cond_from n m r (compare op a b) h = (expr_from n m r a h.0, expr_from n m r b h.1)
    cond_from n m r (compare_subquery op a q) h = (expr_from n m r a h.0, select_from n m r q h.1)
    cond_from n m r (compare_quantified op k a q) h = (expr_from n m r a h.0, select_from n m r q h.1)
    cond_from n m r (between a low high) h = (expr_from n m r a h.0, expr_from n m r low h.1, expr_from n m r high h.2)
    cond_from n m r (in_subquery a q) h = (expr_from n m r a h.0, select_from n m r q h.1)
    cond_from n m r (in_list a es) h = (expr_from n m r a h.0, exprs_from n m r es h.1)
    cond_from n m r (like text pattern escape) h = (expr_from n m r text h.0, expr_from n m r pattern h.1, escape_from n m r escape h.2)
    cond_from n m r (is_null a) h = expr_from n m r a h
    cond_from n m r (exists q) h = select_from n m r q h
    cond_from n m r (negated c) h = cond_from n m r c h
    cond_from n m r (conjunction cs) h = conds_from n m r cs h
    cond_from n m r (disjunction cs) h = conds_from n m r cs h

    conds_from : (n m : ℕ) → R n m → (cs : Conds (Placed T)) → CondsRead P n cs → CondsRead Q m cs
    conds_from n m r no_cond h = tt
    conds_from n m r (a_cond c cs) h = (cond_from n m r c h.0, conds_from n m r cs h.1)

    pub clause_from : (n m : ℕ) → R n m → (c : Clause (Placed T)) → ClauseReads P n c → ClauseReads Q m c
    clause_from n m r absent h = tt
    clause_from n m r (present c) h = cond_from n m r c h

    pub select_from : (n m : ℕ) → R n m → (q : Select (Placed T)) → SelectReads P n q → SelectReads Q m q
    select_from n m r (select distinct list from filter by having) h = (
      list_from (suc n) (suc m) (deeper n m r) list h.0,
      clause_from (suc n) (suc m) (deeper n m r) filter h.1,
      all_weaker (P (suc n)) (Q (suc m)) (λ p. holds (suc n) (suc m) p (deeper n m r)) by h.2,
      clause_from (suc n) (suc m) (deeper n m r) having h.3,
    )

-- ---- columns that are so many queries further out at most

further : (a b n m : ℕ) (p : meaning.Place) → a ≤ b → n ≡ m → IsWithin a n p → IsWithin b m p
further a b n m p h is inside = subst (λ k. IsWithin b k p) is (omega (arith, h, inside))

pub select_within_more : {T : Type 0} (a b n : ℕ) → a ≤ b → (q : Select (Placed T)) → SelectReads (IsWithin a) n q → SelectReads (IsWithin b) n q
select_within_more a b n h = select_from (IsWithin a) (IsWithin b) (λ k m. k ≡ m) (λ k m is. ap suc is) (λ k m p. further a b k m p h) n n refl

inward : (a b n m : ℕ) (p : meaning.Place) → a ≤ suc b → m ≡ suc n → IsWithin a n p → IsWithin b m p
inward a b n m p h is inside = subst (λ k. IsWithin b k p) (sym is) (omega (arith, h, inside))

inside_only : (n m : ℕ) (p : meaning.Place) → n ≡ m → IsWithin 0 n p → IsInside m p
inside_only n m p is inside = subst (λ k. p.depth < k) is (omega (arith, inside))

-- one that reads no column further out is closed
pub closed_within : {T : Type 0} (q : Select (Placed T)) → SelectReads (IsWithin 0) 0 q → IsClosed q
closed_within = select_from (IsWithin 0) IsInside (λ k m. k ≡ m) (λ k m is. ap suc is) inside_only 0 0 refl

-- ---- parts of conditions

pub not_reads : (P : ℕ → meaning.Place → Type 0) (n : ℕ) (written : Bool) (c : PlacedCond) → CondReads P n c → CondReads P n (not_if written c)
not_reads P n true c h = h
not_reads P n false c h = h

pub compared_reads : (P : ℕ → meaning.Place → Type 0) (n : ℕ) (k : Compared) (op : Comparison) (a : PlacedExpr) (q : PlacedSelect) → ExprReads P n a → SelectReads P n q → CondReads P n (compared_with k op a q)
compared_reads P n Scalar op a q h g = (h, g)
compared_reads P n All op a q h g = (h, g)
compared_reads P n Any op a q h g = (h, g)

pub conds_read : {X : Type 0} (P : ℕ → meaning.Place → Type 0) (n : ℕ) (tree : X → PlacedCond) (xs : List X) → AllByRecursion (λ x. CondReads P n (tree x)) xs → CondsRead P n (conds (map tree xs))
conds_read P n tree [] h = tt
conds_read P n tree (x ∷ xs) h = (h.0, conds_read P n tree xs h.1)
