-- A tree that reads no more than so many items of a FROM clause reads no more than that many and others.
use Rattle.std.proofs.Common.{◌≡◌, ℕ, suc, ◌≤◌, ap, refl, sym, ◌∙◌, arith}
use Rattle.sq_meaning.specs.Environment.{Place}
use Rattle.sq_bound.specs.Columns.{ExprReadsItems, IsAmongItems, ReadsItems}
use Rattle.sq_bound.specs.Condition.{PlacedCond}
use Rattle.sq_bound.specs.Expression.{PlacedExpr}
use Rattle.sq_bound.proofs.ReadColumns.{expr_from, cond_from}

among_more : (items more : ℕ) → items ≤ more → (n m : ℕ) (p : Place) → n ≡ m → IsAmongItems items n p → IsAmongItems more m p
among_more items more e n m p same h = λ d. let k = h (d ∙ sym same) in omega arith

pub expr_among_more : (items more : ℕ) → items ≤ more → (e : PlacedExpr) → ExprReadsItems items e → ExprReadsItems more e
expr_among_more items more e = expr_from (IsAmongItems items) (IsAmongItems more) (λ n m. n ≡ m) (λ n m same. ap suc same) (among_more items more e) 0 0 refl

pub cond_among_more : (items more : ℕ) → items ≤ more → (c : PlacedCond) → ReadsItems items c → ReadsItems more c
cond_among_more items more e = cond_from (IsAmongItems items) (IsAmongItems more) (λ n m. n ≡ m) (λ n m same. ap suc same) (among_more items more e) 0 0 refl
