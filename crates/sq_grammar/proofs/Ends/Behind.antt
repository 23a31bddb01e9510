-- The rules after a bracket that is one of `left + 1` are the rules outside, if `left` may be opened.
use Rattle.std.proofs.Common.{◌≡◌, ℕ, ◌+◌, refl, add-one}
use Rattle.sq_grammar.specs.Expr as expressions
use Rattle.sq_grammar.specs.Cond as conditions
use Rattle.sq_grammar.specs.Cond.{must_be_cond}

pub expr-behind : (left : ℕ) → expressions.inside (left + 1) ≡ expressions.expr left
unfolding expressions.inside
expr-behind left = rw add-one refl

pub cond-behind : (left : ℕ) → must_be_cond (conditions.inside (left + 1)) ≡ conditions.cond left
unfolding conditions.inside conditions.cond
cond-behind left = rw add-one refl
