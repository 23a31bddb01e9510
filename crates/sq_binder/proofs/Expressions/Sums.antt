-- Sums and products, operand by operand.
use Rattle.std.proofs.Common.{◌≡◌, ℕ, ◌+◌, Bool, false, true, List, [], ◌∷◌, length, map, Option, None, Some, Ok, refl, sym, ap, subst, ◌∙◌}
use Rattle.std.specs.Prelude.{Result, fold}
use Rattle.sq_tree.specs.declared.expr.Added.{Added, out-Added, roll-out-Added}
use Rattle.sq_tree.specs.declared.expr.Expr.{Expr as SpelledExpr, out-Expr, roll-out-Expr}
use Rattle.sq_tree.specs.declared.expr.Factor.{Factor}
use Rattle.sq_tree.specs.declared.expr.Primary.{Primary}
use Rattle.sq_tree.specs.declared.expr.Scaled.{Scaled}
use Rattle.sq_tree.specs.declared.expr.SetFunction.{SetFunction}
use Rattle.sq_tree.specs.declared.expr.Sign.{Sign}
use Rattle.sq_tree.specs.declared.expr.Term.{Term, out-Term, roll-out-Term}
use Rattle.sq_tree.specs.declared.expr.TimesSign.{TimesSign}
use Rattle.sq_meaning.specs.Spelled.{Named, added_of, expr_of, factor_of, primary_of, scaled_of, term_of, with_sign_if}
use Rattle.sq_meaning.specs.Syntax.{Expr, added, scaled, set_function}
use Rattle.sq_meaning.proofs.SpelledLevels.{added_of-roll, expr_of-roll, factor_of-out, scaled_of-out, term_of-roll}
use Rattle.sq_bound.specs.declared.expression.Operator.{Operator}
use Rattle.sq_binding.specs.Expression as binding
use Rattle.sq_binding.specs.Expression.{function_over, operated_as, product_operator, signed_as, sum_operator}
use Rattle.sq_binding.specs.Outcome.{Outcome, and_then}
use Rattle.sq_binder.specs.Binds.{Binds, Stops}
use Rattle.sq_binder.specs.Bound.{bound_of}
use Rattle.sq_binder.specs.Expression.{bound_at, product_step, sum_step}
use Rattle.sq_binder.specs.declared.bound.Bound.{Bound}
use Rattle.sq_binder.specs.declared.expression.Standing.{Standing}
use Rattle.sq_binder.specs.declared.stop.Stop.{Stop}
use Rattle.sq_binder.specs.declared.stop.Stop.TheVariants.{Fault, NoMemory}
use Rattle.sq_binder.proofs.OneByOne.Steps.{binds_as, stepped, stepped_fault, stops_as, stops_here, then_binds}

-- ---- trees that are spelled

expr_of-out : (e : SpelledExpr) → expr_of e ≡ fold (λ left s. added s.0 left s.1) (term_of (out-Expr e).first) (map added_of (out-Expr e).rest)
expr_of-out e = ap expr_of (sym (roll-out-Expr e)) ∙ expr_of-roll (out-Expr e).first (out-Expr e).rest

term_of-out : (t : Term) → term_of t ≡ fold (λ left s. scaled s.0 left s.1) (factor_of (out-Term t).first) (map scaled_of (out-Term t).rest)
term_of-out t = ap term_of (sym (roll-out-Term t)) ∙ term_of-roll (out-Term t).first (out-Term t).rest

pub added_of-out : (a : Added) → added_of a ≡ ((out-Added a).sign, term_of (out-Added a).term)
added_of-out a = ap added_of (sym (roll-out-Added a)) ∙ added_of-roll (out-Added a).sign (out-Added a).term

-- ---- sums and products

module _ (at : Standing) (n : ℕ) where
  sum_folded : (first : Expr Named) (rest : List (Sign × Expr Named)) → bound_at at (fold (λ left s. added s.0 left s.1) first rest) n ≡ stepped (sum_step at n) (bound_at at first n) rest
  sum_folded first [] = refl
  sum_folded first (s ∷ rest) = sum_folded (added s.0 first s.1) rest

  product_folded : (first : Expr Named) (rest : List (TimesSign × Expr Named)) → bound_at at (fold (λ left s. scaled s.0 left s.1) first rest) n ≡ stepped (product_step at n) (bound_at at first n) rest
  product_folded first [] = refl
  product_folded first (s ∷ rest) = product_folded (scaled s.0 first s.1) rest

  pub sum_is : (e : SpelledExpr) → bound_at at (expr_of e) n ≡ stepped (sum_step at n) (bound_at at (term_of (out-Expr e).first) n) (map added_of (out-Expr e).rest)
  sum_is e = ap (λ (e : Expr Named). bound_at at e n) (expr_of-out e) ∙ sum_folded (term_of (out-Expr e).first) (map added_of (out-Expr e).rest)

  pub product_is : (t : Term) → bound_at at (term_of t) n ≡ stepped (product_step at n) (bound_at at (factor_of (out-Term t).first) n) (map scaled_of (out-Term t).rest)
  product_is t = ap (λ (e : Expr Named). bound_at at e n) (term_of-out t) ∙ product_folded (factor_of (out-Term t).first) (map scaled_of (out-Term t).rest)

  -- ---- the first operand

  pub sum_begun : (e : SpelledExpr) (items : List Added) (x : binding.Bound) → items ≡ (out-Expr e).rest → bound_at at (term_of (out-Expr e).first) n ≡ Ok x
      → bound_at at (expr_of e) n ≡ stepped (sum_step at n) (Ok x) (map added_of items)
  sum_begun e items x is first =
      sum_is e ∙ ap (λ (o : Outcome binding.Bound). stepped (sum_step at n) o (map added_of (out-Expr e).rest)) first
      ∙ ap (λ (l : List Added). stepped (sum_step at n) (Ok x) (map added_of l)) (sym is)

  pub product_begun : (t : Term) (items : List Scaled) (x : binding.Bound) → items ≡ (out-Term t).rest → bound_at at (factor_of (out-Term t).first) n ≡ Ok x
      → bound_at at (term_of t) n ≡ stepped (product_step at n) (Ok x) (map scaled_of items)
  product_begun t items x is first =
      product_is t ∙ ap (λ (o : Outcome binding.Bound). stepped (product_step at n) o (map scaled_of (out-Term t).rest)) first
      ∙ ap (λ (l : List Scaled). stepped (product_step at n) (Ok x) (map scaled_of l)) (sym is)

  pub sum_stops : (e : SpelledExpr) (stop : Stop) → Stops (bound_at at (term_of (out-Expr e).first) n) stop → Stops (bound_at at (expr_of e) n) stop
  sum_stops e NoMemory s = tt
  sum_stops e (Fault f) s =
      sum_is e ∙ ap (λ (o : Outcome binding.Bound). stepped (sum_step at n) o (map added_of (out-Expr e).rest)) s ∙ stepped_fault (sum_step at n) f.rule (map added_of (out-Expr e).rest)

  pub product_stops : (t : Term) (stop : Stop) → Stops (bound_at at (factor_of (out-Term t).first) n) stop → Stops (bound_at at (term_of t) n) stop
  product_stops t NoMemory s = tt
  product_stops t (Fault f) s =
      product_is t ∙ ap (λ (o : Outcome binding.Bound). stepped (product_step at n) o (map scaled_of (out-Term t).rest)) s ∙ stepped_fault (product_step at n) f.rule (map scaled_of (out-Term t).rest)

  -- ---- a further operand

  module _ (left : binding.Bound) (number : ℕ) (follows : number ≡ n + length left.calls) where
    pub term_behind : (a : Added) (op : Operator) (right : binding.Bound) (r : Result Bound Stop) → op ≡ sum_operator (out-Added a).sign → bound_at at (term_of (out-Added a).term) number ≡ Ok right
        → Binds bound_of (operated_as op left right) r → Binds bound_of (sum_step at n left (added_of a)) r
    term_behind a op right r same is h =
        binds_as bound_of (sum_step at n left (added_of a)) (sum_step at n left ((out-Added a).sign, term_of (out-Added a).term)) r (ap (sum_step at n left) (added_of-out a))
        (then_binds bound_of (bound_at at (term_of (out-Added a).term) (n + length left.calls)) (operated_as (sum_operator (out-Added a).sign) left) right r
        (ap (bound_at at (term_of (out-Added a).term)) (sym follows) ∙ is) (subst (λ (op : Operator). Binds bound_of (operated_as op left right) r) same h))

    pub term_stops : (a : Added) (stop : Stop) → Stops (bound_at at (term_of (out-Added a).term) number) stop → Stops (sum_step at n left (added_of a)) stop
    term_stops a stop s =
        stops_as (sum_step at n left (added_of a)) (sum_step at n left ((out-Added a).sign, term_of (out-Added a).term)) stop (ap (sum_step at n left) (added_of-out a))
        (stops_here (bound_at at (term_of (out-Added a).term) (n + length left.calls)) (operated_as (sum_operator (out-Added a).sign) left) stop
        (stops_as (bound_at at (term_of (out-Added a).term) (n + length left.calls)) (bound_at at (term_of (out-Added a).term) number) stop (ap (bound_at at (term_of (out-Added a).term)) (sym follows)) s))

    pub factor_behind : (s : Scaled) (op : Operator) (right : binding.Bound) (r : Result Bound Stop) → op ≡ product_operator s.sign → bound_at at (factor_of s.factor) number ≡ Ok right
        → Binds bound_of (operated_as op left right) r → Binds bound_of (product_step at n left (scaled_of s)) r
    factor_behind s op right r same is h =
        binds_as bound_of (product_step at n left (scaled_of s)) (product_step at n left (s.sign, factor_of s.factor)) r (ap (product_step at n left) (scaled_of-out s))
        (then_binds bound_of (bound_at at (factor_of s.factor) (n + length left.calls)) (operated_as (product_operator s.sign) left) right r
        (ap (bound_at at (factor_of s.factor)) (sym follows) ∙ is) (subst (λ (op : Operator). Binds bound_of (operated_as op left right) r) same h))

    pub factor_stops : (s : Scaled) (stop : Stop) → Stops (bound_at at (factor_of s.factor) number) stop → Stops (product_step at n left (scaled_of s)) stop
    factor_stops s stop fails =
        stops_as (product_step at n left (scaled_of s)) (product_step at n left (s.sign, factor_of s.factor)) stop (ap (product_step at n left) (scaled_of-out s))
        (stops_here (bound_at at (factor_of s.factor) (n + length left.calls)) (operated_as (product_operator s.sign) left) stop
        (stops_as (bound_at at (factor_of s.factor) (n + length left.calls)) (bound_at at (factor_of s.factor) number) stop (ap (bound_at at (factor_of s.factor)) (sym follows)) fails))

  -- ---- signs and primaries

  with_sign_is : (f : Factor) (o : Option Sign) → f.sign ≡ o → bound_at at (factor_of f) n ≡ bound_at at (with_sign_if o (primary_of f.primary)) n
  with_sign_is f o is = ap (λ (e : Expr Named). bound_at at e n) (factor_of-out f ∙ ap (λ (o : Option Sign). with_sign_if o (primary_of f.primary)) is)

  pub unsigned_is : (f : Factor) (x : binding.Bound) → f.sign ≡ None → bound_at at (primary_of f.primary) n ≡ Ok x → bound_at at (factor_of f) n ≡ Ok x
  unsigned_is f x none is = with_sign_is f None none ∙ is

  pub signed_is : (f : Factor) (sign : Sign) (x : binding.Bound) (r : Result Bound Stop) → f.sign ≡ Some sign → bound_at at (primary_of f.primary) n ≡ Ok x
      → Binds bound_of (signed_as sign x) r → Binds bound_of (bound_at at (factor_of f) n) r
  signed_is f sign x r some is h =
      binds_as bound_of (bound_at at (factor_of f) n) (and_then (bound_at at (primary_of f.primary) n) (signed_as sign)) r (with_sign_is f (Some sign) some)
      (then_binds bound_of (bound_at at (primary_of f.primary) n) (signed_as sign) x r is h)

  sign_stops : (o : Option Sign) (e : Expr Named) (stop : Stop) → Stops (bound_at at e n) stop → Stops (bound_at at (with_sign_if o e) n) stop
  sign_stops None e stop s = s
  sign_stops (Some sign) e stop s = stops_here (bound_at at e n) (signed_as sign) stop s

  pub primary_stops : (f : Factor) (stop : Stop) → Stops (bound_at at (primary_of f.primary) n) stop → Stops (bound_at at (factor_of f) n) stop
  primary_stops f stop s = stops_as (bound_at at (factor_of f) n) (bound_at at (with_sign_if f.sign (primary_of f.primary)) n) stop (with_sign_is f f.sign refl) (sign_stops f.sign (primary_of f.primary) stop s)

  -- a set function, whose operand is bound inside it
  abbrev pub inside : Standing
  inside = record { environment = at.environment; allowed = false; in_function = true }

  pub function_there : (f : SetFunction) (distinct : Bool) (e : Expr Named) (x : binding.Bound) (r : Result Bound Stop) → bound_at inside e 0 ≡ Ok x → Binds bound_of (function_over at.allowed n f distinct x) r
      → Binds bound_of (bound_at at (set_function f distinct e) n) r
  function_there f distinct e x r is h = then_binds bound_of (bound_at inside e 0) (function_over at.allowed n f distinct) x r is h

  pub function_fails : (f : SetFunction) (distinct : Bool) (e : Expr Named) (stop : Stop) → Stops (bound_at inside e 0) stop → Stops (bound_at at (set_function f distinct e) n) stop
  function_fails f distinct e stop s = stops_here (bound_at inside e 0) (function_over at.allowed n f distinct) stop s

  -- a primary of some kind
  pub at_primary : (p opened : Primary) (e : Expr Named) (r : Result Bound Stop) → p ≡ opened → primary_of opened ≡ e → Binds bound_of (bound_at at e n) r → Binds bound_of (bound_at at (primary_of p) n) r
  at_primary p opened e r is means h = binds_as bound_of (bound_at at (primary_of p) n) (bound_at at e n) r (ap (λ (e : Expr Named). bound_at at e n) (ap primary_of is ∙ means)) h
