-- Predicates, made of their parts.
use Rattle.std.proofs.Common.{◌≡◌, Bool, true, false, List, Option, refl}
use Rattle.sq_tree.specs.declared.cond.Comparison.{Comparison}
use Rattle.sq_meaning.specs.Spelled.{Named}
use Rattle.sq_meaning.specs.Spelled as spelled
use Rattle.sq_meaning.specs.Syntax.{Cond, Expr, between, compare, in_list, is_null, like}
use Rattle.sq_binding.specs.Condition.{agreeing, cond_bound, escape_bound, text}
use Rattle.sq_binding.specs.Found.{Binding, ◌>>=◌, each, pure}
use Rattle.sq_binding.specs.NumberedCondition.{NumberedCond}
use Rattle.sq_binding.specs.Seen.{not_if}
use Rattle.sq_binding.specs.Select.{Surroundings, value}
use Rattle.sq_binder.specs.Found.{pairs}
use Rattle.sq_binder.specs.Subquery.{negated_if}
use Rattle.sq_binder.proofs.OneByOne.Behind.{Makes, made, made_on, three_made, two_made}

pub negated_made : {A : Type 0} (n : Bool) (b : Binding NumberedCond) (c : Binding A) (make : A → NumberedCond) → Makes b c make → Makes (negated_if n b) c (λ x. not_if n (make x))
negated_made true b c make m = made_on (b >>= λ x. pure (NumberedCond.negated x)) b c make (λ x. NumberedCond.negated x) (made b (λ x. NumberedCond.negated x)) m
negated_made false b c make m = m

pub negated_is : (a : Surroundings) (n : Bool) (c : Cond Named) → cond_bound a (spelled.not_if n c) ≡ negated_if n (cond_bound a c)
negated_is a true c = refl
negated_is a false c = refl

-- a predicate with NOT, where it is written
negated_as : {A : Type 0} (a : Surroundings) (n : Bool) (p : Cond Named) (c : Binding A) (make : A → NumberedCond) → Makes (cond_bound a p) c make → Makes (cond_bound a (spelled.not_if n p)) c (λ x. not_if n (make x))
negated_as a true p c make m = negated_made true (cond_bound a p) c make m
negated_as a false p c make m = m

module _ (a : Surroundings) where
  pub compare_made : (op : Comparison) (e f : Expr Named) → Makes (cond_bound a (compare op e f)) (pairs (value a e) (λ x. agreeing a x.kind f)) (λ z. NumberedCond.compare op z.0.tree z.1)
  compare_made op e f = two_made (value a e) (λ x. agreeing a x.kind f) (λ x y. NumberedCond.compare op x.tree y)

  pub between_made : (n : Bool) (e low high : Expr Named)
      → Makes (cond_bound a (spelled.not_if n (between e low high))) (pairs (value a e) (λ x. pairs (agreeing a x.kind low) (λ y. agreeing a x.kind high))) (λ z. not_if n (NumberedCond.between z.0.tree z.1.0 z.1.1))
  between_made n e low high =
      negated_as a n (between e low high) (pairs (value a e) (λ x. pairs (agreeing a x.kind low) (λ y. agreeing a x.kind high))) (λ z. NumberedCond.between z.0.tree z.1.0 z.1.1)
      (three_made (value a e) (λ x. agreeing a x.kind low) (λ x y. agreeing a x.kind high) (λ x y z. NumberedCond.between x.tree y z))

  pub in_list_made : (n : Bool) (e : Expr Named) (es : List (Expr Named))
      → Makes (cond_bound a (spelled.not_if n (in_list e es))) (pairs (value a e) (λ x. each (agreeing a x.kind) es)) (λ z. not_if n (NumberedCond.in_list z.0.tree z.1))
  in_list_made n e es =
      negated_as a n (in_list e es) (pairs (value a e) (λ x. each (agreeing a x.kind) es)) (λ z. NumberedCond.in_list z.0.tree z.1)
      (two_made (value a e) (λ x. each (agreeing a x.kind) es) (λ x ys. NumberedCond.in_list x.tree ys))

  pub like_made : (n : Bool) (e pattern : Expr Named) (escape : Option (Expr Named))
      → Makes (cond_bound a (spelled.not_if n (like e pattern escape))) (pairs (text a e) (λ x. pairs (text a pattern) (λ y. escape_bound a escape))) (λ z. not_if n (NumberedCond.like z.0 z.1.0 z.1.1))
  like_made n e pattern escape =
      negated_as a n (like e pattern escape) (pairs (text a e) (λ x. pairs (text a pattern) (λ y. escape_bound a escape))) (λ z. NumberedCond.like z.0 z.1.0 z.1.1)
      (three_made (text a e) (λ x. text a pattern) (λ x y. escape_bound a escape) (λ x y z. NumberedCond.like x y z))

  pub null_made : (n : Bool) (e : Expr Named) → Makes (cond_bound a (spelled.not_if n (is_null e))) (value a e) (λ x. not_if n (NumberedCond.is_null x.tree))
  null_made n e = negated_as a n (is_null e) (value a e) (λ x. NumberedCond.is_null x.tree) (made (value a e) (λ x. NumberedCond.is_null x.tree))
