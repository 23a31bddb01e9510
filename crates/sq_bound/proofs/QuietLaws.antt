-- Whether the truth of a bound condition is never a fault, part by part.
use Rattle.std.proofs.Common.{◌≡◌, ℕ, ◌≤◌, ◌⊎◌, inl, inr, length, take, Bool, true, false, ◌&&◌, List, [], ◌∷◌, Option, Some, None, map, refl, sym, ◌∙◌, ap}
use Rattle.std.proofs.lemmas.List.{take_all}
use Rattle.std.proofs.lemmas.List.Folds.{list_all-map}
use Rattle.std.specs.Prelude.{IsTrue, fold, not}
use Rattle.std.specs.List.{list_all}
use Rattle.std.specs.Option.{is_some, option_map}
use Rattle.sq_value.specs.declared.value.Value.{Value}
use Rattle.sq_tree.specs.declared.cond.Comparison.{Comparison}
use Rattle.sq_tree.specs.declared.expr.Sign.{Sign}
use Rattle.sq_meaning.specs.Syntax.{conds}
use Rattle.sq_meaning.specs.Quiet.{has_no_escape, is_quiet, are_quiet, is_quiet_expr}
use Rattle.sq_bound.specs.Condition.{PlacedCond, PlacedSelect, cond_of, conj_of, test_of, predicate_of, select_of, not_if, compared_with}
use Rattle.sq_bound.specs.Expression.{PlacedExpr, expr_of, operation_of, operated}
use Rattle.sq_bound.specs.declared.condition.Compared.{Compared}
use Rattle.sq_bound.specs.declared.condition.Compared.TheVariants.{Scalar, All, Any}
use Rattle.sq_bound.specs.declared.condition.BoundCond.{BoundCond, out-BoundCond}
use Rattle.sq_bound.specs.declared.condition.BoundConj.{BoundConj, out-BoundConj}
use Rattle.sq_bound.specs.declared.condition.BoundTest.{BoundTest}
use Rattle.sq_bound.specs.declared.condition.BoundSpecification.{BoundSpecification}
use Rattle.sq_bound.specs.declared.condition.Predicate.{Predicate}
use Rattle.sq_bound.specs.declared.condition.Predicate.TheVariants as bound
use Rattle.sq_bound.specs.declared.expression.BoundExpr.{BoundExpr}
use Rattle.sq_bound.specs.declared.expression.BoundExpr.TheVariants as expr
use Rattle.sq_bound.specs.declared.expression.Input.{Input}
use Rattle.sq_bound.specs.declared.expression.Operation.{Operation}
use Rattle.sq_bound.specs.declared.expression.Operator.{Operator}
use Rattle.sq_bound.specs.declared.expression.Operator.TheVariants.{Plus, Minus, Times, Over}
use Rattle.sq_bound.specs.declared.expression.Place.{Place}
use Rattle.sq_bound.proofs.ConditionLaws.{cond_of-out, conj_of-out, test_of-out, predicate_of-Compare, predicate_of-CompareQuery, predicate_of-Between, predicate_of-InQuery, predicate_of-InList, predicate_of-Like, predicate_of-Null, predicate_of-Exists, predicate_of-Bracketed}
use Rattle.sq_bound.proofs.ExpressionLaws.{expr_of-Literal, expr_of-Parameter, expr_of-User, expr_of-Column, expr_of-SetFunction, expr_of-Signed, expr_of-Operations, operation_of-out}

-- ---- expressions

quiet-Literal : (v : Value) → is_quiet_expr (expr_of [] (expr.Literal v)) ≡ true
quiet-Literal v = ap is_quiet_expr (expr_of-Literal [] v)

quiet-Parameter : (p : Input) → is_quiet_expr (expr_of [] (expr.Parameter p)) ≡ true
quiet-Parameter p = ap is_quiet_expr (expr_of-Parameter [] p)

quiet-User : is_quiet_expr (expr_of [] expr.User) ≡ true
quiet-User = ap is_quiet_expr (expr_of-User [])

quiet-Column : (p : Place) → is_quiet_expr (expr_of [] (expr.Column p)) ≡ true
quiet-Column p = ap is_quiet_expr (expr_of-Column [] p)

quiet-SetFunction : (n : ℕ) → is_quiet_expr (expr_of [] (expr.SetFunction n)) ≡ true
quiet-SetFunction n = ap is_quiet_expr (expr_of-SetFunction [] n)

pub quiet-Signed : (sign : Sign) (e : BoundExpr) → is_quiet_expr (expr_of [] (expr.Signed sign e)) ≡ is_quiet_expr (expr_of [] e)
quiet-Signed sign e = ap is_quiet_expr (expr_of-Signed [] sign e)

operated_not : (o : Operator) (a b : PlacedExpr) → is_quiet_expr (operated o a b) ≡ false
operated_not Plus a b = refl
operated_not Minus a b = refl
operated_not Times a b = refl
operated_not Over a b = refl

after_not : (e : PlacedExpr) (rest : List Operation) → is_quiet_expr e ≡ false → is_quiet_expr (fold (λ left o. operation_of [] o left) e rest) ≡ false
after_not e [] h = h
after_not e (o ∷ rest) h = after_not (operation_of [] o e) rest (ap is_quiet_expr (operation_of-out [] o e) ∙ operated_not o.operator e (expr_of [] o.operand))

quiet-alone : (first : BoundExpr) → is_quiet_expr (expr_of [] (expr.Operations first [])) ≡ is_quiet_expr (expr_of [] first)
quiet-alone first = ap is_quiet_expr (expr_of-Operations [] first [])

quiet-operated : (first : BoundExpr) (o : Operation) (rest : List Operation) → is_quiet_expr (expr_of [] (expr.Operations first (o ∷ rest))) ≡ false
quiet-operated first o rest =
    ap is_quiet_expr (expr_of-Operations [] first (o ∷ rest))
    ∙ after_not (operation_of [] o (expr_of [] first)) rest (ap is_quiet_expr (operation_of-out [] o (expr_of [] first)) ∙ operated_not o.operator (expr_of [] first) (expr_of [] o.operand))

pub no_operation : (first : BoundExpr) (rest : List Operation) → rest ≡ [] → is_quiet_expr (expr_of [] (expr.Operations first rest)) ≡ is_quiet_expr (expr_of [] first)
no_operation first rest none = ap (λ (os : List Operation). is_quiet_expr (expr_of [] (expr.Operations first os))) none ∙ quiet-alone first

pub operations : (first : BoundExpr) (rest : List Operation) → (rest ≡ [] → ⊥) → is_quiet_expr (expr_of [] (expr.Operations first rest)) ≡ false
operations first [] some = absurd (some refl)
operations first (o ∷ rest) some = quiet-operated first o rest

-- an expression that is no operation
pub alone : (e : BoundExpr)
    → ((v : Value) × (e ≡ expr.Literal v)) ⊎ (((p : Input) × (e ≡ expr.Parameter p)) ⊎ ((e ≡ expr.User) ⊎ (((p : Place) × (e ≡ expr.Column p)) ⊎ ((n : ℕ) × (e ≡ expr.SetFunction n)))))
    → is_quiet_expr (expr_of [] e) ≡ true
alone e (inl (v, is)) = ap (λ x. is_quiet_expr (expr_of [] x)) is ∙ quiet-Literal v
alone e (inr (inl (p, is))) = ap (λ x. is_quiet_expr (expr_of [] x)) is ∙ quiet-Parameter p
alone e (inr (inr (inl is))) = ap (λ x. is_quiet_expr (expr_of [] x)) is ∙ quiet-User
alone e (inr (inr (inr (inl (p, is))))) = ap (λ x. is_quiet_expr (expr_of [] x)) is ∙ quiet-Column p
alone e (inr (inr (inr (inr (n, is))))) = ap (λ x. is_quiet_expr (expr_of [] x)) is ∙ quiet-SetFunction n

-- ---- predicates

quiet_not : (written : Bool) (c : PlacedCond) → is_quiet (not_if written c) ≡ is_quiet c
quiet_not true c = refl
quiet_not false c = refl

compared_not : (quantifier : Compared) (op : Comparison) (a : PlacedExpr) (q : PlacedSelect) → is_quiet (compared_with quantifier op a q) ≡ false
compared_not Scalar op a q = refl
compared_not All op a q = refl
compared_not Any op a q = refl

pub quiet-Compare : (op : Comparison) (a b : BoundExpr) → is_quiet (predicate_of [] (bound.Compare op a b)) ≡ (is_quiet_expr (expr_of [] a) && is_quiet_expr (expr_of [] b))
quiet-Compare op a b = ap is_quiet (predicate_of-Compare [] op a b)

quiet-CompareQuery : (op : Comparison) (q : Compared) (a : BoundExpr) (s : BoundSpecification) → is_quiet (predicate_of [] (bound.CompareQuery op q a s)) ≡ false
quiet-CompareQuery op q a s = ap is_quiet (predicate_of-CompareQuery [] op q a s) ∙ compared_not q op (expr_of [] a) (select_of s)

pub quiet-Between : (n : Bool) (a low high : BoundExpr) → is_quiet (predicate_of [] (bound.Between n a low high)) ≡ (is_quiet_expr (expr_of [] a) && is_quiet_expr (expr_of [] low) && is_quiet_expr (expr_of [] high))
quiet-Between n a low high = ap is_quiet (predicate_of-Between [] n a low high) ∙ quiet_not n _

quiet-InQuery : (n : Bool) (a : BoundExpr) (s : BoundSpecification) → is_quiet (predicate_of [] (bound.InQuery n a s)) ≡ false
quiet-InQuery n a s = ap is_quiet (predicate_of-InQuery [] n a s) ∙ quiet_not n _

pub quiet-InList : (n : Bool) (a : BoundExpr) (es : List BoundExpr) → is_quiet (predicate_of [] (bound.InList n a es)) ≡ (is_quiet_expr (expr_of [] a) && list_all (λ e. is_quiet_expr (expr_of [] e)) es)
quiet-InList n a es = ap is_quiet (predicate_of-InList [] n a es) ∙ quiet_not n _ ∙ ap (λ b. is_quiet_expr (expr_of [] a) && b) (list_all-map is_quiet_expr (expr_of []) es)

no_escape : (escape : Option BoundExpr) → has_no_escape (option_map (expr_of []) escape) ≡ has_no_escape escape
no_escape None = refl
no_escape (Some e) = refl

pub is_none_so : (escape : Option BoundExpr) (r : Bool) → is_some escape ≡ not r → r ≡ has_no_escape escape
is_none_so None true is = refl
is_none_so None false is = cc
is_none_so (Some e) true is = cc
is_none_so (Some e) false is = refl

pub quiet-Like : (n : Bool) (text pattern : BoundExpr) (escape : Option BoundExpr) → is_quiet (predicate_of [] (bound.Like n text pattern escape)) ≡ (is_quiet_expr (expr_of [] text) && is_quiet_expr (expr_of [] pattern) && has_no_escape escape)
quiet-Like n text pattern escape =
    ap is_quiet (predicate_of-Like [] n text pattern escape) ∙ quiet_not n _ ∙ ap (λ b. is_quiet_expr (expr_of [] text) && is_quiet_expr (expr_of [] pattern) && b) (no_escape escape)

pub quiet-Null : (n : Bool) (a : BoundExpr) → is_quiet (predicate_of [] (bound.Null n a)) ≡ is_quiet_expr (expr_of [] a)
quiet-Null n a = ap is_quiet (predicate_of-Null [] n a) ∙ quiet_not n _

quiet-Exists : (s : BoundSpecification) → is_quiet (predicate_of [] (bound.Exists s)) ≡ false
quiet-Exists s = ap is_quiet (predicate_of-Exists [] s)

pub quiet-Bracketed : (c : BoundCond) → is_quiet (predicate_of [] (bound.Bracketed c)) ≡ is_quiet (cond_of [] c)
quiet-Bracketed c = ap is_quiet (predicate_of-Bracketed [] c)

-- a predicate with a subquery
pub with_subquery : (p : Predicate)
    → ((op : Comparison) × (q : Compared) × (a : BoundExpr) × (s : BoundSpecification) × (p ≡ bound.CompareQuery op q a s)) ⊎ (((n : Bool) × (a : BoundExpr) × (s : BoundSpecification) × (p ≡ bound.InQuery n a s)) ⊎ ((s : BoundSpecification) × (p ≡ bound.Exists s)))
    → is_quiet (predicate_of [] p) ≡ false
with_subquery p (inl (op, q, a, s, is)) = ap (λ x. is_quiet (predicate_of [] x)) is ∙ quiet-CompareQuery op q a s
with_subquery p (inr (inl (n, a, s, is))) = ap (λ x. is_quiet (predicate_of [] x)) is ∙ quiet-InQuery n a s
with_subquery p (inr (inr (s, is))) = ap (λ x. is_quiet (predicate_of [] x)) is ∙ quiet-Exists s

-- ---- AND and OR

joined : {X : Type 0} (tree : X → PlacedCond) (xs : List X) → are_quiet (conds (map tree xs)) ≡ list_all (λ x. is_quiet (tree x)) xs
joined tree [] = refl
joined tree (x ∷ xs) = ap (λ b. is_quiet (tree x) && b) (joined tree xs)

quiet_test : (t : BoundTest) → is_quiet (test_of [] t) ≡ is_quiet (predicate_of [] t.predicate)
quiet_test t = ap is_quiet (test_of-out [] t) ∙ quiet_not t.negated (predicate_of [] t.predicate)

pub quiet_terms : (c : BoundCond) → is_quiet (cond_of [] c) ≡ list_all (λ t. is_quiet (conj_of [] t)) (out-BoundCond c).terms
quiet_terms c = ap is_quiet (cond_of-out [] c) ∙ joined (conj_of []) (out-BoundCond c).terms

tests_same : (ts : List BoundTest) → list_all (λ t. is_quiet (test_of [] t)) ts ≡ list_all (λ t. is_quiet (predicate_of [] t.predicate)) ts
tests_same [] = refl
tests_same (t ∷ ts) = (λ i. quiet_test t i && tests_same ts i)

pub quiet_tests : (c : BoundConj) → is_quiet (conj_of [] c) ≡ list_all (λ t. is_quiet (predicate_of [] t.predicate)) (out-BoundConj c).tests
quiet_tests c = ap is_quiet (conj_of-out [] c) ∙ joined (test_of []) (out-BoundConj c).tests ∙ tests_same (out-BoundConj c).tests

-- ---- one after the other

pub both_first : {p a b x y : Bool} → p ≡ (x && y) → a ≡ x → a ≡ true → b ≡ y → b ≡ p
both_first {p} {a} {b} {x} {y} is first passes second = second ∙ sym (is ∙ ap (λ z. z && y) (sym first ∙ passes))

pub not_first : {p a x : Bool} (y : Bool) → p ≡ (x && y) → a ≡ x → a ≡ false → a ≡ p
not_first y is first fails = fails ∙ sym (is ∙ ap (λ z. z && y) (sym first ∙ fails))

pub false_not : (b : Bool) → b ≡ false → IsTrue b → ⊥
false_not b none holds = cc

-- the whole list is taken
pub all_taken : {X : Type 0} (test : X → Bool) (xs : List X) (i : ℕ) → length xs ≤ i → list_all test (take i xs) ≡ true → list_all test xs ≡ true
all_taken test xs i enough passes = ap (list_all test) (sym (take_all i xs enough)) ∙ passes
