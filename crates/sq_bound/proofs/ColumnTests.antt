-- Tests `column = x`, which name the column of the row.
use Rattle.std.proofs.Common.{◌≡◌, ℕ, Bool, true, false, ◌&&◌, List, [], ◌∷◌, ◌⊎◌, inl, inr, Option, Some, None, refl, sym, ap, subst, ◌∙◌}
use Rattle.std.specs.Prelude.{fold, if◌then◌else◌, nat_eq}
use Rattle.std.proofs.lemmas.Bool.{eqb-true}
use Rattle.sq_value.specs.declared.value.Value.{Value}
use Rattle.sq_tree.specs.declared.cond.Comparison.{Comparison}
use Rattle.sq_tree.specs.declared.cond.Comparison.TheVariants as comparison
use Rattle.sq_tree.specs.declared.expr.Sign.{Sign}
use Rattle.sq_meaning.specs.Syntax.{compare, literal, parameter, user, column, count_rows, set_function, signed, added, scaled, bracketed}
use Rattle.sq_bound.specs.Condition.{PlacedCond, PlacedSelect, compared_with, not_if, predicate_of, test_of}
use Rattle.sq_bound.specs.Expression.{PlacedExpr, expr_of, operated, operation_of}
use Rattle.sq_bound.specs.Keyed.{AreEqualled, column_named, is_constant, is_literal, own_column}
use Rattle.sq_bound.specs.declared.condition.BoundCond.{BoundCond}
use Rattle.sq_bound.specs.declared.condition.BoundConj.{BoundConj}
use Rattle.sq_bound.specs.declared.condition.BoundSpecification.{BoundSpecification}
use Rattle.sq_bound.specs.declared.condition.BoundTest.{BoundTest}
use Rattle.sq_bound.specs.declared.condition.Compared.{Compared}
use Rattle.sq_bound.specs.declared.condition.Compared.TheVariants.{All, Any, Scalar}
use Rattle.sq_bound.specs.declared.condition.Grouping.{Grouping}
use Rattle.sq_bound.specs.declared.condition.Predicate.{Predicate, Predicate-F, out-Predicate, roll-Predicate, roll-out-Predicate}
use Rattle.sq_bound.specs.declared.condition.Predicate.TheVariants as bound
use Rattle.sq_bound.specs.declared.condition.Predicate.TheOpen as predicate
use Rattle.sq_bound.specs.declared.expression.BoundExpr.{BoundExpr, BoundExpr-F, out-BoundExpr, roll-BoundExpr, roll-out-BoundExpr}
use Rattle.sq_bound.specs.declared.expression.BoundExpr.TheVariants as expr
use Rattle.sq_bound.specs.declared.expression.BoundExpr.TheOpen as layer
use Rattle.sq_bound.specs.declared.expression.Input.{Input}
use Rattle.sq_bound.specs.declared.expression.Operation.{Operation}
use Rattle.sq_bound.specs.declared.expression.Operator.{Operator}
use Rattle.sq_bound.specs.declared.expression.Operator.TheVariants.{Plus, Minus, Times, Over}
use Rattle.sq_bound.specs.declared.expression.Place.{Place}
use Rattle.sq_bound.proofs.ConditionLaws.{cond_of-out, test_of-out, predicate_of-Compare, predicate_of-CompareQuery, predicate_of-Between, predicate_of-InQuery, predicate_of-InList, predicate_of-Like, predicate_of-Null, predicate_of-Exists, predicate_of-Bracketed}
use Rattle.sq_bound.proofs.ExpressionLaws.{expr_of-Literal, expr_of-Parameter, expr_of-User, expr_of-Column, expr_of-SetFunction, expr_of-Signed, expr_of-Operations, operation_of-out}

-- ---- the column of the row that an expression is

abbrev pub column_of : BoundExpr → Option ℕ
column_of e = own_column (expr_of [] e)

is_so : (e tree : BoundExpr) (x : PlacedExpr) (o : Option ℕ) → e ≡ tree → expr_of [] tree ≡ x → own_column x ≡ o → column_of e ≡ o
is_so e tree x o is means gives = ap column_of is ∙ ap own_column means ∙ gives

pub column_here : (e : BoundExpr) (p : Place) → e ≡ expr.Column p → p.depth ≡ 0 → column_of e ≡ Some p.column
column_here e p is depth = is_so e (expr.Column p) _ (Some p.column) is (expr_of-Column [] p) (λ i. if nat_eq (depth i) 0 then Some p.column else None)

further : (d n : ℕ) → (d ≡ 0 → ⊥) → (let o : Option ℕ = if nat_eq d 0 then Some n else None in o) ≡ None
further d n h = by (nat_eq d 0) refl
  where
    by : (b : Bool) → nat_eq d 0 ≡ b → (let o : Option ℕ = if b then Some n else None in o) ≡ None
    by true e = absurd (h (eqb-true d 0 e))
    by false e = refl

pub column_further : (e : BoundExpr) (p : Place) → e ≡ expr.Column p → (p.depth ≡ 0 → ⊥) → column_of e ≡ None
column_further e p is depth = is_so e (expr.Column p) _ None is (expr_of-Column [] p) (further p.depth p.column depth)

-- an operand with no operator behind it
pub operand_alone : {X : Type 0} (f : PlacedExpr → X) (e first : BoundExpr) (rest : List Operation) → e ≡ expr.Operations first rest → rest ≡ [] → f (expr_of [] e) ≡ f (expr_of [] first)
operand_alone f e first rest is none =
    ap (λ (x : BoundExpr). f (expr_of [] x)) (is ∙ ap (λ (os : List Operation). expr.Operations first os) none) ∙ ap f (expr_of-Operations [] first [])

operated_last : {X : Type 0} (f : PlacedExpr → X) (o : X) → ((op : Operator) (a b : PlacedExpr) → f (operated op a b) ≡ o) → (x : PlacedExpr) (rest : List Operation) → f x ≡ o
    → f (fold (λ left o. operation_of [] o left) x rest) ≡ o
operated_last f o made x [] h = h
operated_last f o made x (y ∷ rest) h = operated_last f o made (operation_of [] y x) rest (ap f (operation_of-out [] y x) ∙ made y.operator x (expr_of [] y.operand))

-- what an operator makes
operated_as : {X : Type 0} (f : PlacedExpr → X) (o : X) → ((op : Operator) (a b : PlacedExpr) → f (operated op a b) ≡ o) → (e first : BoundExpr) (rest : List Operation)
    → e ≡ expr.Operations first rest → (rest ≡ [] → ⊥) → f (expr_of [] e) ≡ o
operated_as f o made e first [] is some = absurd (some refl)
operated_as f o made e first (y ∷ rest) is some =
    ap (λ (x : BoundExpr). f (expr_of [] x)) is ∙ ap f (expr_of-Operations [] first (y ∷ rest))
    ∙ operated_last f o made (operation_of [] y (expr_of [] first)) rest (ap f (operation_of-out [] y (expr_of [] first)) ∙ made y.operator (expr_of [] first) (expr_of [] y.operand))

operated_none : (o : Operator) (a b : PlacedExpr) → own_column (operated o a b) ≡ None
operated_none Plus a b = refl
operated_none Minus a b = refl
operated_none Times a b = refl
operated_none Over a b = refl

-- an expression with an operation is no column
pub operated_column : (e first : BoundExpr) (rest : List Operation) → e ≡ expr.Operations first rest → (rest ≡ [] → ⊥) → column_of e ≡ None
operated_column = operated_as own_column None operated_none

other_layer : (y : BoundExpr-F BoundExpr Operation) → ((p : Place) → roll-BoundExpr y ≡ expr.Column p → ⊥) → ((first : BoundExpr) (rest : List Operation) → roll-BoundExpr y ≡ expr.Operations first rest → ⊥) → column_of (roll-BoundExpr y) ≡ None
other_layer (layer.Literal v) n1 n2 = is_so _ _ _ None (expr.rolls-Literal v) (expr_of-Literal [] v) refl
other_layer (layer.Parameter p) n1 n2 = is_so _ _ _ None (expr.rolls-Parameter p) (expr_of-Parameter [] p) refl
other_layer layer.User n1 n2 = is_so _ _ _ None expr.rolls-User (expr_of-User []) refl
other_layer (layer.Column p) n1 n2 = absurd (n1 p (expr.rolls-Column p))
other_layer (layer.SetFunction n) n1 n2 = is_so _ _ _ None (expr.rolls-SetFunction n) (expr_of-SetFunction [] n) refl
other_layer (layer.Signed sign e) n1 n2 = is_so _ _ _ None (expr.rolls-Signed sign e) (expr_of-Signed [] sign e) refl
other_layer (layer.Operations first rest) n1 n2 = absurd (n2 first rest (expr.rolls-Operations first rest))

pub other_column : (e : BoundExpr) → ((p : Place) → e ≡ expr.Column p → ⊥) → ((first : BoundExpr) (rest : List Operation) → e ≡ expr.Operations first rest → ⊥) → column_of e ≡ None
other_column e n1 n2 =
    let same = roll-out-BoundExpr e in
    subst (λ (x : BoundExpr). column_of x ≡ None) same (other_layer (out-BoundExpr e) (λ p is. n1 p (sym same ∙ is)) (λ first rest is. n2 first rest (sym same ∙ is)))

-- ---- literals and parameters

abbrev pub literal_of : BoundExpr → Bool
literal_of e = is_literal (expr_of [] e)

abbrev pub constant_of : BoundExpr → Bool
constant_of e = is_constant (expr_of [] e)

seen_as : {X : Type 0} (f : PlacedExpr → X) (e tree : BoundExpr) (x : PlacedExpr) → e ≡ tree → expr_of [] tree ≡ x → f (expr_of [] e) ≡ f x
seen_as f e tree x is means = ap (λ (t : BoundExpr). f (expr_of [] t)) is ∙ ap f means

pub literal_so : (e : BoundExpr) (v : Value) → e ≡ expr.Literal v → literal_of e ≡ true
literal_so e v is = seen_as is_literal e _ _ is (expr_of-Literal [] v)

pub no_literal : (e : BoundExpr)
    → ((p : Input) × (e ≡ expr.Parameter p)) ⊎ ((e ≡ expr.User) ⊎ (((p : Place) × (e ≡ expr.Column p)) ⊎ ((n : ℕ) × (e ≡ expr.SetFunction n))))
    → literal_of e ≡ false
no_literal e (inl (p, is)) = seen_as is_literal e _ _ is (expr_of-Parameter [] p)
no_literal e (inr (inl is)) = seen_as is_literal e _ _ is (expr_of-User [])
no_literal e (inr (inr (inl (p, is)))) = seen_as is_literal e _ _ is (expr_of-Column [] p)
no_literal e (inr (inr (inr (n, is)))) = seen_as is_literal e _ _ is (expr_of-SetFunction [] n)

pub signed_no_literal : (e : BoundExpr) (sign : Sign) (operand : BoundExpr) → e ≡ expr.Signed sign operand → literal_of e ≡ false
signed_no_literal e sign operand is = seen_as is_literal e _ _ is (expr_of-Signed [] sign operand)

pub constant_so : (e : BoundExpr) → ((v : Value) × (e ≡ expr.Literal v)) ⊎ (((p : Input) × (e ≡ expr.Parameter p)) ⊎ ((n : ℕ) × (e ≡ expr.SetFunction n))) → constant_of e ≡ true
constant_so e (inl (v, is)) = seen_as is_constant e _ _ is (expr_of-Literal [] v)
constant_so e (inr (inl (p, is))) = seen_as is_constant e _ _ is (expr_of-Parameter [] p)
constant_so e (inr (inr (n, is))) = seen_as is_constant e _ _ is (expr_of-SetFunction [] n)

pub no_constant : (e : BoundExpr) → (e ≡ expr.User) ⊎ ((p : Place) × (e ≡ expr.Column p)) → constant_of e ≡ false
no_constant e (inl is) = seen_as is_constant e _ _ is (expr_of-User [])
no_constant e (inr (p, is)) = seen_as is_constant e _ _ is (expr_of-Column [] p)

pub constant_signed : (e : BoundExpr) (sign : Sign) (operand : BoundExpr) → e ≡ expr.Signed sign operand → constant_of e ≡ literal_of operand
constant_signed e sign operand is = seen_as is_constant e _ _ is (expr_of-Signed [] sign operand)

operated_no_literal : (o : Operator) (a b : PlacedExpr) → is_literal (operated o a b) ≡ false
operated_no_literal Plus a b = refl
operated_no_literal Minus a b = refl
operated_no_literal Times a b = refl
operated_no_literal Over a b = refl

pub operated_literal : (e first : BoundExpr) (rest : List Operation) → e ≡ expr.Operations first rest → (rest ≡ [] → ⊥) → literal_of e ≡ false
operated_literal = operated_as is_literal false operated_no_literal

operated_no_constant : (o : Operator) (a b : PlacedExpr) → is_constant (operated o a b) ≡ false
operated_no_constant Plus a b = refl
operated_no_constant Minus a b = refl
operated_no_constant Times a b = refl
operated_no_constant Over a b = refl

pub operated_constant : (e first : BoundExpr) (rest : List Operation) → e ≡ expr.Operations first rest → (rest ≡ [] → ⊥) → constant_of e ≡ false
operated_constant = operated_as is_constant false operated_no_constant

-- ---- what a test names

-- a test of two sides
pub compared : (t : BoundTest) (op : Comparison) (left right : BoundExpr) → t.negated ≡ false → t.predicate ≡ bound.Compare op left right → test_of [] t ≡ compare op (expr_of [] left) (expr_of [] right)
compared t op left right positive is =
    test_of-out [] t ∙ ap (λ (b : Bool). not_if b (predicate_of [] t.predicate)) positive ∙ ap (predicate_of []) is ∙ predicate_of-Compare [] op left right

pub negated_names : (t : BoundTest) → t.negated ≡ true → column_named (test_of [] t) ≡ None
negated_names t negative = ap column_named (test_of-out [] t ∙ ap (λ (b : Bool). not_if b (predicate_of [] t.predicate)) negative)

other_operator : (op : Comparison) (l x : PlacedExpr) → (op ≡ comparison.Equal → ⊥) → column_named (compare op l x) ≡ None
other_operator comparison.Equal l x h = absurd (h refl)
other_operator comparison.NotEqual l x h = refl
other_operator comparison.Less l x h = refl
other_operator comparison.Greater l x h = refl
other_operator comparison.LessOrEqual l x h = refl
other_operator comparison.GreaterOrEqual l x h = refl

pub unequal_names : (t : BoundTest) (op : Comparison) (left right : BoundExpr) → t.negated ≡ false → t.predicate ≡ bound.Compare op left right → (op ≡ comparison.Equal → ⊥) → column_named (test_of [] t) ≡ None
unequal_names t op left right positive is other = ap column_named (compared t op left right positive is) ∙ other_operator op (expr_of [] left) (expr_of [] right) other

abbrev NamesNone : Predicate → Type 0
NamesNone p = (negative : Bool) → column_named (not_if negative (predicate_of [] p)) ≡ None

none_so : (p tree : Predicate) (c : PlacedCond) → p ≡ tree → predicate_of [] tree ≡ c → ((negative : Bool) → column_named (not_if negative c) ≡ None) → NamesNone p
none_so p tree c is means none negative = ap (λ (q : Predicate). column_named (not_if negative (predicate_of [] q))) is ∙ ap (λ (x : PlacedCond). column_named (not_if negative x)) means ∙ none negative

either : (c : PlacedCond) → column_named c ≡ None → (negative : Bool) → column_named (not_if negative c) ≡ None
either c none true = refl
either c none false = none

with_query : (q : Compared) (op : Comparison) (x : PlacedExpr) (s : PlacedSelect) → column_named (compared_with q op x s) ≡ None
with_query Scalar op x s = refl
with_query All op x s = refl
with_query Any op x s = refl

other_predicate : (y : Predicate-F Predicate BoundCond BoundConj BoundSpecification BoundTest Grouping) → ((op : Comparison) (a b : BoundExpr) → roll-Predicate y ≡ bound.Compare op a b → ⊥) → NamesNone (roll-Predicate y)
other_predicate (predicate.Compare op a b) n = absurd (n op a b (bound.rolls-Compare op a b))
other_predicate (predicate.CompareQuery op q a s) n =
    none_so _ _ _ (bound.rolls-CompareQuery op q a s) (predicate_of-CompareQuery [] op q a s) (either _ (with_query q op (expr_of [] a) _))
other_predicate (predicate.Between w a low high) n = none_so _ _ _ (bound.rolls-Between w a low high) (predicate_of-Between [] w a low high) (either _ (either _ refl w))
other_predicate (predicate.InQuery w a s) n = none_so _ _ _ (bound.rolls-InQuery w a s) (predicate_of-InQuery [] w a s) (either _ (either _ refl w))
other_predicate (predicate.InList w a es) n = none_so _ _ _ (bound.rolls-InList w a es) (predicate_of-InList [] w a es) (either _ (either _ refl w))
other_predicate (predicate.Like w text pattern escape) n = none_so _ _ _ (bound.rolls-Like w text pattern escape) (predicate_of-Like [] w text pattern escape) (either _ (either _ refl w))
other_predicate (predicate.Null w a) n = none_so _ _ _ (bound.rolls-Null w a) (predicate_of-Null [] w a) (either _ (either _ refl w))
other_predicate (predicate.Exists s) n = none_so _ _ _ (bound.rolls-Exists s) (predicate_of-Exists [] s) (either _ refl)
other_predicate (predicate.Bracketed c) n = none_so _ _ _ (bound.rolls-Bracketed c) (predicate_of-Bracketed [] c ∙ cond_of-out [] c) (either _ refl)

pub other_names : (t : BoundTest) → ((op : Comparison) (a b : BoundExpr) → t.predicate ≡ bound.Compare op a b → ⊥) → column_named (test_of [] t) ≡ None
other_names t n =
    let same = roll-out-Predicate t.predicate in
    ap column_named (test_of-out [] t) ∙ subst NamesNone same (other_predicate (out-Predicate t.predicate) (λ op a b is. n op a b (sym same ∙ is))) t.negated

-- a test that says that two sides are equal names the column that the left one is, if the right one is a constant
either_none : (b : Bool) → (let o : Option ℕ = if b then None else None in o) ≡ None
either_none true = refl
either_none false = refl

named_if : (l x : PlacedExpr) (b : Bool) → is_constant x ≡ b → (let o : Option ℕ = if b then own_column l else None in o) ≡ column_named (compare comparison.Equal l x)
named_if (column p) x true e = by (nat_eq p.depth 0)
  where
    by : (b : Bool) → (let o : Option ℕ = if b then Some p.column else None in o) ≡ (if b && is_constant x then Some p.column else None)
    by true = λ i. if sym e i then Some p.column else None
    by false = refl
named_if (column p) x false e = by (nat_eq p.depth 0)
  where
    by : (b : Bool) → None ≡ (let o : Option ℕ = if b && is_constant x then Some p.column else None in o)
    by true = λ i. if sym e i then Some p.column else None
    by false = refl
named_if (literal v) x b e = either_none b
named_if (parameter p) x b e = either_none b
named_if user x b e = either_none b
named_if count_rows x b e = either_none b
named_if (set_function f d a) x b e = either_none b
named_if (signed s a) x b e = either_none b
named_if (added s l r) x b e = either_none b
named_if (scaled s l r) x b e = either_none b
named_if (bracketed a) x b e = either_none b

pub sides_named : (t : BoundTest) (left right : BoundExpr) (b : Bool) → AreEqualled t left right → constant_of right ≡ b → (let o : Option ℕ = if b then column_of left else None in o) ≡ column_named (test_of [] t)
sides_named t left right b is constant =
    named_if (expr_of [] left) (expr_of [] right) b constant ∙ sym (ap column_named (compared t comparison.Equal left right is.0 is.1))
