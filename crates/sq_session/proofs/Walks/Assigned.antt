-- Whether bound conditions read an assigned column, part by part.
use Rattle.std.proofs.Common.{◌≡◌, ℕ, ◌≤◌, length, take, Bool, true, false, ◌||◌, List, [], ◌∷◌, Option, Some, map, refl, sym, ◌∙◌, ap}
use Rattle.std.proofs.lemmas.List.{take_all}
use Rattle.std.proofs.lemmas.List.Folds.{list_any-append}
use Rattle.std.specs.Prelude.{fold}
use Rattle.std.specs.List.{list_any}
use Rattle.std.specs.Option.{option_map}
use Rattle.sq_value.proofs.Truths.{or_assoc, or_false}
use Rattle.sq_value.specs.declared.value.Value.{Value}
use Rattle.sq_value.proofs.Cutting.{any_map}
use Rattle.sq_tree.specs.declared.cond.Comparison.{Comparison}
use Rattle.sq_tree.specs.declared.expr.Sign.{Sign}
use Rattle.sq_meaning.specs.Syntax.{conds}
use Rattle.sq_bound.specs.Condition.{PlacedCond, PlacedSelect, cond_of, conj_of, test_of, predicate_of, select_of, not_if, compared_with}
use Rattle.sq_bound.specs.Expression.{PlacedExpr, expr_of, operation_of, operated}
use Rattle.sq_bound.specs.declared.condition.Compared.{Compared}
use Rattle.sq_bound.specs.declared.condition.Compared.TheVariants.{Scalar, All, Any}
use Rattle.sq_bound.specs.declared.condition.BoundCond.{BoundCond, out-BoundCond}
use Rattle.sq_bound.specs.declared.condition.BoundConj.{BoundConj, out-BoundConj}
use Rattle.sq_bound.specs.declared.condition.BoundTest.{BoundTest}
use Rattle.sq_bound.specs.declared.condition.BoundSpecification.{BoundSpecification}
use Rattle.sq_bound.specs.declared.condition.Predicate.TheVariants as bound
use Rattle.sq_bound.specs.declared.expression.BoundExpr.{BoundExpr}
use Rattle.sq_bound.specs.declared.expression.BoundExpr.TheVariants as expr
use Rattle.sq_bound.specs.declared.expression.Input.{Input}
use Rattle.sq_bound.specs.declared.expression.Operation.{Operation}
use Rattle.sq_bound.specs.declared.expression.Operator.{Operator}
use Rattle.sq_bound.specs.declared.expression.Operator.TheVariants.{Plus, Minus, Times, Over}
use Rattle.sq_bound.specs.declared.expression.Place.{Place}
use Rattle.sq_bound.specs.declared.statement.BoundAssignment.{BoundAssignment}
use Rattle.sq_bound.proofs.ConditionLaws.{cond_of-out, conj_of-out, test_of-out, predicate_of-Compare, predicate_of-CompareQuery, predicate_of-Between, predicate_of-InQuery, predicate_of-InList, predicate_of-Like, predicate_of-Null, predicate_of-Exists, predicate_of-Bracketed}
use Rattle.sq_bound.proofs.ExpressionLaws.{expr_of-Literal, expr_of-Parameter, expr_of-User, expr_of-Column, expr_of-SetFunction, expr_of-Signed, expr_of-Operations, operation_of-out}
use Rattle.sq_query.specs.Target.{and_own}
use Rattle.sq_session.specs.Reads.{cond_reads, conds_read, escape_reads, expr_reads, is_assigned, one_reads}

-- ---- expressions

pub reads_literal : (sets : List BoundAssignment) (v : Value) → expr_reads sets (expr_of [] (expr.Literal v)) ≡ false
reads_literal sets v = ap (expr_reads sets) (expr_of-Literal [] v)

pub reads_parameter : (sets : List BoundAssignment) (p : Input) → expr_reads sets (expr_of [] (expr.Parameter p)) ≡ false
reads_parameter sets p = ap (expr_reads sets) (expr_of-Parameter [] p)

pub reads_user : (sets : List BoundAssignment) → expr_reads sets (expr_of [] expr.User) ≡ false
reads_user sets = ap (expr_reads sets) (expr_of-User [])

pub reads_column : (sets : List BoundAssignment) (p : Place) → expr_reads sets (expr_of [] (expr.Column p)) ≡ is_assigned sets p.column
reads_column sets p = ap (expr_reads sets) (expr_of-Column [] p)

pub reads_function : (sets : List BoundAssignment) (n : ℕ) → expr_reads sets (expr_of [] (expr.SetFunction n)) ≡ false
reads_function sets n = ap (expr_reads sets) (expr_of-SetFunction [] n)

pub reads_signed : (sets : List BoundAssignment) (sign : Sign) (e : BoundExpr) → expr_reads sets (expr_of [] (expr.Signed sign e)) ≡ expr_reads sets (expr_of [] e)
reads_signed sets sign e = ap (expr_reads sets) (expr_of-Signed [] sign e)

operated_reads : (sets : List BoundAssignment) (o : Operator) (a b : PlacedExpr) → expr_reads sets (operated o a b) ≡ (expr_reads sets a || expr_reads sets b)
operated_reads sets Plus a b = refl
operated_reads sets Minus a b = refl
operated_reads sets Times a b = refl
operated_reads sets Over a b = refl

after_reads : (sets : List BoundAssignment) (e : PlacedExpr) (rest : List Operation)
    → expr_reads sets (fold (λ left o. operation_of [] o left) e rest) ≡ (expr_reads sets e || list_any (λ o. expr_reads sets (expr_of [] o.operand)) rest)
after_reads sets e [] = by (expr_reads sets e)
  where
    by : (b : Bool) → b ≡ (b || false)
    by true = refl
    by false = refl
after_reads sets e (o ∷ rest) =
    let others = list_any (λ p. expr_reads sets (expr_of [] p.operand)) rest in
    after_reads sets (operation_of [] o e) rest
    ∙ ap (λ x. expr_reads sets x || others) (operation_of-out [] o e)
    ∙ ap (λ b. b || others) (operated_reads sets o.operator e (expr_of [] o.operand))
    ∙ or_assoc (expr_reads sets e) (expr_reads sets (expr_of [] o.operand)) others

pub reads_operations : (sets : List BoundAssignment) (first : BoundExpr) (rest : List Operation)
    → expr_reads sets (expr_of [] (expr.Operations first rest)) ≡ (expr_reads sets (expr_of [] first) || list_any (λ o. expr_reads sets (expr_of [] o.operand)) rest)
reads_operations sets first rest = ap (expr_reads sets) (expr_of-Operations [] first rest) ∙ after_reads sets (expr_of [] first) rest

pub ruleset expr_levels = (reads_literal, reads_parameter, reads_user, reads_column, reads_function, reads_signed, reads_operations)

-- ---- predicates

reads_not : (sets : List BoundAssignment) (written : Bool) (c : PlacedCond) → cond_reads sets (not_if written c) ≡ cond_reads sets c
reads_not sets true c = refl
reads_not sets false c = refl

compared_reads : (sets : List BoundAssignment) (quantifier : Compared) (op : Comparison) (a : PlacedExpr) (q : PlacedSelect) → cond_reads sets (compared_with quantifier op a q) ≡ true
compared_reads sets Scalar op a q = refl
compared_reads sets All op a q = refl
compared_reads sets Any op a q = refl

pub reads_compare : (sets : List BoundAssignment) (op : Comparison) (a b : BoundExpr) → cond_reads sets (predicate_of [] (bound.Compare op a b)) ≡ (expr_reads sets (expr_of [] a) || expr_reads sets (expr_of [] b))
reads_compare sets op a b = ap (cond_reads sets) (predicate_of-Compare [] op a b)

pub reads_compare_query : (sets : List BoundAssignment) (op : Comparison) (q : Compared) (a : BoundExpr) (s : BoundSpecification) → cond_reads sets (predicate_of [] (bound.CompareQuery op q a s)) ≡ true
reads_compare_query sets op q a s = ap (cond_reads sets) (predicate_of-CompareQuery [] op q a s) ∙ compared_reads sets q op (expr_of [] a) (select_of s)

pub reads_between : (sets : List BoundAssignment) (n : Bool) (a low high : BoundExpr)
    → cond_reads sets (predicate_of [] (bound.Between n a low high)) ≡ (expr_reads sets (expr_of [] a) || expr_reads sets (expr_of [] low) || expr_reads sets (expr_of [] high))
reads_between sets n a low high = ap (cond_reads sets) (predicate_of-Between [] n a low high) ∙ reads_not sets n _

pub reads_in_query : (sets : List BoundAssignment) (n : Bool) (a : BoundExpr) (s : BoundSpecification) → cond_reads sets (predicate_of [] (bound.InQuery n a s)) ≡ true
reads_in_query sets n a s = ap (cond_reads sets) (predicate_of-InQuery [] n a s) ∙ reads_not sets n _

pub reads_in_list : (sets : List BoundAssignment) (n : Bool) (a : BoundExpr) (es : List BoundExpr)
    → cond_reads sets (predicate_of [] (bound.InList n a es)) ≡ (expr_reads sets (expr_of [] a) || list_any (λ e. expr_reads sets (expr_of [] e)) es)
reads_in_list sets n a es = ap (cond_reads sets) (predicate_of-InList [] n a es) ∙ reads_not sets n _ ∙ ap (λ b. expr_reads sets (expr_of [] a) || b) (any_map (expr_reads sets) (expr_of []) es)

pub reads_like : (sets : List BoundAssignment) (n : Bool) (text pattern : BoundExpr) (escape : Option BoundExpr)
    → cond_reads sets (predicate_of [] (bound.Like n text pattern escape)) ≡ (expr_reads sets (expr_of [] text) || expr_reads sets (expr_of [] pattern) || escape_reads sets (option_map (expr_of []) escape))
reads_like sets n text pattern escape = ap (cond_reads sets) (predicate_of-Like [] n text pattern escape) ∙ reads_not sets n _

pub reads_null : (sets : List BoundAssignment) (n : Bool) (a : BoundExpr) → cond_reads sets (predicate_of [] (bound.Null n a)) ≡ expr_reads sets (expr_of [] a)
reads_null sets n a = ap (cond_reads sets) (predicate_of-Null [] n a) ∙ reads_not sets n _

pub reads_exists : (sets : List BoundAssignment) (s : BoundSpecification) → cond_reads sets (predicate_of [] (bound.Exists s)) ≡ true
reads_exists sets s = ap (cond_reads sets) (predicate_of-Exists [] s)

pub reads_bracketed : (sets : List BoundAssignment) (c : BoundCond) → cond_reads sets (predicate_of [] (bound.Bracketed c)) ≡ cond_reads sets (cond_of [] c)
reads_bracketed sets c = ap (cond_reads sets) (predicate_of-Bracketed [] c)

pub ruleset predicate_levels = (reads_compare, reads_compare_query, reads_between, reads_in_query, reads_in_list, reads_like, reads_null, reads_exists, reads_bracketed)

-- ---- AND and OR

joined : {X : Type 0} (sets : List BoundAssignment) (tree : X → PlacedCond) (xs : List X) → conds_read sets (conds (map tree xs)) ≡ list_any (λ x. cond_reads sets (tree x)) xs
joined sets tree [] = refl
joined sets tree (x ∷ xs) = ap (λ b. cond_reads sets (tree x) || b) (joined sets tree xs)

test_reads : (sets : List BoundAssignment) (t : BoundTest) → cond_reads sets (test_of [] t) ≡ cond_reads sets (predicate_of [] t.predicate)
test_reads sets t = ap (cond_reads sets) (test_of-out [] t) ∙ reads_not sets t.negated (predicate_of [] t.predicate)

pub reads_terms : (sets : List BoundAssignment) (c : BoundCond) → cond_reads sets (cond_of [] c) ≡ list_any (λ t. cond_reads sets (conj_of [] t)) (out-BoundCond c).terms
reads_terms sets c = ap (cond_reads sets) (cond_of-out [] c) ∙ joined sets (conj_of []) (out-BoundCond c).terms

tests_same : (sets : List BoundAssignment) (ts : List BoundTest) → list_any (λ t. cond_reads sets (test_of [] t)) ts ≡ list_any (λ t. cond_reads sets (predicate_of [] t.predicate)) ts
tests_same sets [] = refl
tests_same sets (t ∷ ts) = (λ i. test_reads sets t i || tests_same sets ts i)

pub reads_tests : (sets : List BoundAssignment) (c : BoundConj) → cond_reads sets (conj_of [] c) ≡ list_any (λ t. cond_reads sets (predicate_of [] t.predicate)) (out-BoundConj c).tests
reads_tests sets c = ap (cond_reads sets) (conj_of-out [] c) ∙ joined sets (test_of []) (out-BoundConj c).tests ∙ tests_same sets (out-BoundConj c).tests

-- the whole list is taken
pub all_taken : {X : Type 0} (test : X → Bool) (xs : List X) (i : ℕ) → length xs ≤ i → list_any test (take i xs) ≡ false → list_any test xs ≡ false
all_taken test xs i enough passes = ap (list_any test) (sym (take_all i xs enough)) ∙ passes

-- ---- the conditions of the views, and the target's own

pub own_reads : (sets : List BoundAssignment) (conditions : List BoundCond) (c : BoundCond) → one_reads sets (and_own conditions (Some c)) ≡ (one_reads sets conditions || cond_reads sets (cond_of [] c))
own_reads sets conditions c = list_any-append (λ d. cond_reads sets (cond_of [] d)) conditions (c ∷ []) ∙ ap (λ b. one_reads sets conditions || b) (or_false (cond_reads sets (cond_of [] c)))

-- none of them does where neither those of the views nor the target's own do
pub none_reads : (sets : List BoundAssignment) (conditions : List BoundCond) (own : Option BoundCond) (c : BoundCond) (views here : Bool) → own ≡ Some c → views ≡ one_reads sets conditions → views ≡ false
    → here ≡ cond_reads sets (cond_of [] c) → here ≡ false → one_reads sets (and_own conditions own) ≡ false
none_reads sets conditions own c views here is v none h not =
    ap (λ o. one_reads sets (and_own conditions o)) is ∙ own_reads sets conditions c ∙ (λ i. (sym v ∙ none) i || (sym h ∙ not) i)
