-- Laws of conditions, in the words of the standard (ISO/IEC 9075:1992, 8.3, 8.4, 8.7 and 8.12).
use Rattle.std.proofs.Common.{◌≡◌, List, [], ◌∷◌, map, refl, sym, ap, ◌∙◌, Ok, Err}
use Rattle.std.specs.Prelude.{fold}
use Rattle.sq_value.specs.Truth.{both, either, negation}
use Rattle.sq_value.specs.declared.truth.Truth.{Truth}
use Rattle.sq_value.specs.declared.truth.Truth.TheVariants.{False, Unknown, True}
use Rattle.sq_value.specs.declared.value.Value.{Value}
use Rattle.sq_tree.specs.declared.cond.Comparison.{Comparison}
use Rattle.sq_tree.specs.declared.cond.Comparison.TheVariants.{Equal, LessOrEqual, GreaterOrEqual}
use Rattle.sq_tree.specs.declared.cond.Quantifier.TheVariants as quantifier
use Rattle.sq_meaning.specs.Status.{Outcome}
use Rattle.sq_meaning.specs.Syntax.{Naming, Expr, Select, compare, compare_quantified, between, in_subquery, in_list, conjunction, disjunction, conds}
use Rattle.sq_meaning.specs.Environment.{Env}
use Rattle.sq_meaning.specs.Expression.{Reading}
use Rattle.sq_meaning.specs.Query.{and_also, or_else, compared, compared_with_rows, quantified, truth}

-- NOT of unknown is unknown
pub not_unknown : negation Unknown ≡ Unknown
not_unknown = refl

-- NOT of AND is OR of NOT, and the other way round
pub not_both : (p q : Truth) → negation (both p q) ≡ either (negation p) (negation q)
not_both False q = refl
not_both True q = refl
not_both Unknown False = refl
not_both Unknown Unknown = refl
not_both Unknown True = refl

pub not_either : (p q : Truth) → negation (either p q) ≡ both (negation p) (negation q)
not_either True q = refl
not_either False q = refl
not_either Unknown False = refl
not_either Unknown Unknown = refl
not_either Unknown True = refl

also_true : (r : Outcome Truth) → and_also r (Ok True) ≡ r
also_true (Err status) = refl
also_true (Ok False) = refl
also_true (Ok Unknown) = refl
also_true (Ok True) = refl

-- BETWEEN is its AND
pub between_is_and : {N : Naming} (m : Reading N) (a low high : Expr N) (env : Env N.Item)
    → truth m (between a low high) env ≡ truth m (conjunction (conds (compare GreaterOrEqual a low ∷ compare LessOrEqual a high ∷ []))) env
between_is_and m a low high env = ap (and_also (compared m GreaterOrEqual a low env)) (sym (also_true (compared m LessOrEqual a high env)))

-- IN of a list is the OR of its comparisons
pub in_list_is_or : {N : Naming} (m : Reading N) (a : Expr N) (es : List (Expr N)) (env : Env N.Item)
    → truth m (in_list a es) env ≡ truth m (disjunction (conds (map (compare Equal a) es))) env
in_list_is_or m a [] env = refl
in_list_is_or m a (e ∷ es) env = ap (or_else (compared m Equal a e env)) (in_list_is_or m a es env)

-- IN of a subquery is = ANY
pub in_is_any : {N : Naming} (m : Reading N) (a : Expr N) (q : Select N) (env : Env N.Item)
    → truth m (in_subquery a q) env ≡ truth m (compare_quantified Equal quantifier.Any a q) env
in_is_any m a q env = refl

-- ALL is true on no rows, ANY false
pub all_of_none : (op : Comparison) (x : Value) → compared_with_rows op quantifier.All x [] ≡ True
all_of_none op x = refl

pub any_of_none : (op : Comparison) (x : Value) → compared_with_rows op quantifier.Any x [] ≡ False
any_of_none op x = refl

-- ANY is NOT ALL of the negations
any_from : (t : Truth) (ts : List Truth) → fold either t ts ≡ negation (fold both (negation t) (map negation ts))
any_from False [] = refl
any_from Unknown [] = refl
any_from True [] = refl
any_from t (u ∷ ts) = any_from (either t u) ts ∙ ap (λ s. negation (fold both s (map negation ts))) (not_either t u)

pub any_is_dual : (ts : List Truth) → quantified quantifier.Any ts ≡ negation (quantified quantifier.All (map negation ts))
any_is_dual ts = any_from False ts
