-- A bound condition that reads no table has no subquery: each FROM clause has a table.
use Rattle.std.proofs.Common.{◌≡◌, ◌∙◌, ◌<◌, Bool, true, false, List, [], ◌∷◌, ◌++◌, length, map, Option, Some, None, refl, sym, ap, subst, arith}
use Rattle.std.specs.Prelude.{◌||◌}
use Rattle.std.specs.Option.{option_map}
use Rattle.std.proofs.lemmas.Bool.{ltb-true}
use Rattle.sq_tree.specs.declared.cond.Comparison.{Comparison}
use Rattle.sq_meaning.specs.Status.{not_well_formed}
use Rattle.sq_meaning.specs.Syntax.{conds, between, in_subquery, in_list, like, is_null}
use Rattle.sq_meaning.specs.Target.{has_subquery, have_subquery, clause_has_subquery}
use Rattle.sq_bound.specs.Condition.{PlacedCond, cond_of, conj_of, test_of, predicate_of, select_of, not_if, compared_with, clause_of}
use Rattle.sq_bound.specs.Expression.{PlacedExpr, expr_of}
use Rattle.sq_bound.specs.declared.condition.TablePlace.{TablePlace}
use Rattle.sq_bound.specs.declared.condition.Compared.{Compared}
use Rattle.sq_bound.specs.declared.condition.Compared.TheVariants.{Scalar, All, Any}
use Rattle.sq_bound.specs.declared.condition.BoundCond.{BoundCond, BoundCond-F, roll-BoundCond, fold-roll-BoundCond, map-BoundCond, ind-BoundCond}
use Rattle.sq_bound.specs.declared.condition.BoundConj.{BoundConj, BoundConj-F, roll-BoundConj, fold-roll-BoundConj, map-BoundConj}
use Rattle.sq_bound.specs.declared.condition.BoundTest.{BoundTest, BoundTest-F, roll-BoundTest, fold-roll-BoundTest, map-BoundTest}
use Rattle.sq_bound.specs.declared.condition.BoundSpecification.{BoundSpecification, out-BoundSpecification}
use Rattle.sq_bound.specs.declared.condition.Grouping.{Grouping}
use Rattle.sq_bound.specs.declared.condition.Predicate.{Predicate, Predicate-F, roll-Predicate, fold-roll-Predicate, map-Predicate}
use Rattle.sq_bound.specs.declared.condition.Predicate.TheOpen as layer
use Rattle.sq_query.specs.Needed.{Adds, NeedsNone, clause_tables, cond_tables, conds_tables, inside_tables, select_tables}
use Rattle.sq_query.specs.declared.needed.Needed.{Needed}
use Rattle.sq_query.proofs.Needs.Added.{none_known, own}
use Rattle.sq_query.proofs.Needs.InsideTables.{items_and_inside}

-- ---- no table

pub none_of_both : {A : Type 0} (xs ys : List A) → xs ++ ys ≡ [] → (xs ≡ []) × (ys ≡ [])
none_of_both [] ys none = (refl, none)
none_of_both (x ∷ xs) ys none = absurd cc

-- where none is needed, none was added
pub none_left : (before after : Needed) (ts : List TablePlace) → NeedsNone after → Adds before ts after → ts ≡ []
none_left before after [] none adds = refl
none_left before after (t ∷ ts) none adds = absurd (none_known (λ u. not_well_formed) after none t (own before after (t ∷ ts) adds).0)

-- a query specification reads some
some_table : (s : BoundSpecification) → select_tables (select_of s) ≡ [] → ⊥
some_table s none =
    let from = (out-BoundSpecification s).from in
    let some : 0 < length from.tables = ltb-true 0 (length from.tables) from.some in
    let no : length from.tables ≡ 0 = ap length (none_of_both from.tables (inside_tables (select_of s)) (sym (items_and_inside s) ∙ none)).0 in
    omega (arith, some, no)

-- ---- no subquery

-- a tree that waits for the set functions of its group
abbrev at : List PlacedExpr → (List PlacedExpr → PlacedCond) → PlacedCond
at functions c = c functions

abbrev IsPlain : PlacedCond → Type 0
IsPlain c = cond_tables c ≡ [] → has_subquery c ≡ false

plain-is : (a b : PlacedCond) → a ≡ b → IsPlain b → IsPlain a
plain-is a b is plain = subst IsPlain (sym is) plain

plain_if : (written : Bool) (c : PlacedCond) → IsPlain c → IsPlain (not_if written c)
plain_if true c plain = plain
plain_if false c plain = plain

compared_plain : (quantifier : Compared) (op : Comparison) (a : PlacedExpr) (s : BoundSpecification) → IsPlain (compared_with quantifier op a (select_of s))
compared_plain Scalar op a s = λ none. absurd (some_table s none)
compared_plain All op a s = λ none. absurd (some_table s none)
compared_plain Any op a s = λ none. absurd (some_table s none)

module _ (functions : List PlacedExpr) where
  abbrev PlainPredicate : Predicate → Type 0
  PlainPredicate p = IsPlain (predicate_of functions p)

  abbrev PlainCond : BoundCond → Type 0
  PlainCond c = IsPlain (cond_of functions c)

  abbrev PlainConj : BoundConj → Type 0
  PlainConj c = IsPlain (conj_of functions c)

  abbrev PlainTest : BoundTest → Type 0
  PlainTest t = IsPlain (test_of functions t)

  abbrev AnySpecification : BoundSpecification → Type 0
  AnySpecification s = Unit {0}

  abbrev AnyGrouping : Grouping → Type 0
  AnyGrouping g = Unit {0}

  -- each part with a proof beside it
  abbrev P : Type 0
  P = (p : Predicate) × PlainPredicate p

  abbrev C : Type 0
  C = (c : BoundCond) × PlainCond c

  abbrev J : Type 0
  J = (c : BoundConj) × PlainConj c

  abbrev S : Type 0
  S = (s : BoundSpecification) × AnySpecification s

  abbrev T : Type 0
  T = (t : BoundTest) × PlainTest t

  abbrev G : Type 0
  G = (g : Grouping) × AnyGrouping g

  predicate_step : (y : Predicate-F P C J S T G) → PlainPredicate (roll-Predicate (map-Predicate P C J S T G Predicate BoundCond BoundConj BoundSpecification BoundTest Grouping (λ e. e.0) (λ e. e.0) (λ e. e.0) (λ e. e.0) (λ e. e.0) (λ e. e.0) y))
  unfolding predicate_of cond_of select_of
  predicate_step (layer.Compare op a b) = plain-is _ _ (ap (at functions) (fold-roll-Predicate _ _ _ _ _ _ _ _ _ _ _ _ _)) (λ none. refl)
  predicate_step (layer.CompareQuery op quantifier a q) = plain-is _ _ (ap (at functions) (fold-roll-Predicate _ _ _ _ _ _ _ _ _ _ _ _ _)) (compared_plain quantifier op (expr_of functions a) q.0)
  predicate_step (layer.Between n a low high) =
      plain-is _ _ (ap (at functions) (fold-roll-Predicate _ _ _ _ _ _ _ _ _ _ _ _ _)) (plain_if n (between (expr_of functions a) (expr_of functions low) (expr_of functions high)) (λ none. refl))
  predicate_step (layer.InQuery n a q) =
      plain-is _ _ (ap (at functions) (fold-roll-Predicate _ _ _ _ _ _ _ _ _ _ _ _ _)) (plain_if n (in_subquery (expr_of functions a) (select_of q.0)) (λ none. absurd (some_table q.0 none)))
  predicate_step (layer.InList n a es) = plain-is _ _ (ap (at functions) (fold-roll-Predicate _ _ _ _ _ _ _ _ _ _ _ _ _)) (plain_if n (in_list (expr_of functions a) (map (expr_of functions) es)) (λ none. refl))
  predicate_step (layer.Like n text pattern escape) =
      plain-is _ _ (ap (at functions) (fold-roll-Predicate _ _ _ _ _ _ _ _ _ _ _ _ _)) (plain_if n (like (expr_of functions text) (expr_of functions pattern) (option_map (expr_of functions) escape)) (λ none. refl))
  predicate_step (layer.Null n a) = plain-is _ _ (ap (at functions) (fold-roll-Predicate _ _ _ _ _ _ _ _ _ _ _ _ _)) (plain_if n (is_null (expr_of functions a)) (λ none. refl))
  predicate_step (layer.Exists q) = plain-is _ _ (ap (at functions) (fold-roll-Predicate _ _ _ _ _ _ _ _ _ _ _ _ _)) (λ none. absurd (some_table q.0 none))
  predicate_step (layer.Bracketed c) = plain-is _ _ (ap (at functions) (fold-roll-Predicate _ _ _ _ _ _ _ _ _ _ _ _ _)) c.1

  test_step : (y : BoundTest-F P C J S T G) → PlainTest (roll-BoundTest (map-BoundTest P C J S T G Predicate BoundCond BoundConj BoundSpecification BoundTest Grouping (λ e. e.0) (λ e. e.0) (λ e. e.0) (λ e. e.0) (λ e. e.0) (λ e. e.0) y))
  unfolding test_of predicate_of
  test_step y = plain-is _ _ (ap (at functions) (fold-roll-BoundTest _ _ _ _ _ _ _ _ _ _ _ _ _)) (plain_if y.negated (predicate_of functions y.predicate.0) y.predicate.1)

  -- parts that wait for the set functions, in a row
  all_plain : {X : Type 0} (tree : X → List PlacedExpr → PlacedCond) (xs : List ((x : X) × IsPlain (tree x functions)))
      → conds_tables (conds (map (at functions) (map tree (map (λ (e : (x : X) × IsPlain (tree x functions)). e.0) xs)))) ≡ []
      → have_subquery (conds (map (at functions) (map tree (map (λ (e : (x : X) × IsPlain (tree x functions)). e.0) xs)))) ≡ false
  all_plain tree [] none = refl
  all_plain {X} tree (x ∷ xs) none =
      let parts = none_of_both (cond_tables (tree x.0 functions)) (conds_tables (conds (map (at functions) (map tree (map (λ (e : (x : X) × IsPlain (tree x functions)). e.0) xs))))) none in
      (λ i. x.1 parts.0 i || all_plain tree xs parts.1 i)

  conj_step : (y : BoundConj-F P C J S T G) → PlainConj (roll-BoundConj (map-BoundConj P C J S T G Predicate BoundCond BoundConj BoundSpecification BoundTest Grouping (λ e. e.0) (λ e. e.0) (λ e. e.0) (λ e. e.0) (λ e. e.0) (λ e. e.0) y))
  unfolding conj_of test_of
  conj_step y = plain-is _ _ (ap (at functions) (fold-roll-BoundConj _ _ _ _ _ _ _ _ _ _ _ _ _)) (all_plain (λ t f. test_of f t) y.tests)

  cond_step : (y : BoundCond-F P C J S T G) → PlainCond (roll-BoundCond (map-BoundCond P C J S T G Predicate BoundCond BoundConj BoundSpecification BoundTest Grouping (λ e. e.0) (λ e. e.0) (λ e. e.0) (λ e. e.0) (λ e. e.0) (λ e. e.0) y))
  unfolding cond_of conj_of
  cond_step y = plain-is _ _ (ap (at functions) (fold-roll-BoundCond _ _ _ _ _ _ _ _ _ _ _ _ _)) (all_plain (λ t f. conj_of f t) y.terms)

  pub cond_plain : (c : BoundCond) → cond_tables (cond_of functions c) ≡ [] → has_subquery (cond_of functions c) ≡ false
  cond_plain c = ind-BoundCond PlainPredicate PlainCond PlainConj AnySpecification PlainTest AnyGrouping
      (λ x y is. subst (λ z. PlainPredicate (roll-Predicate z)) is (predicate_step y))
      (λ x y is. subst (λ z. PlainCond (roll-BoundCond z)) is (cond_step y))
      (λ x y is. subst (λ z. PlainConj (roll-BoundConj z)) is (conj_step y))
      (λ x y is. tt)
      (λ x y is. subst (λ z. PlainTest (roll-BoundTest z)) is (test_step y))
      (λ x y is. tt)
      c

  pub clause_plain : (c : Option BoundCond) → clause_tables (clause_of functions c) ≡ [] → clause_has_subquery (clause_of functions c) ≡ false
  clause_plain None none = refl
  clause_plain (Some c) none = cond_plain c none
