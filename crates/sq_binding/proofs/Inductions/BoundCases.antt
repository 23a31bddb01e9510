-- A property of each bound search condition and query specification, case by case (ISO/IEC 9075:1992, 7.9 and 8.12).
use Rattle.std.proofs.Common.{Bool, List, [], ◌∷◌, map, Option, Some, None, sym, subst}
use Rattle.std.specs.Prelude.{IfSome}
use Rattle.std.specs.List.{AllByRecursion}
use Rattle.sq_tree.specs.declared.cond.Comparison.{Comparison}
use Rattle.sq_bound.specs.declared.condition.BoundCond.{BoundCond, BoundCond-F, out-BoundCond, roll-BoundCond, out-roll-BoundCond}
use Rattle.sq_bound.specs.declared.condition.BoundConj.{BoundConj, BoundConj-F, out-BoundConj, roll-BoundConj, out-roll-BoundConj}
use Rattle.sq_bound.specs.declared.condition.BoundTest.{BoundTest, roll-BoundTest}
use Rattle.sq_bound.specs.declared.condition.BoundSpecification.{BoundSpecification, BoundSpecification-F, out-BoundSpecification, roll-BoundSpecification, out-roll-BoundSpecification, map-BoundSpecification}
use Rattle.sq_bound.specs.declared.condition.Compared.{Compared}
use Rattle.sq_bound.specs.declared.condition.Grouping.{Grouping, Grouping-F, out-Grouping, roll-Grouping, out-roll-Grouping, map-Grouping}
use Rattle.sq_bound.specs.declared.condition.Predicate.{Predicate, Predicate-F, roll-Predicate, ind-Predicate, map-Predicate}
use Rattle.sq_bound.specs.declared.condition.Predicate.TheOpen as layer
use Rattle.sq_bound.specs.declared.condition.Predicate.TheVariants as bound
use Rattle.sq_bound.specs.declared.expression.BoundExpr.{BoundExpr}
use Rattle.sq_bound.specs.declared.expression.Place.{Place}
use Rattle.sq_bound.specs.declared.expression.SetFunctionCall.{SetFunctionCall}

-- a law, for each kind of predicate, for conditions and for query specifications
pub record BoundCases (P : Predicate → Type 0) (C : BoundCond → Type 0) (J : BoundConj → Type 0) (S : BoundSpecification → Type 0) (T : BoundTest → Type 0) (G : Grouping → Type 0) : Type 0 where
  pub of_compare : (op : Comparison) (a b : BoundExpr) → P (bound.Compare op a b)
  pub of_compare_query : (op : Comparison) (k : Compared) (a : BoundExpr) (q : BoundSpecification) → S q → P (bound.CompareQuery op k a q)
  pub of_between : (n : Bool) (a low high : BoundExpr) → P (bound.Between n a low high)
  pub of_in_query : (n : Bool) (a : BoundExpr) (q : BoundSpecification) → S q → P (bound.InQuery n a q)
  pub of_in_list : (n : Bool) (a : BoundExpr) (es : List BoundExpr) → P (bound.InList n a es)
  pub of_like : (n : Bool) (text pattern : BoundExpr) (escape : Option BoundExpr) → P (bound.Like n text pattern escape)
  pub of_null : (n : Bool) (a : BoundExpr) → P (bound.Null n a)
  pub of_exists : (q : BoundSpecification) → S q → P (bound.Exists q)
  pub of_bracketed : (c : BoundCond) → C c → P (bound.Bracketed c)
  pub of_test : (t : BoundTest) → P t.predicate → T t
  pub of_conj : (c : BoundConj) → AllByRecursion T (out-BoundConj c).tests → J c
  pub of_cond : (c : BoundCond) → AllByRecursion J (out-BoundCond c).terms → C c
  pub of_grouping : (g : Grouping) → IfSome (out-Grouping g).having C → G g
  pub of_select : (q : BoundSpecification) → IfSome (out-BoundSpecification q).condition C → IfSome (out-BoundSpecification q).grouping G → S q

module _ (P : Predicate → Type 0) (C : BoundCond → Type 0) (J : BoundConj → Type 0) (S : BoundSpecification → Type 0) (T : BoundTest → Type 0) (G : Grouping → Type 0) (cases : BoundCases P C J S T G) where
  abbrev HP : Type 0
  HP = (x : Predicate) × P x

  abbrev HC : Type 0
  HC = (x : BoundCond) × C x

  abbrev HJ : Type 0
  HJ = (x : BoundConj) × J x

  abbrev HS : Type 0
  HS = (x : BoundSpecification) × S x

  abbrev HT : Type 0
  HT = (x : BoundTest) × T x

  abbrev HG : Type 0
  HG = (x : Grouping) × G x

  predicate_step : (y : Predicate-F HP HC HJ HS HT HG)
      → P (roll-Predicate (map-Predicate HP HC HJ HS HT HG Predicate BoundCond BoundConj BoundSpecification BoundTest Grouping (λ e. e.0) (λ e. e.0) (λ e. e.0) (λ e. e.0) (λ e. e.0) (λ e. e.0) y))
  predicate_step (layer.Compare op a b) = subst P (sym (bound.rolls-Compare op a b)) (cases.of_compare op a b)
  predicate_step (layer.CompareQuery op k a q) = subst P (sym (bound.rolls-CompareQuery op k a q.0)) (cases.of_compare_query op k a q.0 q.1)
  predicate_step (layer.Between n a low high) = subst P (sym (bound.rolls-Between n a low high)) (cases.of_between n a low high)
  predicate_step (layer.InQuery n a q) = subst P (sym (bound.rolls-InQuery n a q.0)) (cases.of_in_query n a q.0 q.1)
  predicate_step (layer.InList n a es) = subst P (sym (bound.rolls-InList n a es)) (cases.of_in_list n a es)
  predicate_step (layer.Like n a p e) = subst P (sym (bound.rolls-Like n a p e)) (cases.of_like n a p e)
  predicate_step (layer.Null n a) = subst P (sym (bound.rolls-Null n a)) (cases.of_null n a)
  predicate_step (layer.Exists q) = subst P (sym (bound.rolls-Exists q.0)) (cases.of_exists q.0 q.1)
  predicate_step (layer.Bracketed c) = subst P (sym (bound.rolls-Bracketed c.0)) (cases.of_bracketed c.0 c.1)

  all_held : {A : Type 0} (Q : A → Type 0) (ys : List ((x : A) × Q x)) → AllByRecursion Q (map (λ (e : (x : A) × Q x). e.0) ys)
  all_held Q [] = tt
  all_held Q (y ∷ ys) = (y.1, all_held Q ys)

  cond_step : (x : BoundCond-F Predicate BoundCond BoundConj BoundSpecification BoundTest Grouping) → AllByRecursion J x.terms → C (roll-BoundCond x)
  cond_step x h =
      cases.of_cond (roll-BoundCond x) (subst (λ (y : BoundCond-F Predicate BoundCond BoundConj BoundSpecification BoundTest Grouping). AllByRecursion J y.terms) (sym (out-roll-BoundCond x)) h)

  conj_step : (x : BoundConj-F Predicate BoundCond BoundConj BoundSpecification BoundTest Grouping) → AllByRecursion T x.tests → J (roll-BoundConj x)
  conj_step x h =
      cases.of_conj (roll-BoundConj x) (subst (λ (y : BoundConj-F Predicate BoundCond BoundConj BoundSpecification BoundTest Grouping). AllByRecursion T y.tests) (sym (out-roll-BoundConj x)) h)

  grouping_step : (x : Grouping-F Predicate BoundCond BoundConj BoundSpecification BoundTest Grouping) → IfSome x.having C → G (roll-Grouping x)
  grouping_step x h =
      cases.of_grouping (roll-Grouping x) (subst (λ (y : Grouping-F Predicate BoundCond BoundConj BoundSpecification BoundTest Grouping). IfSome y.having C) (sym (out-roll-Grouping x)) h)

  select_step : (x : BoundSpecification-F Predicate BoundCond BoundConj BoundSpecification BoundTest Grouping) → IfSome x.condition C → IfSome x.grouping G → S (roll-BoundSpecification x)
  select_step x h g =
      let is = out-roll-BoundSpecification x in
      cases.of_select (roll-BoundSpecification x) (subst (λ (y : BoundSpecification-F Predicate BoundCond BoundConj BoundSpecification BoundTest Grouping). IfSome y.condition C) (sym is) h)
      (subst (λ (y : BoundSpecification-F Predicate BoundCond BoundConj BoundSpecification BoundTest Grouping). IfSome y.grouping G) (sym is) g)

  having_held : (columns : List Place) (calls : List SetFunctionCall) (having : Option HC)
      → IfSome (map-Grouping HP HC HJ HS HT HG Predicate BoundCond BoundConj BoundSpecification BoundTest Grouping (λ e. e.0) (λ e. e.0) (λ e. e.0) (λ e. e.0) (λ e. e.0) (λ e. e.0) (record { columns = columns; set_functions = calls; having = having })).having C
  having_held columns calls None = tt
  having_held columns calls (Some c) = c.1

  abbrev bare : BoundSpecification-F HP HC HJ HS HT HG → BoundSpecification-F Predicate BoundCond BoundConj BoundSpecification BoundTest Grouping
  bare = map-BoundSpecification HP HC HJ HS HT HG Predicate BoundCond BoundConj BoundSpecification BoundTest Grouping (λ e. e.0) (λ e. e.0) (λ e. e.0) (λ e. e.0) (λ e. e.0) (λ e. e.0)

  condition_held : (o : BoundSpecification-F HP HC HJ HS HT HG) (condition : Option HC) (grouping : Option HG) → IfSome (bare (record o { condition = condition; grouping = grouping })).condition C
  condition_held o None g = tt
  condition_held o (Some c) g = c.1

  groups_held : (o : BoundSpecification-F HP HC HJ HS HT HG) (condition : Option HC) (grouping : Option HG) → IfSome (bare (record o { condition = condition; grouping = grouping })).grouping G
  groups_held o c None = tt
  groups_held o c (Some g) = g.1

  pub predicate_all : (p : Predicate) → P p
  predicate_all p = ind-Predicate P C J S T G
      (λ x y is. subst (λ z. P (roll-Predicate z)) is (predicate_step y))
      (λ x y is. subst (λ z. C (roll-BoundCond z)) is (cond_step _ (all_held J y.terms)))
      (λ x y is. subst (λ z. J (roll-BoundConj z)) is (conj_step _ (all_held T y.tests)))
      (λ x y is. subst (λ z. S (roll-BoundSpecification z)) is (select_step _ (condition_held y y.condition y.grouping) (groups_held y y.condition y.grouping)))
      (λ x y is. subst (λ z. T (roll-BoundTest z)) is (cases.of_test _ y.predicate.1))
      (λ x y is. subst (λ z. G (roll-Grouping z)) is (grouping_step _ (having_held y.columns y.set_functions y.having)))
      p

  pub test_all : (t : BoundTest) → T t
  test_all t = cases.of_test t (predicate_all t.predicate)

  each_all : {A : Type 0} (Q : A → Type 0) → ((x : A) → Q x) → (xs : List A) → AllByRecursion Q xs
  each_all Q h [] = tt
  each_all Q h (x ∷ xs) = (h x, each_all Q h xs)

  some_all : {A : Type 0} (Q : A → Type 0) → ((x : A) → Q x) → (o : Option A) → IfSome o Q
  some_all Q h None = tt
  some_all Q h (Some x) = h x

  pub conj_all : (c : BoundConj) → J c
  conj_all c = cases.of_conj c (each_all T test_all (out-BoundConj c).tests)

  pub cond_all : (c : BoundCond) → C c
  cond_all c = cases.of_cond c (each_all J conj_all (out-BoundCond c).terms)

  pub grouping_all : (g : Grouping) → G g
  grouping_all g = cases.of_grouping g (some_all C cond_all (out-Grouping g).having)

  pub select_all : (q : BoundSpecification) → S q
  select_all q = cases.of_select q (some_all C cond_all (out-BoundSpecification q).condition) (some_all G grouping_all (out-BoundSpecification q).grouping)
