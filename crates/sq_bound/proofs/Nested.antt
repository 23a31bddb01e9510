-- The query specifications in a bound tree are those in its parts.
use Rattle.std.proofs.Common.{◌≡◌, ℕ, zero, suc, ◌<◌, List, [], ◌∷◌, length, map, get_or, Option, Some, None, Bool, arith, refl, sym, ◌∙◌, ap, subst}
use Rattle.std.specs.Prelude.{⊤}
use Rattle.std.specs.List.{AllByRecursion}
use Rattle.sq_bound.specs.Numbered.{PredicateWith, CondWith, ConjWith, SelectWith, TestWith, GroupingWith, ClauseWith, GroupsWith}
use Rattle.sq_bound.specs.declared.condition.BoundCond.{BoundCond, BoundCond-F, out-BoundCond, roll-BoundCond, roll-out-BoundCond, out-roll-BoundCond, every_made-BoundCond, every_held-BoundCond}
use Rattle.sq_bound.specs.declared.condition.BoundConj.{BoundConj, BoundConj-F, out-BoundConj, roll-BoundConj, roll-out-BoundConj, out-roll-BoundConj, every_made-BoundConj, every_held-BoundConj}
use Rattle.sq_bound.specs.declared.condition.BoundTest.{BoundTest, BoundTest-F, out-BoundTest, roll-BoundTest, roll-out-BoundTest, every_made-BoundTest, every_held-BoundTest}
use Rattle.sq_bound.specs.declared.condition.BoundSpecification.{BoundSpecification, BoundSpecification-F, out-BoundSpecification, roll-BoundSpecification, roll-out-BoundSpecification, out-roll-BoundSpecification, map-BoundSpecification, every_made-BoundSpecification, every_held-BoundSpecification, every_here-BoundSpecification}
use Rattle.sq_bound.specs.declared.condition.Grouping.{Grouping, Grouping-F, out-Grouping, roll-Grouping, roll-out-Grouping, out-roll-Grouping, map-Grouping, every_made-Grouping, every_held-Grouping}
use Rattle.sq_bound.specs.declared.condition.Predicate.{Predicate, Predicate-F, out-Predicate, roll-Predicate, out-roll-Predicate, ind-Predicate, map-Predicate, every_made-Predicate, every_held-Predicate}
use Rattle.sq_bound.specs.declared.condition.Predicate.TheOpen as layer
use Rattle.sq_bound.specs.declared.condition.Predicate.TheVariants as bound
use Rattle.sq_bound.specs.declared.condition.Compared.{Compared}
use Rattle.sq_bound.specs.declared.expression.BoundExpr.{BoundExpr}
use Rattle.sq_tree.specs.declared.cond.Comparison.{Comparison}
use Rattle.sq_bound.specs.declared.expression.Place.{Place}
use Rattle.sq_bound.specs.declared.expression.SetFunctionCall.{SetFunctionCall}

-- ---- each with a proof beside it

abbrev Proved : {A : Type 0} → (A → Type 0) → Type 0
Proved {A} P = (x : A) × P x

abbrev thing : {A : Type 0} (P : A → Type 0) → Proved P → A
thing P e = e.0

beside : {A : Type 0} (P : A → Type 0) (xs : List A) → AllByRecursion P xs → (ys : List (Proved P)) × (map (thing P) ys ≡ xs)
beside P [] h = ([], refl)
beside P (x ∷ xs) h = let rest = beside P xs h.1 in ((x, h.0) ∷ rest.0, ap (λ zs. x ∷ zs) rest.1)

from_beside : {A : Type 0} (P : A → Type 0) (ys : List (Proved P)) → AllByRecursion P (map (thing P) ys)
from_beside P [] = tt
from_beside P (y ∷ ys) = (y.1, from_beside P ys)

one_of : {A : Type 0} (P : A → Type 0) (xs : List A) (i : ℕ) (x : A) → AllByRecursion P xs → i < length xs → x ≡ get_or xs i x → P x
one_of P [] i x all within is = let none : i < 0 = within in let no : ⊥ = omega arith in absurd no
one_of P (y ∷ ys) zero x all within is = subst P (sym is) all.0
one_of P (y ∷ ys) (suc i) x all within is = one_of P ys i x all.1 (omega arith) is

-- ---- part by part

module _ (P : BoundSpecification → Type 0) where
  pub cond_made : (c : BoundCond) → AllByRecursion (ConjWith P) (out-BoundCond c).terms → CondWith P c
  cond_made c h =
      let terms = beside (ConjWith P) (out-BoundCond c).terms h in
      subst (CondWith P) (roll-out-BoundCond c) (every_made-BoundCond _ _ _ _ _ _ (out-BoundCond c) (record { terms = terms.0 }) (ap (λ ts. record { terms = ts }) terms.1) tt)

  pub cond_held : (c : BoundCond) → CondWith P c → AllByRecursion (ConjWith P) (out-BoundCond c).terms
  cond_held c h =
      let held = every_held-BoundCond _ _ _ _ _ _ c h in
      subst (λ (y : BoundCond-F Predicate BoundCond BoundConj BoundSpecification BoundTest Grouping). AllByRecursion (ConjWith P) y.terms) held.1 (from_beside (ConjWith P) held.0.terms)

  pub term_with : (c : BoundCond) (ts : List BoundConj) (i : ℕ) (t : BoundConj) → ts ≡ (out-BoundCond c).terms → i < length ts → t ≡ get_or ts i t → CondWith P c → ConjWith P t
  term_with c ts i t are within is h = one_of (ConjWith P) ts i t (subst (AllByRecursion (ConjWith P)) (sym are) (cond_held c h)) within is

  pub conj_made : (c : BoundConj) → AllByRecursion (TestWith P) (out-BoundConj c).tests → ConjWith P c
  conj_made c h =
      let tests = beside (TestWith P) (out-BoundConj c).tests h in
      subst (ConjWith P) (roll-out-BoundConj c) (every_made-BoundConj _ _ _ _ _ _ (out-BoundConj c) (record { tests = tests.0 }) (ap (λ ts. record { tests = ts }) tests.1) tt)

  pub conj_held : (c : BoundConj) → ConjWith P c → AllByRecursion (TestWith P) (out-BoundConj c).tests
  conj_held c h =
      let held = every_held-BoundConj _ _ _ _ _ _ c h in
      subst (λ (y : BoundConj-F Predicate BoundCond BoundConj BoundSpecification BoundTest Grouping). AllByRecursion (TestWith P) y.tests) held.1 (from_beside (TestWith P) held.0.tests)

  pub test_with : (c : BoundConj) (ts : List BoundTest) (i : ℕ) (t : BoundTest) → ts ≡ (out-BoundConj c).tests → i < length ts → t ≡ get_or ts i t → ConjWith P c → TestWith P t
  test_with c ts i t are within is h = one_of (TestWith P) ts i t (subst (AllByRecursion (TestWith P)) (sym are) (conj_held c h)) within is

  pub test_made : (t : BoundTest) → PredicateWith P t.predicate → TestWith P t
  test_made t h =
      subst (TestWith P) (roll-out-BoundTest t)
      (every_made-BoundTest _ _ _ _ _ _ (out-BoundTest t) (record { negated = t.negated; predicate = (t.predicate, h); items = t.items; can_fail = t.can_fail }) refl tt)

  pub test_held : (t : BoundTest) → TestWith P t → PredicateWith P t.predicate
  test_held t h =
      let held = every_held-BoundTest _ _ _ _ _ _ t h in
      subst (λ (y : BoundTest-F Predicate BoundCond BoundConj BoundSpecification BoundTest Grouping). PredicateWith P y.predicate) held.1 held.0.predicate.1

  -- the query specifications in a predicate are those in its subquery, or in the condition in brackets
  abbrev pub LayerWith : Predicate-F Predicate BoundCond BoundConj BoundSpecification BoundTest Grouping → Type 0
  LayerWith (layer.CompareQuery op k a q) = SelectWith P q
  LayerWith (layer.InQuery written a q) = SelectWith P q
  LayerWith (layer.Exists q) = SelectWith P q
  LayerWith (layer.Bracketed c) = CondWith P c
  LayerWith _ = ⊤

  pub predicate_made : (x : Predicate-F Predicate BoundCond BoundConj BoundSpecification BoundTest Grouping) → LayerWith x → PredicateWith P (roll-Predicate x)
  predicate_made (layer.Compare op a b) h = every_made-Predicate _ _ _ _ _ _ (layer.Compare op a b) (layer.Compare op a b) refl tt
  predicate_made (layer.CompareQuery op k a q) h = every_made-Predicate _ _ _ _ _ _ (layer.CompareQuery op k a q) (layer.CompareQuery op k a (q, h)) refl tt
  predicate_made (layer.Between n a low high) h = every_made-Predicate _ _ _ _ _ _ (layer.Between n a low high) (layer.Between n a low high) refl tt
  predicate_made (layer.InQuery n a q) h = every_made-Predicate _ _ _ _ _ _ (layer.InQuery n a q) (layer.InQuery n a (q, h)) refl tt
  predicate_made (layer.InList n a es) h = every_made-Predicate _ _ _ _ _ _ (layer.InList n a es) (layer.InList n a es) refl tt
  predicate_made (layer.Like n a p e) h = every_made-Predicate _ _ _ _ _ _ (layer.Like n a p e) (layer.Like n a p e) refl tt
  predicate_made (layer.Null n a) h = every_made-Predicate _ _ _ _ _ _ (layer.Null n a) (layer.Null n a) refl tt
  predicate_made (layer.Exists q) h = every_made-Predicate _ _ _ _ _ _ (layer.Exists q) (layer.Exists (q, h)) refl tt
  predicate_made (layer.Bracketed c) h = every_made-Predicate _ _ _ _ _ _ (layer.Bracketed c) (layer.Bracketed (c, h)) refl tt

  abbrev Held : Type 0
  Held = Predicate-F (Proved (PredicateWith P)) (Proved (CondWith P)) (Proved (ConjWith P)) (Proved (SelectWith P)) (Proved (TestWith P)) (Proved (GroupingWith P))

  abbrev bare : Held → Predicate-F Predicate BoundCond BoundConj BoundSpecification BoundTest Grouping
  bare = map-Predicate _ _ _ _ _ _ _ _ _ _ _ _ (λ e. e.0) (λ e. e.0) (λ e. e.0) (λ e. e.0) (λ e. e.0) (λ e. e.0)

  layer_held : (y : Held) → LayerWith (bare y)
  layer_held (layer.Compare op a b) = tt
  layer_held (layer.CompareQuery op k a q) = q.1
  layer_held (layer.Between n a low high) = tt
  layer_held (layer.InQuery n a q) = q.1
  layer_held (layer.InList n a es) = tt
  layer_held (layer.Like n a p e) = tt
  layer_held (layer.Null n a) = tt
  layer_held (layer.Exists q) = q.1
  layer_held (layer.Bracketed c) = c.1

  pub predicate_held : (p : Predicate) → PredicateWith P p → LayerWith (out-Predicate p)
  predicate_held p h = let held = every_held-Predicate _ _ _ _ _ _ p h in subst LayerWith held.1 (layer_held held.0)

  pub compared_with_one : (p : Predicate) (op : Comparison) (k : Compared) (a : BoundExpr) (q : BoundSpecification) → p ≡ bound.CompareQuery op k a q → PredicateWith P p → SelectWith P q
  compared_with_one p op k a q is h = subst LayerWith (ap out-Predicate (is ∙ sym (bound.rolls-CompareQuery op k a q)) ∙ out-roll-Predicate (layer.CompareQuery op k a q)) (predicate_held p h)

  pub among_one : (p : Predicate) (n : Bool) (a : BoundExpr) (q : BoundSpecification) → p ≡ bound.InQuery n a q → PredicateWith P p → SelectWith P q
  among_one p n a q is h = subst LayerWith (ap out-Predicate (is ∙ sym (bound.rolls-InQuery n a q)) ∙ out-roll-Predicate (layer.InQuery n a q)) (predicate_held p h)

  pub existing_one : (p : Predicate) (q : BoundSpecification) → p ≡ bound.Exists q → PredicateWith P p → SelectWith P q
  existing_one p q is h = subst LayerWith (ap out-Predicate (is ∙ sym (bound.rolls-Exists q)) ∙ out-roll-Predicate (layer.Exists q)) (predicate_held p h)

  pub bracketed_one : (p : Predicate) (c : BoundCond) → p ≡ bound.Bracketed c → PredicateWith P p → CondWith P c
  bracketed_one p c is h = subst LayerWith (ap out-Predicate (is ∙ sym (bound.rolls-Bracketed c)) ∙ out-roll-Predicate (layer.Bracketed c)) (predicate_held p h)

  grouping_rolled : (columns : List Place) (calls : List SetFunctionCall) (having : Option BoundCond) → ClauseWith P having → GroupingWith P (roll-Grouping (record { columns = columns; set_functions = calls; having = having }))
  grouping_rolled columns calls None h = every_made-Grouping _ _ _ _ _ _ (record { columns = columns; set_functions = calls; having = None }) (record { columns = columns; set_functions = calls; having = None }) refl tt
  grouping_rolled columns calls (Some c) h = every_made-Grouping _ _ _ _ _ _ (record { columns = columns; set_functions = calls; having = Some c }) (record { columns = columns; set_functions = calls; having = Some (c, h) }) refl tt

  pub grouping_made : (g : Grouping) → ClauseWith P (out-Grouping g).having → GroupingWith P g
  grouping_made g h = subst (GroupingWith P) (roll-out-Grouping g) (grouping_rolled (out-Grouping g).columns (out-Grouping g).set_functions (out-Grouping g).having h)

  abbrev HeldGrouping : Type 0
  HeldGrouping = Grouping-F (Proved (PredicateWith P)) (Proved (CondWith P)) (Proved (ConjWith P)) (Proved (SelectWith P)) (Proved (TestWith P)) (Proved (GroupingWith P))

  abbrev bare_grouping : HeldGrouping → Grouping-F Predicate BoundCond BoundConj BoundSpecification BoundTest Grouping
  bare_grouping = map-Grouping _ _ _ _ _ _ _ _ _ _ _ _ (λ e. e.0) (λ e. e.0) (λ e. e.0) (λ e. e.0) (λ e. e.0) (λ e. e.0)

  having_held : (columns : List Place) (calls : List SetFunctionCall) (having : Option (Proved (CondWith P))) → ClauseWith P (bare_grouping (record { columns = columns; set_functions = calls; having = having })).having
  having_held columns calls None = tt
  having_held columns calls (Some c) = c.1

  pub grouping_held : (g : Grouping) → GroupingWith P g → ClauseWith P (out-Grouping g).having
  grouping_held g h =
      let held = every_held-Grouping _ _ _ _ _ _ g h in
      subst (λ (y : Grouping-F Predicate BoundCond BoundConj BoundSpecification BoundTest Grouping). ClauseWith P y.having) held.1 (having_held held.0.columns held.0.set_functions held.0.having)

  abbrev Layer : Type 0
  Layer = BoundSpecification-F Predicate BoundCond BoundConj BoundSpecification BoundTest Grouping

  abbrev HeldSelect : Type 0
  HeldSelect = BoundSpecification-F (Proved (PredicateWith P)) (Proved (CondWith P)) (Proved (ConjWith P)) (Proved (SelectWith P)) (Proved (TestWith P)) (Proved (GroupingWith P))

  select_rolled : (o : Layer) (condition : Option BoundCond) (grouping : Option Grouping) → P (roll-BoundSpecification (record o { condition = condition; grouping = grouping })) → ClauseWith P condition → GroupsWith P grouping
      → SelectWith P (roll-BoundSpecification (record o { condition = condition; grouping = grouping }))
  select_rolled o None None p h g = every_made-BoundSpecification _ _ _ _ _ _ (record o { condition = None; grouping = None })
      (record { distinct = o.distinct; list = o.list; from = o.from; condition = None; grouping = None; columns = o.columns; can_fail = o.can_fail; number = o.number }) refl p
  select_rolled o None (Some k) p h g = every_made-BoundSpecification _ _ _ _ _ _ (record o { condition = None; grouping = Some k })
      (record { distinct = o.distinct; list = o.list; from = o.from; condition = None; grouping = Some (k, g); columns = o.columns; can_fail = o.can_fail; number = o.number }) refl p
  select_rolled o (Some c) None p h g = every_made-BoundSpecification _ _ _ _ _ _ (record o { condition = Some c; grouping = None })
      (record { distinct = o.distinct; list = o.list; from = o.from; condition = Some (c, h); grouping = None; columns = o.columns; can_fail = o.can_fail; number = o.number }) refl p
  select_rolled o (Some c) (Some k) p h g = every_made-BoundSpecification _ _ _ _ _ _ (record o { condition = Some c; grouping = Some k })
      (record { distinct = o.distinct; list = o.list; from = o.from; condition = Some (c, h); grouping = Some (k, g); columns = o.columns; can_fail = o.can_fail; number = o.number }) refl p

  pub select_made : (q : BoundSpecification) → P q → ClauseWith P (out-BoundSpecification q).condition → GroupsWith P (out-BoundSpecification q).grouping → SelectWith P q
  select_made q p h g =
      let o = out-BoundSpecification q in
      subst (SelectWith P) (roll-out-BoundSpecification q) (select_rolled o o.condition o.grouping (subst P (sym (roll-out-BoundSpecification q)) p) h g)

  pub select_itself : (q : BoundSpecification) → SelectWith P q → P q
  select_itself q h = subst P (roll-out-BoundSpecification q) (every_here-BoundSpecification _ _ _ _ _ _ q h)

  abbrev bare_select : HeldSelect → Layer
  bare_select = map-BoundSpecification _ _ _ _ _ _ _ _ _ _ _ _ (λ e. e.0) (λ e. e.0) (λ e. e.0) (λ e. e.0) (λ e. e.0) (λ e. e.0)

  clauses_held : (o : HeldSelect) (condition : Option (Proved (CondWith P))) (grouping : Option (Proved (GroupingWith P)))
      → ClauseWith P (bare_select (record o { condition = condition; grouping = grouping })).condition × GroupsWith P (bare_select (record o { condition = condition; grouping = grouping })).grouping
  clauses_held o None None = (tt, tt)
  clauses_held o None (Some k) = (tt, k.1)
  clauses_held o (Some c) None = (c.1, tt)
  clauses_held o (Some c) (Some k) = (c.1, k.1)

  pub select_held : (q : BoundSpecification) → SelectWith P q → ClauseWith P (out-BoundSpecification q).condition × GroupsWith P (out-BoundSpecification q).grouping
  select_held q h =
      let held = every_held-BoundSpecification _ _ _ _ _ _ q h in
      subst (λ (y : Layer). ClauseWith P y.condition × GroupsWith P y.grouping) held.1 (clauses_held held.0 held.0.condition held.0.grouping)

-- ---- two things that hold of all, and together imply a third, imply it of all

all_both : {A : Type 0} (P S Q : A → Type 0) → ((x : A) → P x → S x → Q x) → (xs : List A) → AllByRecursion P xs → AllByRecursion S xs → AllByRecursion Q xs
all_both P S Q both [] h k = tt
all_both P S Q both (x ∷ xs) h k = (both x h.0 k.0, all_both P S Q both xs h.1 k.1)

module _ (P S Q : BoundSpecification → Type 0) (more : (q : BoundSpecification) → P q → S q → Q q) where
  abbrev Goes : {A : Type 0} → ((BoundSpecification → Type 0) → A → Type 0) → A → Type 0
  Goes With x = With P x → With S x → With Q x

  abbrev GP : Type 0
  GP = (x : Predicate) × Goes PredicateWith x

  abbrev GC : Type 0
  GC = (x : BoundCond) × Goes CondWith x

  abbrev GJ : Type 0
  GJ = (x : BoundConj) × Goes ConjWith x

  abbrev GS : Type 0
  GS = (x : BoundSpecification) × Goes SelectWith x

  abbrev GT : Type 0
  GT = (x : BoundTest) × Goes TestWith x

  abbrev GG : Type 0
  GG = (x : Grouping) × Goes GroupingWith x

  all_go : {A : Type 0} (With : (BoundSpecification → Type 0) → A → Type 0) (ys : List ((x : A) × Goes With x))
      → AllByRecursion (With P) (map (λ (e : (x : A) × Goes With x). e.0) ys) → AllByRecursion (With S) (map (λ (e : (x : A) × Goes With x). e.0) ys)
      → AllByRecursion (With Q) (map (λ (e : (x : A) × Goes With x). e.0) ys)
  all_go With [] h k = tt
  all_go With (y ∷ ys) h k = (y.1 h.0 k.0, all_go With ys h.1 k.1)

  layer_goes : (y : Predicate-F GP GC GJ GS GT GG) → Goes (λ R. LayerWith R) (map-Predicate GP GC GJ GS GT GG Predicate BoundCond BoundConj BoundSpecification BoundTest Grouping (λ e. e.0) (λ e. e.0) (λ e. e.0) (λ e. e.0) (λ e. e.0) (λ e. e.0) y)
  layer_goes (layer.Compare op a b) h k = tt
  layer_goes (layer.CompareQuery op every a q) h k = q.1 h k
  layer_goes (layer.Between n a low high) h k = tt
  layer_goes (layer.InQuery n a q) h k = q.1 h k
  layer_goes (layer.InList n a es) h k = tt
  layer_goes (layer.Like n a p e) h k = tt
  layer_goes (layer.Null n a) h k = tt
  layer_goes (layer.Exists q) h k = q.1 h k
  layer_goes (layer.Bracketed c) h k = c.1 h k

  predicate_step : (x : Predicate-F Predicate BoundCond BoundConj BoundSpecification BoundTest Grouping) → Goes (λ R. LayerWith R) x → Goes PredicateWith (roll-Predicate x)
  predicate_step x go h k =
      predicate_made Q x (go (subst (LayerWith P) (out-roll-Predicate x) (predicate_held P (roll-Predicate x) h)) (subst (LayerWith S) (out-roll-Predicate x) (predicate_held S (roll-Predicate x) k)))

  cond_step : (x : BoundCond-F Predicate BoundCond BoundConj BoundSpecification BoundTest Grouping) → (AllByRecursion (ConjWith P) x.terms → AllByRecursion (ConjWith S) x.terms → AllByRecursion (ConjWith Q) x.terms) → Goes CondWith (roll-BoundCond x)
  cond_step x go h k =
      cond_made Q (roll-BoundCond x) (subst (λ (y : BoundCond-F Predicate BoundCond BoundConj BoundSpecification BoundTest Grouping). AllByRecursion (ConjWith Q) y.terms) (sym (out-roll-BoundCond x))
      (go (subst (λ (y : BoundCond-F Predicate BoundCond BoundConj BoundSpecification BoundTest Grouping). AllByRecursion (ConjWith P) y.terms) (out-roll-BoundCond x) (cond_held P (roll-BoundCond x) h))
      (subst (λ (y : BoundCond-F Predicate BoundCond BoundConj BoundSpecification BoundTest Grouping). AllByRecursion (ConjWith S) y.terms) (out-roll-BoundCond x) (cond_held S (roll-BoundCond x) k))))

  conj_step : (x : BoundConj-F Predicate BoundCond BoundConj BoundSpecification BoundTest Grouping) → (AllByRecursion (TestWith P) x.tests → AllByRecursion (TestWith S) x.tests → AllByRecursion (TestWith Q) x.tests) → Goes ConjWith (roll-BoundConj x)
  conj_step x go h k =
      conj_made Q (roll-BoundConj x) (subst (λ (y : BoundConj-F Predicate BoundCond BoundConj BoundSpecification BoundTest Grouping). AllByRecursion (TestWith Q) y.tests) (sym (out-roll-BoundConj x))
      (go (subst (λ (y : BoundConj-F Predicate BoundCond BoundConj BoundSpecification BoundTest Grouping). AllByRecursion (TestWith P) y.tests) (out-roll-BoundConj x) (conj_held P (roll-BoundConj x) h))
      (subst (λ (y : BoundConj-F Predicate BoundCond BoundConj BoundSpecification BoundTest Grouping). AllByRecursion (TestWith S) y.tests) (out-roll-BoundConj x) (conj_held S (roll-BoundConj x) k))))

  test_goes : (t : BoundTest) → Goes PredicateWith t.predicate → Goes TestWith t
  test_goes t go h k = test_made Q t (go (test_held P t h) (test_held S t k))

  having_goes : (columns : List Place) (calls : List SetFunctionCall) (having : Option GC)
      → (let y = map-Grouping GP GC GJ GS GT GG Predicate BoundCond BoundConj BoundSpecification BoundTest Grouping (λ e. e.0) (λ e. e.0) (λ e. e.0) (λ e. e.0) (λ e. e.0) (λ e. e.0) (record { columns = columns; set_functions = calls; having = having }) in ClauseWith P y.having → ClauseWith S y.having → ClauseWith Q y.having)
  having_goes columns calls None h k = tt
  having_goes columns calls (Some c) h k = c.1 h k

  grouping_step : (x : Grouping-F Predicate BoundCond BoundConj BoundSpecification BoundTest Grouping) → (ClauseWith P x.having → ClauseWith S x.having → ClauseWith Q x.having) → Goes GroupingWith (roll-Grouping x)
  grouping_step x go h k =
      grouping_made Q (roll-Grouping x) (subst (λ (y : Grouping-F Predicate BoundCond BoundConj BoundSpecification BoundTest Grouping). ClauseWith Q y.having) (sym (out-roll-Grouping x))
      (go (subst (λ (y : Grouping-F Predicate BoundCond BoundConj BoundSpecification BoundTest Grouping). ClauseWith P y.having) (out-roll-Grouping x) (grouping_held P (roll-Grouping x) h))
      (subst (λ (y : Grouping-F Predicate BoundCond BoundConj BoundSpecification BoundTest Grouping). ClauseWith S y.having) (out-roll-Grouping x) (grouping_held S (roll-Grouping x) k))))

  abbrev HeldGoing : Type 0
  HeldGoing = BoundSpecification-F GP GC GJ GS GT GG

  abbrev bare_going : HeldGoing → BoundSpecification-F Predicate BoundCond BoundConj BoundSpecification BoundTest Grouping
  bare_going = map-BoundSpecification GP GC GJ GS GT GG Predicate BoundCond BoundConj BoundSpecification BoundTest Grouping (λ e. e.0) (λ e. e.0) (λ e. e.0) (λ e. e.0) (λ e. e.0) (λ e. e.0)

  condition_goes : (o : HeldGoing) (condition : Option GC) (grouping : Option GG)
      → (let y = bare_going (record o { condition = condition; grouping = grouping }) in ClauseWith P y.condition → ClauseWith S y.condition → ClauseWith Q y.condition)
  condition_goes o None g h k = tt
  condition_goes o (Some c) g h k = c.1 h k

  groups_go : (o : HeldGoing) (condition : Option GC) (grouping : Option GG)
      → (let y = bare_going (record o { condition = condition; grouping = grouping }) in GroupsWith P y.grouping → GroupsWith S y.grouping → GroupsWith Q y.grouping)
  groups_go o c None h k = tt
  groups_go o c (Some g) h k = g.1 h k

  select_step : (x : BoundSpecification-F Predicate BoundCond BoundConj BoundSpecification BoundTest Grouping) → (ClauseWith P x.condition → ClauseWith S x.condition → ClauseWith Q x.condition) → (GroupsWith P x.grouping → GroupsWith S x.grouping → GroupsWith Q x.grouping) → Goes SelectWith (roll-BoundSpecification x)
  select_step x go groups h k =
      let held = select_held P (roll-BoundSpecification x) h in
      let other = select_held S (roll-BoundSpecification x) k in
      let is = out-roll-BoundSpecification x in
      select_made Q (roll-BoundSpecification x) (more (roll-BoundSpecification x) (select_itself P (roll-BoundSpecification x) h) (select_itself S (roll-BoundSpecification x) k))
      (subst (λ (y : BoundSpecification-F Predicate BoundCond BoundConj BoundSpecification BoundTest Grouping). ClauseWith Q y.condition) (sym is)
      (go (subst (λ (y : BoundSpecification-F Predicate BoundCond BoundConj BoundSpecification BoundTest Grouping). ClauseWith P y.condition) is held.0)
      (subst (λ (y : BoundSpecification-F Predicate BoundCond BoundConj BoundSpecification BoundTest Grouping). ClauseWith S y.condition) is other.0)))
      (subst (λ (y : BoundSpecification-F Predicate BoundCond BoundConj BoundSpecification BoundTest Grouping). GroupsWith Q y.grouping) (sym is)
      (groups (subst (λ (y : BoundSpecification-F Predicate BoundCond BoundConj BoundSpecification BoundTest Grouping). GroupsWith P y.grouping) is held.1)
      (subst (λ (y : BoundSpecification-F Predicate BoundCond BoundConj BoundSpecification BoundTest Grouping). GroupsWith S y.grouping) is other.1)))

  predicate_both : (p : Predicate) → PredicateWith P p → PredicateWith S p → PredicateWith Q p
  predicate_both p = ind-Predicate (Goes PredicateWith) (Goes CondWith) (Goes ConjWith) (Goes SelectWith) (Goes TestWith) (Goes GroupingWith)
      (λ x y is. subst (λ z. Goes PredicateWith (roll-Predicate z)) is (predicate_step _ (layer_goes y)))
      (λ x y is. subst (λ z. Goes CondWith (roll-BoundCond z)) is (cond_step _ (all_go ConjWith y.terms)))
      (λ x y is. subst (λ z. Goes ConjWith (roll-BoundConj z)) is (conj_step _ (all_go TestWith y.tests)))
      (λ x y is. subst (λ z. Goes SelectWith (roll-BoundSpecification z)) is (select_step _ (condition_goes y y.condition y.grouping) (groups_go y y.condition y.grouping)))
      (λ x y is. subst (λ z. Goes TestWith (roll-BoundTest z)) is (test_goes _ y.predicate.1))
      (λ x y is. subst (λ z. Goes GroupingWith (roll-Grouping z)) is (grouping_step _ (having_goes y.columns y.set_functions y.having)))
      p

  test_both : (t : BoundTest) → TestWith P t → TestWith S t → TestWith Q t
  test_both t h k = test_made Q t (predicate_both t.predicate (test_held P t h) (test_held S t k))

  conj_both : (c : BoundConj) → ConjWith P c → ConjWith S c → ConjWith Q c
  conj_both c h k = conj_made Q c (all_both (TestWith P) (TestWith S) (TestWith Q) test_both (out-BoundConj c).tests (conj_held P c h) (conj_held S c k))

  pub cond_both : (c : BoundCond) → CondWith P c → CondWith S c → CondWith Q c
  cond_both c h k = cond_made Q c (all_both (ConjWith P) (ConjWith S) (ConjWith Q) conj_both (out-BoundCond c).terms (cond_held P c h) (cond_held S c k))

  clause_both : (clause : Option BoundCond) → ClauseWith P clause → ClauseWith S clause → ClauseWith Q clause
  clause_both None h k = tt
  clause_both (Some c) h k = cond_both c h k

  groups_both : (groups : Option Grouping) → GroupsWith P groups → GroupsWith S groups → GroupsWith Q groups
  groups_both None h k = tt
  groups_both (Some g) h k = grouping_made Q g (clause_both (out-Grouping g).having (grouping_held P g h) (grouping_held S g k))

  pub select_both : (q : BoundSpecification) → SelectWith P q → SelectWith S q → SelectWith Q q
  select_both q h k =
      let held = select_held P q h in
      let other = select_held S q k in
      select_made Q q (more q (select_itself P q h) (select_itself S q k)) (clause_both (out-BoundSpecification q).condition held.0 other.0) (groups_both (out-BoundSpecification q).grouping held.1 other.1)

-- ---- what holds of all, and implies something else, implies it of all

module _ (P Q : BoundSpecification → Type 0) (more : (q : BoundSpecification) → P q → Q q) where
  also : (q : BoundSpecification) → P q → P q → Q q
  also q h k = more q h

  pub test_more : (t : BoundTest) → TestWith P t → TestWith Q t
  test_more t h = test_both P P Q also t h h

  pub conj_more : (c : BoundConj) → ConjWith P c → ConjWith Q c
  conj_more c h = conj_both P P Q also c h h

  pub cond_more : (c : BoundCond) → CondWith P c → CondWith Q c
  cond_more c h = cond_both P P Q also c h h

  pub clause_more : (clause : Option BoundCond) → ClauseWith P clause → ClauseWith Q clause
  clause_more clause h = clause_both P P Q also clause h h

  pub groups_more : (groups : Option Grouping) → GroupsWith P groups → GroupsWith Q groups
  groups_more groups h = groups_both P P Q also groups h h

  pub select_more : (q : BoundSpecification) → SelectWith P q → SelectWith Q q
  select_more q h = select_both P P Q also q h h
