-- Numbers of subqueries, part by part: if the parts of a tree have numbers in neighbouring ranges, the tree has all of them.
use Rattle.std.proofs.Common.{◌≡◌, ◌≤◌, ◌<◌, ◌+◌, ℕ, Bool, List, [], ◌∷◌, ◌++◌, Option, Some, None, refl, sym, ap, subst, ◌∙◌, arith}
use Rattle.std.proofs.lemmas.Bool.{lt-ltb, le-ltb}
use Rattle.std.specs.Prelude.{IfSome, if◌then◌else◌, nat_lt}
use Rattle.std.specs.List.{AllByRecursion}
use Rattle.sq_meaning.proofs.AnswerLaws.{all_appended, all_weaker}
use Rattle.sq_tree.specs.declared.cond.Comparison.{Comparison}
use Rattle.sq_bound.proofs.Nested.{cond_made, conj_made, test_made, predicate_made, grouping_made, select_made, select_held, clause_more, groups_more}
use Rattle.sq_bound.specs.Columns.{IsClosed}
use Rattle.sq_bound.specs.Condition.{select_of}
use Rattle.sq_bound.specs.Numbered.{AreNumbered, ClauseWith, CondWith, ConjWith, EachWith, GroupsWith, IsNumbered, PredicateWith, SelectWith, TestWith, number_of}
use Rattle.sq_bound.specs.declared.condition.BoundCond.{BoundCond, out-BoundCond}
use Rattle.sq_bound.specs.declared.condition.BoundConj.{BoundConj, out-BoundConj}
use Rattle.sq_bound.specs.declared.condition.BoundSpecification.{BoundSpecification, out-BoundSpecification}
use Rattle.sq_bound.specs.declared.condition.BoundTest.{BoundTest}
use Rattle.sq_bound.specs.declared.condition.Compared.{Compared}
use Rattle.sq_bound.specs.declared.condition.Grouping.{Grouping, out-Grouping}
use Rattle.sq_bound.specs.declared.condition.Predicate.TheOpen as layer
use Rattle.sq_bound.specs.declared.condition.Predicate.TheVariants as bound
use Rattle.sq_bound.specs.declared.expression.BoundExpr.{BoundExpr}

-- ---- two ranges, one behind the other

abbrev Named : Type 0
Named = ℕ → Option BoundSpecification

-- a number below the border is looked up on the left, and else on the right
abbrev side_by_side : (border : ℕ) → Named → Named → Named
side_by_side border left right n = if nat_lt n border then left n else right n

between_more : (number : Option ℕ) (a b c d : ℕ) → a ≤ b → c ≤ d → IfSome number (λ n. (b ≤ n) × (n < c)) → IfSome number (λ n. (a ≤ n) × (n < d))
between_more None a b c d low high h = tt
between_more (Some n) a b c d low high h = (omega (arith, h.0), omega (arith, h.1))

named_left : (number : Option ℕ) (a b : ℕ) (left right : Named) (q : BoundSpecification) → IfSome number (λ n. (a ≤ n) × (n < b)) → IfSome number (λ n. left n ≡ Some q)
    → IfSome number (λ n. side_by_side b left right n ≡ Some q)
named_left None a b left right q h is = tt
named_left (Some n) a b left right q h is = ap (λ below. if below then left n else right n) (lt-ltb n b h.1) ∙ is

named_right : (number : Option ℕ) (b c : ℕ) (left right : Named) (q : BoundSpecification) → IfSome number (λ n. (b ≤ n) × (n < c)) → IfSome number (λ n. right n ≡ Some q)
    → IfSome number (λ n. side_by_side b left right n ≡ Some q)
named_right None b c left right q h is = tt
named_right (Some n) b c left right q h is = ap (λ below. if below then left n else right n) (le-ltb n b h.0) ∙ is

module _ (a b c : ℕ) (left right : Named) where
  abbrev OnLeft : BoundSpecification → Type 0
  OnLeft = IsNumbered a b left

  abbrev OnRight : BoundSpecification → Type 0
  OnRight = IsNumbered b c right

  abbrev InBoth : BoundSpecification → Type 0
  InBoth = IsNumbered a c (side_by_side b left right)

  left_kept : b ≤ c → (q : BoundSpecification) → OnLeft q → InBoth q
  left_kept high q h = record {
    rightly = h.rightly;
    between = between_more (number_of q) a a b c (omega arith) high h.between;
    is_named = named_left (number_of q) a b left right q h.between h.is_named;
  }

  right_kept : a ≤ b → (q : BoundSpecification) → OnRight q → InBoth q
  right_kept low q h = record {
    rightly = h.rightly;
    between = between_more (number_of q) a b c c low (omega arith) h.between;
    is_named = named_right (number_of q) b c left right q h.between h.is_named;
  }

-- ---- two trees

-- what holds of all query specifications in a tree, and implies something else, implies it of all
abbrev pub Carries : {T : Type 0} → ((BoundSpecification → Type 0) → T → Type 0) → Type 1
Carries {T} With = (P Q : BoundSpecification → Type 0) → ((q : BoundSpecification) → P q → Q q) → (t : T) → With P t → With Q t

each_carries : {T : Type 0} (With : (BoundSpecification → Type 0) → T → Type 0) → Carries With → Carries (EachWith With)
each_carries With carries P Q more ts h = all_weaker (With P) (With Q) (carries P Q more) ts h

abbrev pub BothWith : {S T : Type 0} → ((BoundSpecification → Type 0) → S → Type 0) → ((BoundSpecification → Type 0) → T → Type 0) → (BoundSpecification → Type 0) → S × T → Type 0
BothWith First Second P both = First P both.0 × Second P both.1

pub both_numbered : {S T : Type 0} (First : (BoundSpecification → Type 0) → S → Type 0) (Second : (BoundSpecification → Type 0) → T → Type 0) → Carries First → Carries Second
    → (a b c : ℕ) (s : S) (t : T) → AreNumbered First a b s → AreNumbered Second b c t → AreNumbered (BothWith First Second) a c (s, t)
both_numbered First Second first second a b c s t h k =
    let left = h.1.0 in
    let right = k.1.0 in (
      omega (arith, h.0, k.0),
      (
        side_by_side b left right,
        (
          first (OnLeft a b c left right) (InBoth a b c left right) (left_kept a b c left right k.0) s h.1.1,
          second (OnRight a b c left right) (InBoth a b c left right) (right_kept a b c left right h.0) t k.1.1,
        ),
      ),
    )

-- the numbers of a part are those of the whole
pub part_numbered : {S T : Type 0} (Part : (BoundSpecification → Type 0) → S → Type 0) (Whole : (BoundSpecification → Type 0) → T → Type 0) (s : S) (t : T)
    → ((P : BoundSpecification → Type 0) → Part P s → Whole P t) → (a b : ℕ) → AreNumbered Part a b s → AreNumbered Whole a b t
part_numbered Part Whole s t made a b h = (h.0, (h.1.0, made (IsNumbered a b h.1.0) h.1.1))

-- a tree without a subquery has no number
pub none_numbered : {T : Type 0} (With : (BoundSpecification → Type 0) → T → Type 0) (t : T) → ((P : BoundSpecification → Type 0) → With P t) → (a : ℕ) → AreNumbered With a a t
none_numbered With t made a = (omega arith, (λ n. None, made (IsNumbered a a (λ n. None))))

-- ---- lists

-- a list with a further tree
pub next_numbered : {T : Type 0} (With : (BoundSpecification → Type 0) → T → Type 0) → Carries With → (a b c : ℕ) (ts all : List T) (t : T) → all ≡ ts ++ t ∷ []
    → AreNumbered (EachWith With) a b ts → AreNumbered With b c t → AreNumbered (EachWith With) a c all
next_numbered With carries a b c ts all t is h k =
    let both = both_numbered (EachWith With) With (each_carries With carries) carries a b c ts t h k in
    let P = IsNumbered a c both.1.0 in
    (both.0, (both.1.0, subst (AllByRecursion (With P)) (sym is) (all_appended (With P) ts (t ∷ []) both.1.1.0 (both.1.1.1, tt))))

-- ---- predicates and conditions

pub compare_numbered : (op : Comparison) (e f : BoundExpr) (a : ℕ) → AreNumbered PredicateWith a a (bound.Compare op e f)
compare_numbered op e f a = none_numbered PredicateWith (bound.Compare op e f) (λ P. subst (PredicateWith P) (bound.rolls-Compare op e f) (predicate_made P (layer.Compare op e f) tt)) a

pub between_numbered : (n : Bool) (e low high : BoundExpr) (a : ℕ) → AreNumbered PredicateWith a a (bound.Between n e low high)
between_numbered n e low high a =
    none_numbered PredicateWith (bound.Between n e low high) (λ P. subst (PredicateWith P) (bound.rolls-Between n e low high) (predicate_made P (layer.Between n e low high) tt)) a

pub in_list_numbered : (n : Bool) (e : BoundExpr) (es : List BoundExpr) (a : ℕ) → AreNumbered PredicateWith a a (bound.InList n e es)
in_list_numbered n e es a = none_numbered PredicateWith (bound.InList n e es) (λ P. subst (PredicateWith P) (bound.rolls-InList n e es) (predicate_made P (layer.InList n e es) tt)) a

pub like_numbered : (n : Bool) (e pattern : BoundExpr) (escape : Option BoundExpr) (a : ℕ) → AreNumbered PredicateWith a a (bound.Like n e pattern escape)
like_numbered n e pattern escape a =
    none_numbered PredicateWith (bound.Like n e pattern escape) (λ P. subst (PredicateWith P) (bound.rolls-Like n e pattern escape) (predicate_made P (layer.Like n e pattern escape) tt)) a

pub null_numbered : (n : Bool) (e : BoundExpr) (a : ℕ) → AreNumbered PredicateWith a a (bound.Null n e)
null_numbered n e a = none_numbered PredicateWith (bound.Null n e) (λ P. subst (PredicateWith P) (bound.rolls-Null n e) (predicate_made P (layer.Null n e) tt)) a

module _ (a b : ℕ) where
  pub compare_query_numbered : (op : Comparison) (k : Compared) (e : BoundExpr) (q : BoundSpecification) → AreNumbered SelectWith a b q → AreNumbered PredicateWith a b (bound.CompareQuery op k e q)
  compare_query_numbered op k e q =
      part_numbered SelectWith PredicateWith q (bound.CompareQuery op k e q) (λ P h. subst (PredicateWith P) (bound.rolls-CompareQuery op k e q) (predicate_made P (layer.CompareQuery op k e q) h)) a b

  pub in_query_numbered : (n : Bool) (e : BoundExpr) (q : BoundSpecification) → AreNumbered SelectWith a b q → AreNumbered PredicateWith a b (bound.InQuery n e q)
  in_query_numbered n e q =
      part_numbered SelectWith PredicateWith q (bound.InQuery n e q) (λ P h. subst (PredicateWith P) (bound.rolls-InQuery n e q) (predicate_made P (layer.InQuery n e q) h)) a b

  pub exists_numbered : (q : BoundSpecification) → AreNumbered SelectWith a b q → AreNumbered PredicateWith a b (bound.Exists q)
  exists_numbered q = part_numbered SelectWith PredicateWith q (bound.Exists q) (λ P h. subst (PredicateWith P) (bound.rolls-Exists q) (predicate_made P (layer.Exists q) h)) a b

  pub bracketed_numbered : (c : BoundCond) → AreNumbered CondWith a b c → AreNumbered PredicateWith a b (bound.Bracketed c)
  bracketed_numbered c = part_numbered CondWith PredicateWith c (bound.Bracketed c) (λ P h. subst (PredicateWith P) (bound.rolls-Bracketed c) (predicate_made P (layer.Bracketed c) h)) a b

  pub test_numbered : (t : BoundTest) → AreNumbered PredicateWith a b t.predicate → AreNumbered TestWith a b t
  test_numbered t = part_numbered PredicateWith TestWith t.predicate t (λ P. test_made P t) a b

  pub conj_numbered : (c : BoundConj) → AreNumbered (EachWith TestWith) a b (out-BoundConj c).tests → AreNumbered ConjWith a b c
  conj_numbered c = part_numbered (EachWith TestWith) ConjWith (out-BoundConj c).tests c (λ P. conj_made P c) a b

  pub cond_numbered : (c : BoundCond) → AreNumbered (EachWith ConjWith) a b (out-BoundCond c).terms → AreNumbered CondWith a b c
  cond_numbered c = part_numbered (EachWith ConjWith) CondWith (out-BoundCond c).terms c (λ P. cond_made P c) a b

  pub grouping_numbered : (g : Grouping) → AreNumbered ClauseWith a b (out-Grouping g).having → AreNumbered GroupsWith a b (Some g)
  grouping_numbered g = part_numbered ClauseWith GroupsWith (out-Grouping g).having (Some g) (λ P. grouping_made P g) a b

-- ---- query specifications

-- a query specification without a number of its own is numbered
unnumbered : (q : BoundSpecification) (a b : ℕ) (named : Named) → number_of q ≡ None → IsNumbered a b named q
unnumbered q a b named none = record {
  rightly = subst (λ number. IfSome number (λ n. IsClosed (select_of q))) (sym none) tt;
  between = subst (λ number. IfSome number (λ n. (a ≤ n) × (n < b))) (sym none) tt;
  is_named = subst (λ number. IfSome number (λ n. named n ≡ Some q)) (sym none) tt;
}

-- a query specification without a number of its own has the numbers of its clauses
pub clauses_numbered : (q : BoundSpecification) (a b c : ℕ) → number_of q ≡ None → AreNumbered ClauseWith a b (out-BoundSpecification q).condition → AreNumbered GroupsWith b c (out-BoundSpecification q).grouping
    → AreNumbered SelectWith a c q
clauses_numbered q a b c none h k =
    let o = out-BoundSpecification q in
    let both = both_numbered ClauseWith GroupsWith clause_more groups_more a b c o.condition o.grouping h k in
    (both.0, (both.1.0, select_made (IsNumbered a c both.1.0) q (unnumbered q a c both.1.0 none) both.1.1.0 both.1.1.1))

-- one that gets the next number
module _ (q r : BoundSpecification) (same_condition : (out-BoundSpecification r).condition ≡ (out-BoundSpecification q).condition) (same_groups : (out-BoundSpecification r).grouping ≡ (out-BoundSpecification q).grouping) where
  again : (P : BoundSpecification → Type 0) → P r → ClauseWith P (out-BoundSpecification q).condition × GroupsWith P (out-BoundSpecification q).grouping → SelectWith P r
  again P itself h = select_made P r itself (subst (ClauseWith P) (sym same_condition) h.0) (subst (GroupsWith P) (sym same_groups) h.1)

  pub still_numbered : (a b : ℕ) → number_of r ≡ None → AreNumbered SelectWith a b q → AreNumbered SelectWith a b r
  still_numbered a b none h =
      let P = IsNumbered a b h.1.0 in
      (h.0, (h.1.0, again P (unnumbered r a b h.1.0 none) (select_held P q h.1.1)))

  pub newly_numbered : (a b : ℕ) → number_of r ≡ Some b → IsClosed (select_of r) → AreNumbered SelectWith a b q → AreNumbered SelectWith a (b + 1) r
  newly_numbered a b number closed h =
      let left = h.1.0 in
      let right : Named = λ n. Some r in
      let named = side_by_side b left right in
      let P = IsNumbered a (b + 1) named in
      let own : OnRight a b (b + 1) left right r = record {
        rightly = subst (λ number. IfSome number (λ n. IsClosed (select_of r))) (sym number) closed;
        between = subst (λ number. IfSome number (λ n. (b ≤ n) × (n < b + 1))) (sym number) (omega arith, omega arith);
        is_named = subst (λ number. IfSome number (λ n. right n ≡ Some r)) (sym number) refl;
      } in
      let clauses = select_held (IsNumbered a b left) q h.1.1 in
      let kept = left_kept a b (b + 1) left right (omega arith) in (
        omega (arith, h.0),
        (
          named,
          again P (right_kept a b (b + 1) left right h.0 r own)
              (clause_more (IsNumbered a b left) P kept (out-BoundSpecification q).condition clauses.0, groups_more (IsNumbered a b left) P kept (out-BoundSpecification q).grouping clauses.1),
        ),
      )
