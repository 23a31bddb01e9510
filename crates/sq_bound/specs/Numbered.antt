-- Numbers of subqueries. A subquery with a number reads no column of a query around it, so that it is evaluated once at most.
-- No two subqueries of a bound tree have one number.
use Rattle.std.specs.Prelude.{⊤, ◌≡◌, ◌≤◌, ◌<◌, ℕ, List, Option, Some, IfSome}
use Rattle.std.specs.List.{AllByRecursion}
use Rattle.sq_bound.specs.Columns.{IsClosed}
use Rattle.sq_bound.specs.Condition.{select_of}
use Rattle.sq_bound.specs.declared.condition.BoundCond.{BoundCond, every-BoundCond}
use Rattle.sq_bound.specs.declared.condition.BoundConj.{BoundConj, every-BoundConj}
use Rattle.sq_bound.specs.declared.condition.BoundSpecification.{BoundSpecification, every-BoundSpecification, out-BoundSpecification, roll-BoundSpecification}
use Rattle.sq_bound.specs.declared.condition.BoundTest.{BoundTest, every-BoundTest}
use Rattle.sq_bound.specs.declared.condition.Grouping.{Grouping, every-Grouping}
use Rattle.sq_bound.specs.declared.condition.Predicate.{Predicate, every-Predicate}

-- ---- P holds of each query specification in a bound tree, at any depth

module _ (P : BoundSpecification → Type 0) where
  abbrev pub PredicateWith : Predicate → Type 0
  PredicateWith =
      every-Predicate (λ y. ⊤) (λ y. ⊤) (λ y. ⊤) (λ y. P (roll-BoundSpecification y)) (λ y. ⊤) (λ y. ⊤)

  abbrev pub CondWith : BoundCond → Type 0
  CondWith = every-BoundCond (λ y. ⊤) (λ y. ⊤) (λ y. ⊤) (λ y. P (roll-BoundSpecification y)) (λ y. ⊤) (λ y. ⊤)

  abbrev pub ConjWith : BoundConj → Type 0
  ConjWith = every-BoundConj (λ y. ⊤) (λ y. ⊤) (λ y. ⊤) (λ y. P (roll-BoundSpecification y)) (λ y. ⊤) (λ y. ⊤)

  -- the query specification itself is among them
  abbrev pub SelectWith : BoundSpecification → Type 0
  SelectWith =
      every-BoundSpecification (λ y. ⊤) (λ y. ⊤) (λ y. ⊤) (λ y. P (roll-BoundSpecification y)) (λ y. ⊤)
      (λ y. ⊤)

  abbrev pub TestWith : BoundTest → Type 0
  TestWith = every-BoundTest (λ y. ⊤) (λ y. ⊤) (λ y. ⊤) (λ y. P (roll-BoundSpecification y)) (λ y. ⊤) (λ y. ⊤)

  abbrev pub GroupingWith : Grouping → Type 0
  GroupingWith =
      every-Grouping (λ y. ⊤) (λ y. ⊤) (λ y. ⊤) (λ y. P (roll-BoundSpecification y)) (λ y. ⊤) (λ y. ⊤)

  -- a clause that may be written
  abbrev pub ClauseWith : Option BoundCond → Type 0
  ClauseWith clause = IfSome clause CondWith

  abbrev pub GroupsWith : Option Grouping → Type 0
  GroupsWith groups = IfSome groups GroupingWith

-- in each tree of a list
abbrev pub EachWith : {T : Type 0} → ((BoundSpecification → Type 0) → T → Type 0)
    → (BoundSpecification → Type 0) → List T → Type 0
EachWith With P trees = AllByRecursion (With P) trees

-- ---- numbers

abbrev pub number_of : BoundSpecification → Option ℕ
number_of q = (out-BoundSpecification q).number

-- a query specification with a number reads no column of a query around it
abbrev pub IsRightlyNumbered : BoundSpecification → Type 0
IsRightlyNumbered q = IfSome (number_of q) (λ n. IsClosed (select_of q))

-- a query specification with a number is the one that the number names
abbrev pub IsNamed : (ℕ → Option BoundSpecification) → BoundSpecification → Type 0
IsNamed named q = IfSome (number_of q) (λ n. named n ≡ Some q)

-- the number is one from the first up to the next one
abbrev pub IsBetween : (first next : ℕ) → BoundSpecification → Type 0
IsBetween first next q = IfSome (number_of q) (λ n. (first ≤ n) × (n < next))

pub record IsNumbered (first next : ℕ) (named : ℕ → Option BoundSpecification)
    (q : BoundSpecification) : Type 0 where
  pub rightly : IsRightlyNumbered q
  pub between : IsBetween first next q
  pub is_named : IsNamed named q

-- the query specifications in a tree have numbers from the first up to the next one, each at most once: a number names one
abbrev pub AreNumbered : {T : Type 0} → ((BoundSpecification → Type 0) → T → Type 0) → (first next : ℕ) → T
    → Type 0
AreNumbered With first next t =
    (first ≤ next) × ((named : ℕ → Option BoundSpecification) × With (IsNumbered first next named) t)

-- each number in a tree names one query specification, which reads no column of a query around it
abbrev pub HaveNumbers : {T : Type 0} → ((BoundSpecification → Type 0) → T → Type 0) → T → Type 0
HaveNumbers With t = (first : ℕ) × ((next : ℕ) × AreNumbered With first next t)
