-- How the rows of the items of FROM are found, as far as it is known before any call (ISO/IEC 9075:1992, 7.4 and 7.6; own rule).
use Rattle.std.specs.Prelude.{◌≡◌, ℕ, map, List, []}
use Rattle.std.specs.List.{AllZip}
use Rattle.sq_lex.specs.declared.name.Name.{Name}
use Rattle.sq_value.specs.declared.value.Value.{Value}
use Rattle.sq_meaning.specs.Syntax.{conds, conjunction}
use Rattle.sq_bound.specs.Condition.{test_of}
use Rattle.sq_bound.specs.declared.condition.BoundCond.{BoundCond}
use Rattle.sq_bound.specs.declared.condition.BoundTest.{BoundTest}
use Rattle.sq_bound.specs.declared.expression.BoundExpr.{BoundExpr}
use Rattle.sq_query.specs.Named.{AreTrusted, IsFalseAt, IsFalseBy, IsFalseOf}
use Rattle.sq_query.specs.Sought.{IsSameOnLines}
use Rattle.sq_query.specs.declared.named.Sure.{Sure}
use Rattle.sq_query.specs.declared.sought.Sought.{Sought}

-- Expressions find the rows of an item by a column: whatever is known of the lines in a call, and whatever the parameters are, if each
-- expression has one value on all lines, and it is not null, something is false of each line whose row has none of the values.
abbrev pub FindRows : (item : ℕ) → (Sought → List Value → Name → ℕ → List Value → Type 0) → ℕ
    → List BoundExpr → Type 0
FindRows item IsFalse n es =
    (s : Sought) (parameters : List Value) (user : Name) (vs : List Value) → s.item ≡ item
    → AllZip (IsSameOnLines s parameters user) es vs → IsFalse s parameters user n vs

-- a condition is false, a test, or tests joined by AND
abbrev pub IsFoundBy : ℕ → Sure → BoundCond → ℕ → List BoundExpr → Type 0
IsFoundBy item sure own = FindRows item (λ s parameters user. IsFalseOf s sure parameters user own)

abbrev pub IsFoundByTest : ℕ → Sure → BoundTest → ℕ → List BoundExpr → Type 0
IsFoundByTest item sure test = FindRows item (λ s parameters user. IsFalseBy s sure parameters user test)

abbrev pub IsFoundByTests : ℕ → Sure → List BoundTest → ℕ → List BoundExpr → Type 0
IsFoundByTests item sure tests =
    FindRows item (λ s parameters user.
    IsFalseAt s parameters user (AreTrusted sure tests) (conjunction (conds (map (test_of []) tests))))
