-- Parts of a query that are bound one after the other. Each adds its set functions to its query, numbers of subqueries to
-- the statement, and its findings. The first fault is the outcome.
use Rattle.std.specs.Prelude.{ℕ, ◌+◌, Bool, false, ◌||◌, List, [], ◌∷◌, ◌++◌, length, nat_lt, if◌then◌else◌, Ok, Err}
use Rattle.sq_bound.specs.Expression.{PlacedExpr}
use Rattle.sq_meaning.specs.declared.fault.BindingFault.{BindingFault}
use Rattle.sq_meaning.specs.declared.fault.BindingFault.TheVariants as fault
use Rattle.sq_binding.specs.Outcome.{Outcome, and_then}
use Rattle.sq_binding.specs.QueryFindings.{QueryFindings, both, nothing}

-- the number of set functions of the query before a part, and the number of the next subquery of the statement
pub record Counts : Type 0 where
  pub functions : ℕ
  pub subqueries : ℕ

-- a part that is bound
pub record Found (T : Type 0) : Type 0 where
  pub part : T
  -- the set functions that it adds, in the order of the text, and whether computing one of them may answer a status
  pub calls : List PlacedExpr
  pub calls_can_fail : Bool
  pub findings : QueryFindings
  -- the number of the next subquery
  pub subqueries : ℕ

abbrev pub Binding : Type 0 → Type 0
Binding A = Counts → Outcome (Found A)

abbrev pub after : {A : Type 0} → Counts → Found A → Counts
after counts x = record { functions = counts.functions + length x.calls; subqueries = x.subqueries }

-- the second of two parts, with the additions of both
abbrev pub joined : {A B : Type 0} → Found A → Found B → Found B
joined x y = record {
  part = y.part;
  calls = x.calls ++ y.calls;
  calls_can_fail = x.calls_can_fail || y.calls_can_fail;
  findings = both x.findings y.findings;
  subqueries = y.subqueries;
}

abbrev pub then_joined : {A B : Type 0} → Found A → Outcome (Found B) → Outcome (Found B)
then_joined x outcome = and_then outcome (λ y. Ok (joined x y))

infixl 10 ◌>>=◌
abbrev pub ◌>>=◌ : {A B : Type 0} → Binding A → (A → Binding B) → Binding B
b >>= f = λ counts. and_then (b counts) (λ x. then_joined x (f x.part (after counts x)))

infixl 10 ◌>>◌
abbrev pub ◌>>◌ : {A B : Type 0} → Binding A → Binding B → Binding B
b >> c = b >>= (λ _. c)

-- nothing is added
abbrev pub pure : {A : Type 0} → A → Binding A
pure x = λ counts. Ok (record {
  part = x;
  calls = [];
  calls_can_fail = false;
  findings = nothing;
  subqueries = counts.subqueries;
})

abbrev pub refused : {A : Type 0} → BindingFault → Binding A
refused f = λ counts. Err f

abbrev pub must : Bool → BindingFault → Binding (Unit {0})
must test f = if test then pure tt else refused f

-- a part that is refused if it has more than the most that are allowed (own rules)
abbrev pub at_most : {A : Type 0} → (most many : ℕ) → Binding A → Binding A
at_most most many b = if nat_lt most many then refused fault.LimitExceeded else b

abbrev pub has_found : QueryFindings → Binding (Unit {0})
has_found found = λ counts. Ok (record {
  part = tt;
  calls = [];
  calls_can_fail = false;
  findings = found;
  subqueries = counts.subqueries;
})

-- a part that adds nothing, and has its outcome by itself
abbrev pub outcome : {A : Type 0} → Outcome A → Binding A
outcome o = λ counts. and_then o (λ x. pure x counts)

-- each of a list in turn
abbrev pub each : {A B : Type 0} → (A → Binding B) → List A → Binding (List B)
each f [] = pure []
each f (x ∷ xs) = f x >>= λ y. each f xs >>= λ ys. pure (y ∷ ys)

-- the parts of a list that are bound so far, and the next one
abbrev pub with_next : {A : Type 0} → Found (List A) → Found A → Found (List A)
with_next x y = record {
  part = x.part ++ (y.part ∷ []);
  calls = x.calls ++ y.calls;
  calls_can_fail = x.calls_can_fail || y.calls_can_fail;
  findings = both x.findings y.findings;
  subqueries = y.subqueries;
}

-- with no set function of the query before it
abbrev pub from_first : {A : Type 0} → Binding A → Binding A
from_first b = λ counts. b (record counts { functions = 0 })
