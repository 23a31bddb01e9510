-- A property of each bound expression, case by case: one induction for all laws.
use Rattle.std.proofs.Common.{◌≡◌, ℕ, ◌+◌, Bool, true, false, not, ◌&&◌, ◌||◌, List, length, Option, Ok, Err, refl, ap, subst}
use Rattle.std.specs.Prelude.{⊤, nat_lt, if◌then◌else◌}
use Rattle.std.specs.Result.{result_ok}
use Rattle.sq_value.specs.declared.domain.Domain.{Domain}
use Rattle.sq_value.specs.declared.domain.Kind.{Kind}
use Rattle.sq_value.specs.declared.domain.Kind.TheVariants.{Chars, Num}
use Rattle.sq_value.specs.declared.value.Value.{Value}
use Rattle.sq_tree.specs.declared.expr.SetFunction.{SetFunction}
use Rattle.sq_tree.specs.declared.expr.Sign.{Sign}
use Rattle.sq_tree.specs.declared.expr.TimesSign.{TimesSign}
use Rattle.sq_tree.specs.declared.names.ColumnReference.{ColumnReference}
use Rattle.sq_tree.specs.declared.names.Parameter.{Parameter}
use Rattle.sq_meaning.specs.Kind.{function_kind, kind_of_value}
use Rattle.sq_meaning.specs.Spelled.{Named}
use Rattle.sq_meaning.specs.Status as status
use Rattle.sq_meaning.specs.Syntax.{Expr, literal, parameter, user, column, count_rows, set_function, signed, added, scaled, bracketed}
use Rattle.sq_meaning.specs.Syntax as tree
use Rattle.sq_meaning.specs.Tables.{Declared}
use Rattle.sq_meaning.specs.WellFormed.{is_text}
use Rattle.sq_bound.specs.declared.expression.Operator.{Operator}
use Rattle.sq_meaning.specs.declared.fault.BindingFault.{BindingFault}
use Rattle.sq_meaning.specs.declared.fault.BindingFault.TheVariants as fault
use Rattle.sq_binding.specs.Expression.{Bound, bound, called, column_allowed, column_bound, count_bound, function_call, function_over, indicator_bound, kind_of_call, kind_operated, operands, operated_as, operated_kind, parameter_as, parameter_named, plain, product_operator, signed_as, signed_by, sum_operator, user_findings}
use Rattle.sq_binding.specs.Findings.{none}
use Rattle.sq_binding.specs.Numbered.{Numbered}
use Rattle.sq_binding.specs.Outcome.{Outcome, and_then, or_fault}
use Rattle.sq_binding.specs.Scope.{FoundColumn, Scope, column_meant}

-- a law, for each kind of expression
pub record Cases (scopes : List Scope) (parameters : List Declared) (P : Bool → ℕ → Expr Named → Bound → Type 0) : Type 0 where
  pub of_literal : (allowed : Bool) (n : ℕ) (v : Value) (k : Kind) → kind_of_value v ≡ Ok k → P allowed n (literal v) (plain (Numbered.literal v) k none)
  pub of_parameter : (allowed : Bool) (n : ℕ) (p : Parameter) (at : ℕ × Domain) (i : Option ℕ) → parameter_named parameters p.name ≡ Ok at → indicator_bound parameters p.indicator ≡ Ok i
      → P allowed n (parameter p) (parameter_as at i)
  pub of_user : (allowed : Bool) (n : ℕ) → P allowed n user (plain Numbered.user (Chars 18) user_findings)
  pub of_column : (allowed : Bool) (n : ℕ) (c : ColumnReference) (found : FoundColumn) → column_meant c scopes ≡ Ok found → P allowed n (column c) (column_bound found)
  pub of_count : (n : ℕ) → P true n count_rows (called n tree.count_rows (Num 0) true)
  pub of_function : (n : ℕ) (f : SetFunction) (distinct : Bool) (e : Expr Named) (x : Bound) (k : Kind) → P false 0 e x → nat_lt 0 x.findings.reach ≡ false → function_kind f x.kind ≡ Ok k
      → P true n (set_function f distinct e) (function_call n f distinct x k)
  pub of_signed : (allowed : Bool) (n : ℕ) (sign : Sign) (e : Expr Named) (x : Bound) → P allowed n e x → is_text x.kind ≡ false → P allowed n (signed sign e) (signed_by sign x)
  pub of_added : (allowed : Bool) (n : ℕ) (sign : Sign) (a b : Expr Named) (x y : Bound) (k : Kind) → P allowed n a x → P allowed (n + length x.calls) b y → operated_kind (sum_operator sign) x.kind y.kind ≡ Ok k
      → P allowed n (added sign a b) (operands (sum_operator sign) x y k)
  pub of_scaled : (allowed : Bool) (n : ℕ) (sign : TimesSign) (a b : Expr Named) (x y : Bound) (k : Kind) → P allowed n a x → P allowed (n + length x.calls) b y → operated_kind (product_operator sign) x.kind y.kind ≡ Ok k
      → P allowed n (scaled sign a b) (operands (product_operator sign) x y k)
  pub of_bracketed : (allowed : Bool) (n : ℕ) (e : Expr Named) (x : Bound) → P allowed n e x → P allowed n (bracketed e) x

-- a law, for each kind of expression, which may be the operand of a set function
pub record CasesInside (scopes : List Scope) (parameters : List Declared) (P : (allowed inside : Bool) → ℕ → Expr Named → Bound → Type 0) : Type 0 where
  pub of_literal : (allowed inside : Bool) (n : ℕ) (v : Value) (k : Kind) → kind_of_value v ≡ Ok k → P allowed inside n (literal v) (plain (Numbered.literal v) k none)
  pub of_parameter : (allowed inside : Bool) (n : ℕ) (p : Parameter) (at : ℕ × Domain) (i : Option ℕ) → parameter_named parameters p.name ≡ Ok at → indicator_bound parameters p.indicator ≡ Ok i
      → P allowed inside n (parameter p) (parameter_as at i)
  pub of_user : (allowed inside : Bool) (n : ℕ) → P allowed inside n user (plain Numbered.user (Chars 18) user_findings)
  pub of_column : (allowed inside : Bool) (n : ℕ) (c : ColumnReference) (found : FoundColumn) → column_meant c scopes ≡ Ok found → (nat_lt 0 found.depth && not found.is_grouped && not inside) ≡ false → P allowed inside n (column c) (column_bound found)
  pub of_count : (inside : Bool) (n : ℕ) → P true inside n count_rows (called n tree.count_rows (Num 0) true)
  pub of_function : (inside : Bool) (n : ℕ) (f : SetFunction) (distinct : Bool) (e : Expr Named) (x : Bound) (k : Kind) → P false true 0 e x → nat_lt 0 x.findings.reach ≡ false → function_kind f x.kind ≡ Ok k
      → P true inside n (set_function f distinct e) (function_call n f distinct x k)
  pub of_signed : (allowed inside : Bool) (n : ℕ) (sign : Sign) (e : Expr Named) (x : Bound) → P allowed inside n e x → is_text x.kind ≡ false → P allowed inside n (signed sign e) (signed_by sign x)
  pub of_added : (allowed inside : Bool) (n : ℕ) (sign : Sign) (a b : Expr Named) (x y : Bound) (k : Kind) → P allowed inside n a x → P allowed inside (n + length x.calls) b y → operated_kind (sum_operator sign) x.kind y.kind ≡ Ok k
      → P allowed inside n (added sign a b) (operands (sum_operator sign) x y k)
  pub of_scaled : (allowed inside : Bool) (n : ℕ) (sign : TimesSign) (a b : Expr Named) (x y : Bound) (k : Kind) → P allowed inside n a x → P allowed inside (n + length x.calls) b y → operated_kind (product_operator sign) x.kind y.kind ≡ Ok k
      → P allowed inside n (scaled sign a b) (operands (product_operator sign) x y k)
  pub of_bracketed : (allowed inside : Bool) (n : ℕ) (e : Expr Named) (x : Bound) → P allowed inside n e x → P allowed inside n (bracketed e) x

-- ---- what is bound

abbrev pub IfBound : (Bound → Type 0) → Outcome Bound → Type 0
IfBound P (Ok b) = P b
IfBound P (Err f) = ⊤

-- a step after which P holds
next_bound : {A : Type 0} (P : Bound → Type 0) (o : Outcome A) (f : A → Outcome Bound) → ((x : A) → o ≡ Ok x → IfBound P (f x)) → IfBound P (and_then o f)
next_bound P (Ok x) f h = h x refl
next_bound P (Err g) f h = tt

then_bound : (P Q : Bound → Type 0) (o : Outcome Bound) (f : Bound → Outcome Bound) → IfBound Q o → ((x : Bound) → Q x → IfBound P (f x)) → IfBound P (and_then o f)
then_bound P Q (Ok x) f q h = h x q
then_bound P Q (Err g) f q h = tt

-- where a test refuses nothing
unless : (P : Bound → Type 0) (g : BindingFault) (t : Bool) (o : Outcome Bound) → (t ≡ false → IfBound P o) → IfBound P (if t then Err g else o)
unless P g true o h = tt
unless P g false o h = h refl

kind_there : (g : BindingFault) (o : status.Outcome Kind) (k : Kind) → or_fault g (result_ok o) ≡ Ok k → o ≡ Ok k
kind_there g (Ok l) k e = let same : l ≡ k = cc in ap Ok same
kind_there g (Err other) k e = cc

operated_there : (op : Operator) (l r k : Kind) (t : Bool) → (if t then Err fault.KindMismatch else or_fault fault.LimitExceeded (result_ok (operated_kind op l r))) ≡ Ok k → operated_kind op l r ≡ Ok k
operated_there op l r k true e = cc
operated_there op l r k false e = kind_there fault.LimitExceeded (operated_kind op l r) k e

module _ (scopes : List Scope) (parameters : List Declared) (P : (allowed inside : Bool) → ℕ → Expr Named → Bound → Type 0) (cases : CasesInside scopes parameters P) where
  count_holds : (allowed inside : Bool) (n : ℕ) → IfBound (P allowed inside n count_rows) (count_bound allowed n)
  count_holds true inside n = cases.of_count inside n
  count_holds false inside n = tt

  function_holds : (allowed inside : Bool) (n : ℕ) (f : SetFunction) (distinct : Bool) (e : Expr Named) (x : Bound) → P false true 0 e x → IfBound (P allowed inside n (set_function f distinct e)) (function_over allowed n f distinct x)
  function_holds true inside n f distinct e x p =
      unless (P true inside n (set_function f distinct e)) fault.MisplacedSetFunction (nat_lt 0 x.findings.reach) (and_then (kind_of_call f x.kind) (λ k. Ok (function_call n f distinct x k)))
      (λ own. next_bound (P true inside n (set_function f distinct e)) (kind_of_call f x.kind) (λ k. Ok (function_call n f distinct x k)) (λ k is. cases.of_function inside n f distinct e x k p own (kind_there fault.KindMismatch (function_kind f x.kind) k is)))
  function_holds false inside n f distinct e x p = tt

  all_hold : (allowed inside : Bool) (e : Expr Named) (n : ℕ) → IfBound (P allowed inside n e) (bound scopes parameters allowed inside e n)
  all_hold allowed inside (literal v) n =
      next_bound (P allowed inside n (literal v)) (or_fault fault.KindMismatch (result_ok (kind_of_value v))) (λ k. Ok (plain (Numbered.literal v) k none))
      (λ k is. cases.of_literal allowed inside n v k (kind_there fault.KindMismatch (kind_of_value v) k is))
  all_hold allowed inside (parameter p) n =
      next_bound (P allowed inside n (parameter p)) (parameter_named parameters p.name) (λ at. and_then (indicator_bound parameters p.indicator) (λ i. Ok (parameter_as at i)))
      (λ at is. next_bound (P allowed inside n (parameter p)) (indicator_bound parameters p.indicator) (λ i. Ok (parameter_as at i)) (λ i so. cases.of_parameter allowed inside n p at i is so))
  all_hold allowed inside user n = cases.of_user allowed inside n
  all_hold allowed inside (column c) n =
      next_bound (P allowed inside n (column c)) (column_meant c scopes) (column_allowed inside)
      (λ found is. unless (P allowed inside n (column c)) fault.UngroupedColumn (nat_lt 0 found.depth && not found.is_grouped && not inside) (Ok (column_bound found)) (λ may. cases.of_column allowed inside n c found is may))
  all_hold allowed inside count_rows n = count_holds allowed inside n
  all_hold allowed inside (set_function f distinct e) n =
      then_bound (P allowed inside n (set_function f distinct e)) (P false true 0 e) (bound scopes parameters false true e 0) (function_over allowed n f distinct) (all_hold false true e 0) (function_holds allowed inside n f distinct e)
  all_hold allowed inside (signed sign e) n =
      then_bound (P allowed inside n (signed sign e)) (P allowed inside n e) (bound scopes parameters allowed inside e n) (signed_as sign) (all_hold allowed inside e n)
      (λ x p. unless (P allowed inside n (signed sign e)) fault.KindMismatch (is_text x.kind) (Ok (signed_by sign x)) (λ number. cases.of_signed allowed inside n sign e x p number))
  all_hold allowed inside (added sign a b) n =
      then_bound (P allowed inside n (added sign a b)) (P allowed inside n a) (bound scopes parameters allowed inside a n) (λ x. and_then (bound scopes parameters allowed inside b (n + length x.calls)) (operated_as (sum_operator sign) x))
      (all_hold allowed inside a n)
      (λ x p. then_bound (P allowed inside n (added sign a b)) (P allowed inside (n + length x.calls) b) (bound scopes parameters allowed inside b (n + length x.calls)) (operated_as (sum_operator sign) x)
      (all_hold allowed inside b (n + length x.calls))
      (λ y q. next_bound (P allowed inside n (added sign a b)) (kind_operated (sum_operator sign) x.kind y.kind) (λ k. Ok (operands (sum_operator sign) x y k))
      (λ k is. cases.of_added allowed inside n sign a b x y k p q (operated_there (sum_operator sign) x.kind y.kind k (is_text x.kind || is_text y.kind) is))))
  all_hold allowed inside (scaled sign a b) n =
      then_bound (P allowed inside n (scaled sign a b)) (P allowed inside n a) (bound scopes parameters allowed inside a n) (λ x. and_then (bound scopes parameters allowed inside b (n + length x.calls)) (operated_as (product_operator sign) x))
      (all_hold allowed inside a n)
      (λ x p. then_bound (P allowed inside n (scaled sign a b)) (P allowed inside (n + length x.calls) b) (bound scopes parameters allowed inside b (n + length x.calls)) (operated_as (product_operator sign) x)
      (all_hold allowed inside b (n + length x.calls))
      (λ y q. next_bound (P allowed inside n (scaled sign a b)) (kind_operated (product_operator sign) x.kind y.kind) (λ k. Ok (operands (product_operator sign) x y k))
      (λ k is. cases.of_scaled allowed inside n sign a b x y k p q (operated_there (product_operator sign) x.kind y.kind k (is_text x.kind || is_text y.kind) is))))
  all_hold allowed inside (bracketed e) n = bracketed_holds (bound scopes parameters allowed inside e n) (all_hold allowed inside e n)
    where
      bracketed_holds : (o : Outcome Bound) → IfBound (P allowed inside n e) o → IfBound (P allowed inside n (bracketed e)) o
      bracketed_holds (Ok x) p = cases.of_bracketed allowed inside n e x p
      bracketed_holds (Err f) p = tt

  -- the property holds of what an expression is bound to
  pub it_holds_inside : (allowed inside : Bool) (e : Expr Named) (n : ℕ) (b : Bound) → bound scopes parameters allowed inside e n ≡ Ok b → P allowed inside n e b
  it_holds_inside allowed inside e n b is = subst (IfBound (P allowed inside n e)) is (all_hold allowed inside e n)

-- where that has no bearing on it
abbrev outside : (Bool → ℕ → Expr Named → Bound → Type 0) → (allowed inside : Bool) → ℕ → Expr Named → Bound → Type 0
outside P allowed inside n e b = P allowed n e b

cases_outside : (scopes : List Scope) (parameters : List Declared) (P : Bool → ℕ → Expr Named → Bound → Type 0) → Cases scopes parameters P → CasesInside scopes parameters (outside P)
cases_outside scopes parameters P cases = record {
  of_literal = λ allowed inside n. cases.of_literal allowed n;
  of_parameter = λ allowed inside n. cases.of_parameter allowed n;
  of_user = λ allowed inside n. cases.of_user allowed n;
  of_column = λ allowed inside n c found is may. cases.of_column allowed n c found is;
  of_count = λ inside n. cases.of_count n;
  of_function = λ inside n. cases.of_function n;
  of_signed = λ allowed inside n. cases.of_signed allowed n;
  of_added = λ allowed inside n. cases.of_added allowed n;
  of_scaled = λ allowed inside n. cases.of_scaled allowed n;
  of_bracketed = λ allowed inside n. cases.of_bracketed allowed n;
}

pub it_holds : (scopes : List Scope) (parameters : List Declared) (P : Bool → ℕ → Expr Named → Bound → Type 0) → Cases scopes parameters P
    → (allowed inside : Bool) (e : Expr Named) (n : ℕ) (b : Bound) → bound scopes parameters allowed inside e n ≡ Ok b → P allowed n e b
it_holds scopes parameters P cases = it_holds_inside scopes parameters (outside P) (cases_outside scopes parameters P cases)
