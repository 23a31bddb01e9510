-- No value expression is bound to the null value: a text spells it as NULL alone, which is no value expression (ISO/IEC 9075:1992, 6.11).
use Rattle.std.proofs.Common.{◌≡◌, ℕ, ◌+◌, Bool, true, false, not, ◌&&◌, ◌||◌, List, length, Ok, Err, refl, sym, ap, ◌∙◌}
use Rattle.std.specs.Prelude.{nat_lt, if◌then◌else◌}
use Rattle.sq_value.specs.declared.domain.Kind.{Kind}
use Rattle.sq_value.specs.declared.value.Value.{Value}
use Rattle.sq_value.specs.declared.value.Value.TheVariants.{Null, Num, Chars}
use Rattle.sq_meaning.specs.Spelled.{Named}
use Rattle.sq_meaning.specs.Syntax.{Expr, literal, parameter, user, column, count_rows, set_function, signed, added, scaled, bracketed}
use Rattle.sq_meaning.specs.Tables.{Declared}
use Rattle.sq_meaning.specs.WellFormed.{is_text}
use Rattle.sq_meaning.specs.declared.fault.BindingFault.{BindingFault}
use Rattle.sq_meaning.specs.declared.fault.BindingFault.TheVariants as fault
use Rattle.sq_bound.specs.declared.expression.BoundExpr.{BoundExpr}
use Rattle.sq_binding.specs.Condition.{agreeing, must_agree}
use Rattle.sq_binding.specs.Expression.{Bound, bound, called, column_allowed, column_bound, function_call, function_over, indicator_bound, kind_of_call, kind_operated, literal_bound, operands, operated_as, parameter_as, parameter_named, plain, product_operator, signed_as, signed_by, sum_operator, user_findings}
use Rattle.sq_binding.specs.Findings.{none}
use Rattle.sq_binding.specs.Found.{Counts, Found, ◌>>◌, after, pure}
use Rattle.sq_binding.specs.Numbered.{Numbered}
use Rattle.sq_binding.specs.Outcome.{Outcome, and_then}
use Rattle.sq_binding.specs.Scope.{Scope, column_meant}
use Rattle.sq_binding.specs.Seen.{numbered_of}
use Rattle.sq_binding.specs.Select.{Surroundings, Typed, value, value_found}
use Rattle.sq_binding.proofs.Faultless.CleanConds.{after_of}
use Rattle.sq_binding.specs.There.{IsPlain}
use Rattle.sq_binding.proofs.WellFormed.Rows.{part_of, pure_part}
use Rattle.sq_meaning.specs.Syntax as tree
use Rattle.sq_value.specs.declared.domain.Kind.TheVariants as kind

abbrev null : Numbered
null = Numbered.literal Null

-- what is bound is not the null value
abbrev NotNull : Outcome Bound → Type 0
NotNull o = (b : Bound) → o ≡ Ok b → b.tree ≡ null → ⊥

of_fault : (f : BindingFault) → NotNull (Err f)
of_fault f b is e = cc

of_tree : (x : Bound) → (x.tree ≡ null → ⊥) → NotNull (Ok x)
of_tree x never b is e = let same : x ≡ b = cc in never (ap (λ (b : Bound). b.tree) same ∙ e)

of_step : {A : Type 0} (o : Outcome A) (f : A → Outcome Bound) → ((x : A) → NotNull (f x)) → NotNull (and_then o f)
of_step (Ok x) f h = h x
of_step (Err g) f h = λ b is e. cc

of_test : (t : Bool) (p q : Outcome Bound) → NotNull p → NotNull q → NotNull (if t then p else q)
of_test true p q h k = h
of_test false p q h k = k

of_literal : (v : Value) → NotNull (literal_bound v)
of_literal Null = of_fault fault.KindMismatch
of_literal (Num n) = λ b is e. let same : Numbered.literal (Num n) ≡ b.tree = cc in let no : Numbered.literal (Num n) ≡ null = same ∙ e in cc
of_literal (Chars c) = λ b is e. let same : Numbered.literal (Chars c) ≡ b.tree = cc in let no : Numbered.literal (Chars c) ≡ null = same ∙ e in cc

module _ (scopes : List Scope) (parameters : List Declared) where
  pub bound_not_null : (allowed inside : Bool) (e : Expr Named) (n : ℕ) → NotNull (bound scopes parameters allowed inside e n)
  bound_not_null allowed inside (literal v) n = of_literal v
  bound_not_null allowed inside (parameter p) n =
      of_step (parameter_named parameters p.name) (λ at. and_then (indicator_bound parameters p.indicator) (λ i. Ok (parameter_as at i)))
      (λ at. of_step (indicator_bound parameters p.indicator) (λ i. Ok (parameter_as at i)) (λ i. of_tree (parameter_as at i) (λ e. cc)))
  bound_not_null allowed inside user n = of_tree (plain Numbered.user (kind.Chars 18) user_findings) (λ e. cc)
  bound_not_null allowed inside (column c) n =
      of_step (column_meant c scopes) (column_allowed inside)
      (λ found. of_test (nat_lt 0 found.depth && not found.is_grouped && not inside) (Err fault.UngroupedColumn) (Ok (column_bound found)) (of_fault fault.UngroupedColumn) (of_tree (column_bound found) (λ e. cc)))
  bound_not_null allowed inside count_rows n =
      of_test allowed (Ok (called n tree.count_rows (kind.Num 0) true)) (Err fault.MisplacedSetFunction) (of_tree (called n tree.count_rows (kind.Num 0) true) (λ e. cc)) (of_fault fault.MisplacedSetFunction)
  bound_not_null allowed inside (set_function function distinct e) n =
      of_step (bound scopes parameters false true e 0) (function_over allowed n function distinct)
      (λ x. of_test (not allowed || nat_lt 0 x.findings.reach) (Err fault.MisplacedSetFunction) (and_then (kind_of_call function x.kind) (λ k. Ok (function_call n function distinct x k))) (of_fault fault.MisplacedSetFunction)
      (of_step (kind_of_call function x.kind) (λ k. Ok (function_call n function distinct x k)) (λ k. of_tree (function_call n function distinct x k) (λ e. cc))))
  bound_not_null allowed inside (signed sign e) n =
      of_step (bound scopes parameters allowed inside e n) (signed_as sign)
      (λ x. of_test (is_text x.kind) (Err fault.KindMismatch) (Ok (signed_by sign x)) (of_fault fault.KindMismatch) (of_tree (signed_by sign x) (λ e. cc)))
  bound_not_null allowed inside (added sign a b) n =
      of_step (bound scopes parameters allowed inside a n) (λ x. and_then (bound scopes parameters allowed inside b (n + length x.calls)) (operated_as (sum_operator sign) x))
      (λ x. of_step (bound scopes parameters allowed inside b (n + length x.calls)) (operated_as (sum_operator sign) x)
      (λ y. of_step (kind_operated (sum_operator sign) x.kind y.kind) (λ k. Ok (operands (sum_operator sign) x y k)) (λ k. of_tree (operands (sum_operator sign) x y k) (λ e. cc))))
  bound_not_null allowed inside (scaled sign a b) n =
      of_step (bound scopes parameters allowed inside a n) (λ x. and_then (bound scopes parameters allowed inside b (n + length x.calls)) (operated_as (product_operator sign) x))
      (λ x. of_step (bound scopes parameters allowed inside b (n + length x.calls)) (operated_as (product_operator sign) x)
      (λ y. of_step (kind_operated (product_operator sign) x.kind y.kind) (λ k. Ok (operands (product_operator sign) x y k)) (λ k. of_tree (operands (product_operator sign) x y k) (λ e. cc))))
  bound_not_null allowed inside (bracketed e) n = bound_not_null allowed inside e n

value_not_null : (a : Surroundings) (w : Expr Named) (counts : Counts) (x : Found Typed) → value a w counts ≡ Ok x → x.part.tree ≡ null → ⊥
value_not_null a w counts x is is_null =
    by (bound a.scopes a.parameters a.functions_allowed false w counts.functions) (bound_not_null a.scopes a.parameters a.functions_allowed false w counts.functions) is
  where
    by : (o : Outcome Bound) → NotNull o → and_then o (λ b. Ok (value_found counts b)) ≡ Ok x → ⊥
    by (Ok b) h e = let same : value_found counts b ≡ x = cc in h b refl (ap (λ (x : Found Typed). x.part.tree) same ∙ is_null)
    by (Err f) h e = cc

-- a value that agrees with its column is none that is seen as NULL
pub agreeing_plain : (a : Surroundings) (k : Kind) (w : Expr Named) (counts : Counts) (x : Found Numbered) → agreeing a k w counts ≡ Ok x → (e : BoundExpr) → numbered_of e ≡ x.part → IsPlain e
agreeing_plain a k w counts x is e same = λ is_null.
    let s = after_of (value a w) (λ x. must_agree k x.kind >> pure x.tree) counts x is in
    let t = after_of (must_agree k s.first.part.kind) (λ u. pure s.first.part.tree) (after counts s.first) s.second s.is_second in
    let part : x.part ≡ s.first.part.tree = part_of s ∙ part_of t ∙ pure_part s.first.part.tree (after (after counts s.first) t.first) t.second t.is_second in
    absurd (value_not_null a w counts s.first s.is_first (sym part ∙ sym same ∙ is_null))
