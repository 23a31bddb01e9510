-- The subqueries of a bound search condition or query specification have numbers, each once, in order. They go from the number of the
-- next subquery before it up to the number after it (ISO/IEC 9075:1992, 7.9, 7.11 and 8.12).
use Rattle.std.proofs.Common.{◌≡◌, ℕ, suc, ◌+◌, Bool, true, false, List, [], ◌∷◌, ◌++◌, Option, Some, None, Ok, arith, option_to_list, refl, sym, ap, subst, ◌∙◌, append_assoc}
use Rattle.std.proofs.lemmas.List.{append-nil}
use Rattle.std.specs.Prelude.{nat_eq, if◌then◌else◌}
use Rattle.sq_meaning.specs.Environment.{Place}
use Rattle.sq_meaning.specs.Spelled.{Named}
use Rattle.sq_meaning.specs.Syntax.{Expr, Cond, Conds, Clause, Select}
use Rattle.sq_bound.specs.Expression.{PlacedExpr}
use Rattle.sq_value.specs.declared.domain.Kind.{Kind}
use Rattle.sq_binding.specs.Condition.{agreeing, as_subquery, cond_bound, escape_bound, select_bound}
use Rattle.sq_binding.specs.Found.{Counts, Found, after, each}
use Rattle.sq_binding.specs.Numbered.{Numbered}
use Rattle.sq_binding.specs.NumberedCondition.{NumberedClause, NumberedCond, NumberedConds, NumberedSelect, with_number}
use Rattle.sq_binding.specs.QueryFindings.{of_subquery}
use Rattle.sq_binding.specs.Select.{Surroundings, Typed, groups_by, value}
use Rattle.sq_binding.proofs.Inductions.AnyDepth.{AreCounted, clause_numbers, cond_numbers, conds_numbers, counted_append, groups_numbers, number_of, select_numbers}
use Rattle.sq_binding.proofs.Inductions.Pieces.{agreeing_holds, escape_holds, value_holds}
use Rattle.sq_binding.proofs.Inductions.QueryCases.{AddsNoNumber, QueryCases, cond_is, each_plain, select_is}
use Rattle.sq_binding.proofs.Inductions.Turns.{it_is}

-- ---- values add no numbers

pub value_plain : (a : Surroundings) (counts : Counts) (e : Expr Named) (x : Found Typed) → value a e counts ≡ Ok x → AddsNoNumber counts x
value_plain a counts e x is = it_is (AddsNoNumber counts) (value a e counts) x is (value_holds a counts (AddsNoNumber counts) e (λ b so. refl))

agreeing_plain : (a : Surroundings) (k : Kind) (es : List (Expr Named)) (counts : Counts) (ys : Found (List Numbered)) → each (agreeing a k) es counts ≡ Ok ys → AddsNoNumber counts ys
agreeing_plain a k es counts ys is =
    it_is (AddsNoNumber counts) (each (agreeing a k) es counts) ys is
    (each_plain (agreeing a k) (λ counts e. agreeing_holds a counts (AddsNoNumber counts) k e (λ x so alike. value_plain a counts e x so)) es counts)

escape_plain : (a : Surroundings) (escape : Option (Expr Named)) (counts : Counts) (z : Found (Option Numbered)) → escape_bound a escape counts ≡ Ok z → AddsNoNumber counts z
escape_plain a None counts z is = it_is (AddsNoNumber counts) (escape_bound a None counts) z is refl
escape_plain a (Some e) counts z is =
    it_is (AddsNoNumber counts) (escape_bound a (Some e) counts) z is (escape_holds a counts (AddsNoNumber counts) e (λ x so text. value_plain a counts e x so))

-- ---- a subquery has the next number, or none

-- The numbers in a query specification, which has none itself.
pub record SelectCounted (a : Surroundings) (counts : Counts) (s : Select Named) (x : Found NumberedSelect) : Type 0 where
  pub counted : AreCounted counts.subqueries x.subqueries (select_numbers x.part)
  pub unnumbered : number_of x.part ≡ None

numbered_last : (q : NumberedSelect) (first next : ℕ) → number_of q ≡ None → AreCounted first next (select_numbers q) → AreCounted first (next + 1) (select_numbers (with_number (Some next) q))
numbered_last (NumberedSelect.select distinct list from filter groups columns can_fail number) first next none h =
    let one : next + 1 ≡ suc next = omega arith in
    let inner : AreCounted first next (clause_numbers filter ++ groups_numbers groups) =
    subst (AreCounted first next) (ap (λ n. clause_numbers filter ++ (groups_numbers groups ++ option_to_list n)) none ∙ ap (λ l. clause_numbers filter ++ l) (append-nil (groups_numbers groups))) h in
    subst (AreCounted first (next + 1)) (append_assoc (clause_numbers filter) (groups_numbers groups) (next ∷ []))
    (counted_append first next (next + 1) (clause_numbers filter ++ groups_numbers groups) (next ∷ []) inner (refl, one))

as_counted : (a : Surroundings) (counts : Counts) (s : Select Named) (q : Found NumberedSelect) → SelectCounted a counts s q → AreCounted counts.subqueries (as_subquery q).subqueries (select_numbers (as_subquery q).part)
as_counted a counts s q h = if_closed (nat_eq q.findings.values.reach 0)
  where
    if_closed : (closed : Bool) → (let x : Found NumberedSelect = if closed then record q { part = with_number (Some q.subqueries) q.part; findings = of_subquery q.findings; subqueries = q.subqueries + 1 } else record q { findings = of_subquery q.findings } in
        AreCounted counts.subqueries x.subqueries (select_numbers x.part))
    if_closed true = numbered_last q.part counts.subqueries q.subqueries h.unnumbered h.counted
    if_closed false = h.counted

-- behind a value
beside_counted : (a : Surroundings) (counts : Counts) (e : Expr Named) (s : Select Named) (x : Found Typed) (q : Found NumberedSelect) → value a e counts ≡ Ok x → SelectCounted a (after counts x) s q
    → AreCounted counts.subqueries (as_subquery q).subqueries (select_numbers (as_subquery q).part)
beside_counted a counts e s x q is h = subst (λ n. AreCounted n (as_subquery q).subqueries (select_numbers (as_subquery q).part)) (value_plain a counts e x is) (as_counted a (after counts x) s q h)

groups_same : (by : List Place) (having : NumberedClause) (functions : List PlacedExpr) → groups_numbers (groups_by by having functions) ≡ clause_numbers having
groups_same [] NumberedClause.absent [] = refl
groups_same [] NumberedClause.absent (f ∷ functions) = refl
groups_same [] (NumberedClause.present c) functions = refl
groups_same (p ∷ by) having functions = refl

-- ---- all of them

abbrev CondCounted : Surroundings → Counts → Cond Named → Found NumberedCond → Type 0
CondCounted a counts c x = AreCounted counts.subqueries x.subqueries (cond_numbers x.part)

abbrev CondsCounted : Surroundings → Counts → Conds Named → Found NumberedConds → Type 0
CondsCounted a counts cs x = AreCounted counts.subqueries x.subqueries (conds_numbers x.part)

abbrev ClauseCounted : Surroundings → Counts → Clause Named → Found NumberedClause → Type 0
ClauseCounted a counts c x = AreCounted counts.subqueries x.subqueries (clause_numbers x.part)

cases : QueryCases CondCounted CondsCounted ClauseCounted SelectCounted
cases = record {
  of_compare = λ a counts op e f x y is so alike. value_plain a (after counts x) f y so ∙ value_plain a counts e x is;
  of_scalar = λ a counts op e s x q is h one. beside_counted a counts e s x q is h.1;
  of_quantified = λ a counts op k e s x q is h one. beside_counted a counts e s x q is h.1;
  of_between = λ a counts e low high x y z is so also alike same. value_plain a (after (after counts x) y) high z also ∙ value_plain a (after counts x) low y so ∙ value_plain a counts e x is;
  of_among = λ a counts e s x q is h one. beside_counted a counts e s x q is h.1;
  of_list = λ a counts e es x ys is so. agreeing_plain a x.part.kind es (after counts x) ys so ∙ value_plain a counts e x is;
  of_like = λ a counts e pattern escape x y z is so one two also. escape_plain a escape (after (after counts x) y) z also ∙ value_plain a (after counts x) pattern y so ∙ value_plain a counts e x is;
  of_null = λ a counts e x is. value_plain a counts e x is;
  of_exists = λ a counts s q h. as_counted a counts s q h.1;
  of_negated = λ a counts c x h. h.1;
  of_conjunction = λ a counts cs xs h. h;
  of_disjunction = λ a counts cs xs h. h;
  of_none = λ a counts. refl;
  of_test = λ a counts c cs x xs h g. counted_append counts.subqueries x.subqueries xs.subqueries (cond_numbers x.part) (conds_numbers xs.part) h.1 g;
  of_term = λ a counts c cs x xs h g. counted_append counts.subqueries x.subqueries xs.subqueries (cond_numbers x.part) (conds_numbers xs.part) h.1 g;
  of_absent = λ a counts. refl;
  of_present = λ a counts c x h. h.1;
  of_select = λ a counts distinct list from filter by having items kept places shown groups parts right. record {
    counted =
        subst (AreCounted counts.subqueries groups.subqueries)
        (λ i. clause_numbers kept.part ++ (sym (groups_same places.part groups.part (shown.calls ++ groups.calls)) ∙ sym (append-nil (groups_numbers (groups_by places.part groups.part (shown.calls ++ groups.calls))))) i)
        (counted_append counts.subqueries kept.subqueries groups.subqueries (clause_numbers kept.part) (clause_numbers groups.part) parts.filter_is.1 parts.having_is.1);
    unnumbered = refl;
  };
}

-- the numbers in a search condition are those from the next one before it up to the next one behind it
pub cond_counted : (c : Cond Named) (a : Surroundings) (counts : Counts) (x : Found NumberedCond) → cond_bound a c counts ≡ Ok x → AreCounted counts.subqueries x.subqueries (cond_numbers x.part)
cond_counted = cond_is CondCounted CondsCounted ClauseCounted SelectCounted cases

-- the subqueries in a query specification, which has no number itself, are counted
pub select_counted : (s : Select Named) (a : Surroundings) (counts : Counts) (x : Found NumberedSelect) → select_bound a s counts ≡ Ok x → SelectCounted a counts s x
select_counted = select_is CondCounted CondsCounted ClauseCounted SelectCounted cases
