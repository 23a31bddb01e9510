-- Where a set function of a group ends with a status.
use Rattle.std.proofs.Common.{◌≡◌, inl, inr, ℕ, zero, suc, ◌+◌, ◌<◌, ◌≤◌, List, [], ◌∷◌, ◌++◌, length, take, drop, map, get_or, Option, Some, None, Result, refl, sym, ◌∙◌, ap, subst, Ok, Err, arith}
use Rattle.std.specs.Prelude.{IfOk}
use Rattle.std.specs.List.{AllByRecursion}
use Rattle.std.specs.declared.alloc.AllocError.{AllocError}
use Rattle.std.proofs.lemmas.List.{drop_more, map-append, take-append-drop}
use Rattle.std.proofs.lemmas.Option.{slice_get_read}
use Rattle.sq_value.specs.declared.value.Value.{Value}
use Rattle.sq_meaning.specs.Environment.{Row, Line}
use Rattle.sq_meaning.specs.Expression.{distinct_values, function_value}
use Rattle.sq_meaning.specs.Status.{Outcome, and_then, each}
use Rattle.sq_meaning.specs.declared.status.Status.{Status}
use Rattle.sq_meaning.proofs.OutcomeLaws.{each_map}
use Rattle.sq_bound.specs.declared.expression.Aggregate.{Aggregate}
use Rattle.sq_bound.specs.declared.expression.BoundExpr.{BoundExpr}
use Rattle.sq_bound.specs.declared.expression.SetFunctionCall.{SetFunctionCall}
use Rattle.sq_bound.specs.declared.expression.SetFunctionCall.TheVariants.{Over}
use Rattle.sq_ending.specs.Ending.{HasOperands, IsOfGroup, Seen, function_on, value_on}
use Rattle.sq_ending.specs.Functions.{EndsAsCall, FindsLine, FindsOperand, IsCallEnd, IsEndOf, IsLineEnd}
use Rattle.sq_ending.specs.Kept.{IsPlaced, line_of, lines_of}
use Rattle.sq_ending.specs.Walk.{line_at}
use Rattle.sq_ending.specs.declared.ends.Clause.TheVariants as clause
use Rattle.sq_ending.specs.declared.ends.QueryEnd.{QueryEnd}
use Rattle.sq_ending.specs.declared.kept.Placed.{Placed}
use Rattle.sq_expression.proofs.Kept.{no_status}
use Rattle.sq_ending.proofs.GroupRows.{each_stops}
use Rattle.sq_ending.proofs.ListEnds.{item_more, items_fine}

abbrev to_line : Placed → Line
to_line p = line_of p

-- ---- an operand, line by line

placed_at : (tables : List (List Row)) (group : List Placed) (i : ℕ) (p : Placed) → i < length group → p ≡ get_or group i p → AllByRecursion (IsPlaced tables) group → IsPlaced tables p
placed_at tables [] i p within is all = absurd (omega arith)
placed_at tables (y ∷ group) zero p within is all = subst (λ (q : Placed). IsPlaced tables q) (sym is) all.0
placed_at tables (y ∷ group) (suc i) p within is all = placed_at tables group i p (omega arith) is all.1

module _ (seen : Seen) (group : List Placed) (operand : BoundExpr) (i : ℕ) (p : Placed) (within : i < length group) (is : p ≡ get_or group i p) (before : List Value)
    (fine : each (λ (l : Placed). value_on seen (to_line l) operand) (take i group) ≡ Ok before) where
  cut : group ≡ take i group ++ p ∷ drop (i + 1) group
  cut = sym (take-append-drop i group) ∙ ap (λ (rest : List Placed). take i group ++ rest) (drop_more group i p within ∙ ap (λ (q : Placed). q ∷ drop (i + 1) group) (sym is))

  pub line_ends : (number : ℕ) (e : QueryEnd) → e.end.clause ≡ clause.Operand number → e.line.items ≡ p.places.items → value_on seen (to_line p) operand ≡ Err e.end.status → IsLineEnd seen group number operand e
  line_ends number e in_clause at ends = record {
    in_clause = in_clause;
    ends =
        ap (λ (ls : List Placed). each (λ l. value_on seen l operand) (map to_line ls)) cut
        ∙ each_map to_line (λ l. value_on seen l operand) (take i group ++ p ∷ drop (i + 1) group)
        ∙ each_stops (λ (l : Placed). value_on seen (to_line l) operand) (take i group) (drop (i + 1) group) p before e.end.status fine ends;
    first = λ tables all. record {
      before = map to_line (take i group);
      line = to_line p;
      behind = map to_line (drop (i + 1) group);
      among = ap (map to_line) cut ∙ map-append to_line (take i group) (p ∷ drop (i + 1) group);
      is = ap (line_at tables) at ∙ placed_at tables group i p within is all;
      ends = ends;
      values = before;
      fine = each_map to_line (λ l. value_on seen l operand) (take i group) ∙ fine;
    };
  }

-- ---- a set function

operand_whole : (seen : Seen) (group : List Placed) (number : ℕ) (a : Aggregate) (e : QueryEnd) → IsLineEnd seen group number a.operand e → function_on seen (lines_of group) (Over a) ≡ Err e.end.status
operand_whole seen group number a e h = ap (λ (o : Outcome (List Value)). and_then o (λ values. function_value a.function (distinct_values a.distinct values))) h.ends

pub in_operand : (seen : Seen) (group : List Placed) (number : ℕ) (call : SetFunctionCall) (e : QueryEnd) → FindsOperand seen group number call (Some e) → EndsAsCall seen group number call e
in_operand seen group number call e (a, is, h) = (ap (function_on seen (lines_of group)) is ∙ operand_whole seen group number a e h, inl (a, is, h))

pub in_itself : (seen : Seen) (group : List Placed) (number : ℕ) (call : SetFunctionCall) (status : Status) (r : Result QueryEnd AllocError) → function_on seen (lines_of group) call ≡ Err status → HasOperands seen (lines_of group) call
    → IfOk r (λ e. IsEndOf e (clause.SetFunction number) status) → ((tables : List (List Row)) → AllByRecursion (IsPlaced tables) group → IfOk r (λ e. IsOfGroup tables e.line.items (lines_of group)))
    → IfOk r (EndsAsCall seen group number call)
in_itself seen group number call status (Err error) ends operands end told = tt
in_itself seen group number call status (Ok e) ends operands (in_clause, with) told =
    (ends ∙ ap (λ (s : Status). let o : Outcome Value = Err s in o) (sym with), inr (record { in_clause = in_clause; operands = operands; of_group = told }))

-- of an aggregate
pub of_aggregate : (seen : Seen) (group : List Placed) (number : ℕ) (call : SetFunctionCall) (a : Aggregate) (operand : BoundExpr) → call ≡ Over a → operand ≡ a.operand → (r : Result (Option QueryEnd) AllocError)
    → IfOk r (FindsLine seen group number operand) → IfOk r (FindsOperand seen group number call)
of_aggregate seen group number call a operand is same (Err error) h = tt
of_aggregate seen group number call a operand is same (Ok None) (values, are) =
    subst (HasOperands seen (lines_of group)) (sym is) (values, ap (λ (x : BoundExpr). each (λ l. value_on seen l x) (lines_of group)) (sym same) ∙ are)
of_aggregate seen group number call a operand is same (Ok (Some e)) h = (a, is, subst (λ (x : BoundExpr). IsLineEnd seen group number x e) same h)

pub lines_fine : (seen : Seen) (group : List Placed) (operand : BoundExpr) (i : ℕ) → length group ≤ i → (values : List Value) × (each (λ (p : Placed). value_on seen (to_line p) operand) (take i group) ≡ Ok values)
    → (values : List Value) × (each (λ l. value_on seen l operand) (lines_of group) ≡ Ok values)
lines_fine seen group operand i past h =
    let all = items_fine (λ (p : Placed). value_on seen (to_line p) operand) group i past h in
    (all.0, each_map to_line (λ l. value_on seen l operand) group ∙ all.1)

-- ---- the set functions of a group, one after another

only_one : {A : Type 0} (f : A → Outcome Value) (x : A) (calls : List A) → calls ≡ x ∷ [] → (values : List Value) → each f calls ≡ Ok values → (y : Value) × (f x ≡ Ok y)
only_one f x calls is values h = by (f x) refl (sym (ap (each f) is) ∙ h)
  where
    by : (o : Outcome Value) → f x ≡ o → and_then o (λ y. Ok (y ∷ [])) ≡ Ok values → (y : Value) × (f x ≡ Ok y)
    by (Ok y) here e = (y, here)
    by (Err s) here e = no_status _ s values e

only_fails : {A : Type 0} (f : A → Outcome Value) (x : A) (calls : List A) → calls ≡ x ∷ [] → (s : Status) → each f calls ≡ Err s → f x ≡ Err s
only_fails f x calls is s h = by (f x) refl (sym (ap (each f) is) ∙ h)
  where
    by : (o : Outcome Value) → f x ≡ o → (let p : Outcome (List Value) = and_then o (λ y. Ok (y ∷ [])) in p) ≡ Err s → f x ≡ Err s
    by (Ok y) here e = absurd cc
    by (Err t) here e = here ∙ cc

module _ (seen : Seen) (calls : List SetFunctionCall) (group : List Placed) (i : ℕ) (call : SetFunctionCall) (within : i < length calls) (is : call ≡ get_or calls i call) (one : List SetFunctionCall) (only : one ≡ call ∷ []) where
  abbrev on : SetFunctionCall → Outcome Value
  on = function_on seen (lines_of group)

  pub call_more : (values : List Value) → each on one ≡ Ok values → (before : List Value) × (each on (take i calls) ≡ Ok before) → (before : List Value) × (each on (take (i + 1) calls) ≡ Ok before)
  call_more values has so_far = let y = only_one on call one only values has in item_more on calls i call within is so_far.0 so_far.1 y.0 y.1

  pub call_fails : (s : Status) → each on one ≡ Err s → on call ≡ Err s
  call_fails = only_fails on call one only

  pub call_ends : (before : List Value) × (each on (take i calls) ≡ Ok before) → (e : QueryEnd) → EndsAsCall seen group i call e → IsCallEnd seen calls group e
  call_ends so_far e h = record { number = i; call = call; at = slice_get_read calls (length calls) i call refl within is; others = so_far.0; first = so_far.1; ends = h }

-- ---- a group is told by its first line

pub told_first : (tables : List (List Row)) (group : List Placed) (p : Placed) (rest : List Placed) → group ≡ p ∷ rest → AllByRecursion (IsPlaced tables) group → (r : Result QueryEnd AllocError) (places : List ℕ) → IfOk r (λ e. e.line.items ≡ places)
    → places ≡ p.places.items → IfOk r (λ e. IsOfGroup tables e.line.items (lines_of group))
told_first tables group p rest is all (Err error) places at same = tt
told_first tables group p rest is all (Ok e) places at same =
    subst (λ (ls : List Placed). IsOfGroup tables e.line.items (lines_of ls)) (sym is)
    (ap (line_at tables) (at ∙ same) ∙ (subst (AllByRecursion (IsPlaced tables)) is all).0)

pub told_none : (tables : List (List Row)) (group : List Placed) → group ≡ [] → (r : Result QueryEnd AllocError) → IfOk r (λ e. e.line.items ≡ []) → IfOk r (λ e. IsOfGroup tables e.line.items (lines_of group))
told_none tables group is (Err error) at = tt
told_none tables group is (Ok e) at = subst (λ (ls : List Placed). IsOfGroup tables e.line.items (lines_of ls)) (sym is) at
