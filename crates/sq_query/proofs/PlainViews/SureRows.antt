-- A query over one table that has fewer than 10 ^ 18 rows never ends with a status but 42000, and has fewer than so many rows, if that is so of its
-- parts (ISO/IEC 9075:1992, 6.5 and 7.6 to 7.9). A count of so few rows is in range.
use Rattle.std.proofs.Common.{◌≡◌, inl, inr, suc, ◌<◌, ◌≤◌, ◌^◌, Bool, true, false, not, ◌++◌, List, [], ◌∷◌, Option, Some, None, cond, filter, length, map, pos, arith, refl, sym, ap, subst, Ok, Err}
use Rattle.std.specs.Prelude.{⊤, if◌then◌else◌}
use Rattle.std.specs.List.{AllByRecursion}
use Rattle.std.proofs.lemmas.Bool.{lt-ltb}
use Rattle.sq_value.proofs.Truths.{both_left, both_right}
use Rattle.sq_value.specs.Comparison.{is_same}
use Rattle.sq_value.specs.SetFunctions.{without_nulls}
use Rattle.sq_value.specs.declared.fault.ArithmeticFault.TheVariants.{Range}
use Rattle.sq_value.specs.declared.truth.Truth.{Truth}
use Rattle.sq_value.specs.declared.truth.Truth.TheVariants.{False, True, Unknown}
use Rattle.sq_value.specs.declared.value.Value.{Value}
use Rattle.sq_tree.specs.declared.expr.SetFunction.{SetFunction}
use Rattle.sq_tree.specs.declared.expr.SetFunction.TheVariants.{Avg, Count, Max, Min, Sum}
use Rattle.sq_meaning.specs.Environment.{Env, Line, Place, Row, Scope, alone, value_at, within}
use Rattle.sq_meaning.specs.Expression.{count_of, distinct_values, number_outcome, value}
use Rattle.sq_meaning.specs.Placed.{Placed, by_place}
use Rattle.sq_meaning.specs.Query.{clause_functions, clause_truth, group_scope, group_scopes, grouped, grouping_values, groups_by, is_grouped, is_some_of, is_true, list_functions, listed_values, scopes_of}
use Rattle.sq_meaning.specs.Quiet.{is_quiet_expr}
use Rattle.sq_meaning.specs.Rows.{classes, firsts, same_row}
use Rattle.sq_meaning.specs.Status.{Outcome, and_then, each, kept, well_formed}
use Rattle.sq_meaning.specs.Sure.{IsSureOutcome}
use Rattle.sq_meaning.specs.Syntax.{expressions, is_null, set_function}
use Rattle.sq_meaning.specs.declared.status.Status.TheVariants.{SyntaxErrorOrAccessRuleViolation}
use Rattle.sq_meaning.proofs.AnswerLaws.{all_true}
use Rattle.sq_meaning.proofs.SureLaws.{sure_value}
use Rattle.sq_bound.specs.Condition.{PlacedClause}
use Rattle.sq_bound.specs.Expression.{PlacedExpr, expr_of}
use Rattle.sq_bound.specs.SetFunction.{call_of}
use Rattle.sq_bound.specs.declared.condition.TablePlace.{TablePlace}
use Rattle.sq_bound.specs.declared.expression.SetFunctionCall.{SetFunctionCall}
use Rattle.sq_bound.specs.declared.expression.SetFunctionCall.TheVariants.{CountRows, Over}
use Rattle.sq_bound.proofs.QuietTruths.{quiet_sure}
use Rattle.sq_query.specs.Shown.{is_sure_call, stays_in_range}

-- ---- a value of which something holds, or 42000

abbrev pub IsSureWith : {A : Type 0} → (A → Type 0) → Outcome A → Type 0
IsSureWith P (Ok x) = P x
IsSureWith P (Err status) = status ≡ SyntaxErrorOrAccessRuleViolation

abbrev pub IsSure : {A : Type 0} → Outcome A → Type 0
IsSure o = IsSureWith (λ x. ⊤) o

pub sure_so : {A : Type 0} (o : Outcome A) → IsSureOutcome o → IsSure o
sure_so (Ok x) h = tt
sure_so (Err status) (inl h) = absurd h
sure_so (Err status) (inr e) = cc

then_sure : {A B : Type 0} (P : A → Type 0) (Q : B → Type 0) (o : Outcome A) (f : A → Outcome B) → IsSureWith P o → ((x : A) → P x → IsSureWith Q (f x)) → IsSureWith Q (and_then o f)
then_sure P Q (Ok x) f h g = g x h
then_sure P Q (Err status) f h g = h

abbrev AreSo : {A B : Type 0} → (B → Type 0) → List A → List B → Type 0
AreSo Q xs ys = AllByRecursion Q ys × (length ys ≡ length xs)

each_sure : {A B : Type 0} (W : A → Type 0) (Q : B → Type 0) (f : A → Outcome B) → ((x : A) → W x → IsSureWith Q (f x)) → (xs : List A) → AllByRecursion W xs → IsSureWith (AreSo Q xs) (each f xs)
each_sure W Q f g [] w = (tt, refl)
each_sure W Q f g (x ∷ xs) w =
    then_sure Q (AreSo Q (x ∷ xs)) (f x) (λ y. and_then (each f xs) (λ ys. Ok (y ∷ ys))) (g x w.0)
    (λ y q. then_sure (AreSo Q xs) (AreSo Q (x ∷ xs)) (each f xs) (λ ys. Ok (y ∷ ys)) (each_sure W Q f g xs w.1) (λ ys h. ((q, h.0), ap suc h.1)))

abbrev AreLeft : {A : Type 0} → (A → Type 0) → List A → List A → Type 0
AreLeft W xs ys = AllByRecursion W ys × (length ys ≤ length xs)

kept_sure : {A : Type 0} (W : A → Type 0) (test : A → Outcome Bool) → ((x : A) → W x → IsSure (test x)) → (xs : List A) → AllByRecursion W xs → IsSureWith (AreLeft W xs) (kept test xs)
kept_sure W test g [] w = (tt, omega arith)
kept_sure {A} W test g (x ∷ xs) w =
    then_sure (λ b. ⊤) (AreLeft W (x ∷ xs)) (test x) (λ passes. and_then (kept test xs) (λ ys. Ok (if passes then x ∷ ys else ys))) (g x w.0)
    (λ passes p. then_sure (AreLeft W xs) (AreLeft W (x ∷ xs)) (kept test xs) (λ ys. Ok (if passes then x ∷ ys else ys)) (kept_sure W test g xs w.1) (λ ys h. by passes ys h))
  where
    by : (b : Bool) (ys : List A) → AreLeft W xs ys → AreLeft W (x ∷ xs) (if b then x ∷ ys else ys)
    by true ys h = ((w.0, h.0), omega (arith, h.1))
    by false ys h = (h.0, omega (arith, h.1))

pub true_sure : (o : Outcome Truth) → IsSure o → IsSure (is_true o)
true_sure (Ok True) h = tt
true_sure (Ok Unknown) h = tt
true_sure (Ok False) h = tt
true_sure (Err status) h = h

-- ---- lengths

filter_short : {A : Type 0} (has : A → Bool) (xs : List A) → length (filter has xs) ≤ length xs
filter_short has [] = omega arith
filter_short {A} has (x ∷ xs) = by (has x) (filter_short has xs)
  where
    by : (b : Bool) → length (filter has xs) ≤ length xs → length (cond b (x ∷ filter has xs) (filter has xs)) ≤ length (x ∷ xs)
    by true h = omega (arith, h)
    by false h = omega (arith, h)

firsts_short : {A : Type 0} (same : A → A → Bool) (xs : List A) → length (firsts same xs) ≤ length xs
firsts_short same [] = omega arith
firsts_short same (x ∷ xs) = omega (arith, filter_short (λ y. not (same x y)) (firsts same xs), firsts_short same xs)

pub map_long : {A B : Type 0} (f : A → B) (xs : List A) → length (map f xs) ≡ length xs
map_long f [] = refl
map_long f (x ∷ xs) = ap suc (map_long f xs)

distinct_short : {A : Type 0} (same : A → A → Bool) (d : Bool) (xs : List A) → length (if d then firsts same xs else xs) ≤ length xs
distinct_short same true xs = firsts_short same xs
distinct_short same false xs = omega arith

abbrev pub IsShort : {A : Type 0} → List A → Type 0
IsShort xs = length xs < 10 ^ 18

shorter : {A B : Type 0} (xs : List A) (ys : List B) → length ys ≤ length xs → IsShort xs → IsShort ys
shorter xs ys h short = omega (arith, h, short)

pub as_short : {A B : Type 0} (xs : List A) (ys : List B) → length ys ≡ length xs → IsShort xs → IsShort ys
as_short xs ys h short = subst (λ n. n < 10 ^ 18) (sym h) short

-- ---- set functions

count_sure : {A : Type 0} (xs : List A) → IsShort xs → IsSure (count_of xs)
count_sure xs short =
    subst IsSure (sym (ap (λ c. number_outcome (if c then Ok (record { unscaled = pos (length xs); scale = 0 }) else Err Range)) (lt-ltb (length xs) (10 ^ 18) short))) tt

module _ (tables : TablePlace → Outcome (List Row)) (env : Env (Unit {0})) (scope : Scope (Unit {0})) (short : IsShort scope.group) where
  quiet_value : (e : PlacedExpr) (here : Env (Unit {0})) → is_quiet_expr e ≡ true → IsSure (value (by_place tables) e here)
  quiet_value e here quiet = sure_so (value (by_place tables) e here) (sure_value tables e here (quiet_sure (λ t. true) (is_null e) quiet))

  counted_sure : (distinct : Bool) (values : List Value) → length values ≡ length scope.group → IsSure (count_of (without_nulls (distinct_values distinct values)))
  counted_sure distinct values long =
      count_sure (without_nulls (distinct_values distinct values))
      (shorter (distinct_values distinct values) (without_nulls (distinct_values distinct values)) (filter_short _ (distinct_values distinct values))
      (shorter values (distinct_values distinct values) (distinct_short is_same distinct values) (as_short scope.group values long short)))

  function_sure : (function : SetFunction) (distinct : Bool) (e : PlacedExpr) → stays_in_range function ≡ true → is_quiet_expr e ≡ true → IsSure (value (by_place tables) (set_function function distinct e) (within scope env))
  function_sure Count distinct e in_range quiet =
      then_sure (AreSo (λ v. ⊤) scope.group) (λ v. ⊤) (each (λ line. value (by_place tables) e (within (alone scope.items line) env)) scope.group) (λ values. count_of (without_nulls (distinct_values distinct values)))
      (each_sure (λ line. ⊤) (λ v. ⊤) (λ line. value (by_place tables) e (within (alone scope.items line) env)) (λ line w. quiet_value e (within (alone scope.items line) env) quiet) scope.group (all_true scope.group))
      (λ values h. counted_sure distinct values h.1)
  function_sure Min distinct e in_range quiet =
      sure_so (value (by_place tables) (set_function Min distinct e) (within scope env)) (sure_value tables (set_function Min distinct e) (within scope env) (quiet_sure (λ t. true) (is_null e) quiet))
  function_sure Max distinct e in_range quiet =
      sure_so (value (by_place tables) (set_function Max distinct e) (within scope env)) (sure_value tables (set_function Max distinct e) (within scope env) (quiet_sure (λ t. true) (is_null e) quiet))
  function_sure Sum distinct e in_range quiet = cc
  function_sure Avg distinct e in_range quiet = cc

  pub call_sure : (call : SetFunctionCall) → is_sure_call call ≡ true → IsSure (value (by_place tables) (call_of call) (within scope env))
  call_sure CountRows sure = count_sure scope.group short
  call_sure (Over a) sure =
      function_sure a.function a.distinct (expr_of [] a.operand) (both_left (stays_in_range a.function) (is_quiet_expr (expr_of [] a.operand)) sure) (both_right (stays_in_range a.function) (is_quiet_expr (expr_of [] a.operand)) sure)

-- ---- groups

there_so : {A : Type 0} (o : Option A) → IsSure (well_formed o)
there_so (Some x) = tt
there_so None = refl

abbrev same_key : Row × Line → Row × Line → Bool
same_key a b = same_row a.0 b.0

lines_short : (pairs few : List (Row × Line)) → length few ≤ length pairs → IsShort pairs → IsShort (map (λ k. k.1) few)
lines_short pairs few h short = as_short few (map (λ k. k.1) few) (map_long (λ k. k.1) few) (shorter pairs few h short)

classes_short : (pairs : List (Row × Line)) → IsShort pairs → (heads : List (Row × Line)) → AllByRecursion IsShort (map (map (λ k. k.1)) (map (λ k. filter (same_key k) pairs) heads))
classes_short pairs short [] = tt
classes_short pairs short (k ∷ heads) = (lines_short pairs (filter (same_key k) pairs) (filter_short (same_key k) pairs) short, classes_short pairs short heads)

groups_few : (pairs : List (Row × Line)) → IsShort pairs → IsShort (grouped pairs)
groups_few pairs short =
    as_short (classes same_key pairs) (grouped pairs) (map_long (map (λ k. k.1)) (classes same_key pairs))
    (as_short (firsts same_key pairs) (classes same_key pairs) (map_long (λ k. filter (same_key k) pairs) (firsts same_key pairs)) (shorter pairs (firsts same_key pairs) (firsts_short same_key pairs) short))

-- ---- the phases of the query

module _ (tables : TablePlace → Outcome (List Row)) (distinct : Bool) (es : List PlacedExpr) (by : List Place) (having : PlacedClause) (env : Env (Unit {0})) where
  abbrev heads : List (Unit {0})
  heads = tt ∷ []

  abbrev pub AreSureOn : List PlacedExpr → Scope (Unit {0}) → Type 0
  AreSureOn fs scope = AllByRecursion (λ e. IsSure (value (by_place tables) e (within scope env))) fs

  abbrev functions : List PlacedExpr
  functions = list_functions {N = Placed TablePlace} (expressions es) ++ clause_functions having

  abbrev is_by_groups : Bool
  is_by_groups = is_grouped {N = Placed TablePlace} (expressions es) by having

  abbrev IsFew : Scope (Unit {0}) → Type 0
  IsFew scope = IsShort scope.group

  abbrev AreFewGroups : List (List Line) → Type 0
  AreFewGroups groups = AllByRecursion IsShort groups × IsShort groups

  abbrev AreFewScopes : List (Scope (Unit {0})) → Type 0
  AreFewScopes scopes = AllByRecursion IsFew scopes × IsShort scopes

  -- the parts of the query, on a group of so few lines
  pub record AreSureParts : Type 0 where
    pub some : is_by_groups ≡ true → is_some_of by ≡ true
    pub calls : is_by_groups ≡ true → (scope : Scope (Unit {0})) → IsShort scope.group → AreSureOn functions scope
    pub havings : (scope : Scope (Unit {0})) → IsShort scope.group → IsSure (clause_truth (by_place tables) having (within scope env))
    pub listed : (scope : Scope (Unit {0})) → IsShort scope.group → AreSureOn es scope

  group_scopes_few : (groups : List (List Line)) → AllByRecursion IsShort groups → AllByRecursion IsFew (map (group_scope heads) groups)
  group_scopes_few [] h = tt
  group_scopes_few (g ∷ groups) h = (h.0, group_scopes_few groups h.1)

  lines_few : (lines : List Line) → AllByRecursion IsFew (map (alone heads) lines)
  lines_few [] = tt
  lines_few (l ∷ lines) = (omega arith, lines_few lines)

  key_sure : (cs : List Place) (here : Env (Unit {0})) → IsSureWith (AreSo (λ v. ⊤) cs) (grouping_values (by_place tables) cs here)
  key_sure cs here = each_sure (λ c. ⊤) (λ v. ⊤) (λ c. value_at here c) (λ c w. there_so _) cs (all_true cs)

  groups_sure : (cs : List Place) → is_some_of cs ≡ true → (lines : List Line) → IsShort lines → IsSureWith AreFewGroups (groups_by (by_place tables) cs heads lines env)
  groups_sure [] some lines short = cc
  groups_sure (c ∷ cs) some lines short =
      let keyed : Line → Outcome (Row × Line) = λ line. and_then (grouping_values (by_place tables) (c ∷ cs) (within (alone heads line) env)) (λ key. Ok (key, line)) in
      then_sure (AreSo (λ k. ⊤) lines) AreFewGroups (each keyed lines) (λ pairs. Ok (grouped pairs))
      (each_sure (λ l. ⊤) (λ k. ⊤) keyed (λ line w. then_sure (AreSo (λ v. ⊤) (c ∷ cs)) (λ k. ⊤) (grouping_values (by_place tables) (c ∷ cs) (within (alone heads line) env)) (λ key. Ok (key, line)) (key_sure (c ∷ cs) (within (alone heads line) env)) (λ key h. tt)) lines
      (all_true lines))
      (λ pairs h. let few = as_short lines pairs h.1 short in (classes_short pairs few (firsts same_key pairs), groups_few pairs few))

  module _ (parts : AreSureParts) where
    function_values : List Line → Outcome Row
    function_values group = each (λ e. value (by_place tables) e (within (group_scope heads group) env)) functions

    scopes_sure : (lines : List Line) → IsShort lines → IsSureWith AreFewScopes (scopes_of (by_place tables) (expressions es) by having heads lines env)
    scopes_sure lines short = split is_by_groups refl
      where
        split : (g : Bool) → is_by_groups ≡ g → IsSureWith AreFewScopes (if g then group_scopes (by_place tables) functions by heads lines env else Ok (map (alone heads) lines))
        split true is =
            then_sure AreFewGroups AreFewScopes (groups_by (by_place tables) by heads lines env)
            (λ groups. and_then (each (λ group. each (λ e. value (by_place tables) e (within (group_scope heads group) env)) functions) groups) (λ _. Ok (map (group_scope heads) groups))) (groups_sure by (parts.some is) lines short)
            (λ groups few. then_sure (AreSo (λ vs. ⊤) groups) AreFewScopes (each (λ group. each (λ e. value (by_place tables) e (within (group_scope heads group) env)) functions) groups) (λ _. Ok (map (group_scope heads) groups))
            (each_sure IsShort (λ vs. ⊤) (λ group. each (λ e. value (by_place tables) e (within (group_scope heads group) env)) functions)
            (λ group g. then_any group (each_sure (λ e. IsSure (value (by_place tables) e (within (group_scope heads group) env))) (λ v. ⊤) (λ e. value (by_place tables) e (within (group_scope heads group) env)) (λ e h. h) functions (parts.calls is (group_scope heads group) g))) groups few.0)
            (λ vs h. (group_scopes_few groups few.0, as_short groups (map (group_scope heads) groups) (map_long (group_scope heads) groups) few.1)))
          where
            then_any : (group : List Line) → IsSureWith (AreSo (λ v. ⊤) functions) (each (λ e. value (by_place tables) e (within (group_scope heads group) env)) functions)
                → IsSure (each (λ e. value (by_place tables) e (within (group_scope heads group) env)) functions)
            then_any group = weaken (each (λ e. value (by_place tables) e (within (group_scope heads group) env)) functions)
              where
                weaken : (o : Outcome Row) → IsSureWith (AreSo (λ v. ⊤) functions) o → IsSure o
                weaken (Ok vs) h = tt
                weaken (Err status) h = h
        split false is = (lines_few lines, as_short lines (map (alone heads) lines) (map_long (alone heads) lines) short)

    row_sure : (scope : Scope (Unit {0})) → IsFew scope → IsSure (listed_values (by_place tables) (expressions es) (within scope env))
    row_sure scope few = weaken (each (λ e. value (by_place tables) e (within scope env)) es) (each_sure (λ e. IsSure (value (by_place tables) e (within scope env))) (λ v. ⊤) (λ e. value (by_place tables) e (within scope env)) (λ e h. h) es (parts.listed scope few))
      where
        weaken : (o : Outcome Row) → IsSureWith (AreSo (λ v. ⊤) es) o → IsSure o
        weaken (Ok vs) h = tt
        weaken (Err status) h = h

    lines_sure : (lines : List Line) → IsShort lines
        → IsSureWith IsShort (and_then (scopes_of (by_place tables) (expressions es) by having heads lines env)
        (λ scopes. and_then (kept (λ scope. is_true (clause_truth (by_place tables) having (within scope env))) scopes)
        (λ left. and_then (each (λ scope. listed_values (by_place tables) (expressions es) (within scope env)) left)
        (λ shown. let is : Outcome (List Row) = Ok (if distinct then firsts same_row shown else shown) in is))))
    lines_sure lines short =
        then_sure AreFewScopes IsShort (scopes_of (by_place tables) (expressions es) by having heads lines env) _ (scopes_sure lines short)
        (λ scopes few. then_sure (AreLeft IsFew scopes) IsShort (kept (λ scope. is_true (clause_truth (by_place tables) having (within scope env))) scopes) _
        (kept_sure IsFew (λ scope. is_true (clause_truth (by_place tables) having (within scope env))) (λ scope s. true_sure (clause_truth (by_place tables) having (within scope env)) (parts.havings scope s)) scopes few.0)
        (λ left h. then_sure (AreSo (λ r. ⊤) left) IsShort (each (λ scope. listed_values (by_place tables) (expressions es) (within scope env)) left) _
        (each_sure IsFew (λ r. ⊤) (λ scope. listed_values (by_place tables) (expressions es) (within scope env)) row_sure left h.0)
        (λ shown s. shorter shown (if distinct then firsts same_row shown else shown) (distinct_short same_row distinct shown) (as_short left shown s.1 (shorter scopes left h.1 few.1)))))

    -- the rows, after WHERE
    pub rows_sure : (where_on : Line → Outcome Bool) → ((line : Line) → IsSure (where_on line)) → (lines : List Line) → IsShort lines
        → IsSureWith IsShort (and_then (kept where_on lines) (λ found. and_then (scopes_of (by_place tables) (expressions es) by having heads found env)
        (λ scopes. and_then (kept (λ scope. is_true (clause_truth (by_place tables) having (within scope env))) scopes)
        (λ left. and_then (each (λ scope. listed_values (by_place tables) (expressions es) (within scope env)) left)
        (λ shown. let is : Outcome (List Row) = Ok (if distinct then firsts same_row shown else shown) in is)))))
    rows_sure where_on sure lines short =
        then_sure (AreLeft (λ l. ⊤) lines) IsShort (kept where_on lines) _ (kept_sure (λ l. ⊤) where_on (λ line w. sure line) lines (all_true lines)) (λ found h. lines_sure found (shorter lines found h.1 short))
