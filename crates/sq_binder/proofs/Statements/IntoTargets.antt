-- Targets in turn: the ones bound so far, and the rest.
use Rattle.std.proofs.Common.{◌≡◌, ℕ, suc, ◌<◌, ◌≤◌, Bool, true, false, not, ◌||◌, List, [], ◌∷◌, ◌++◌, length, map, get_or, Option, None, Some, Ok, Err, refl, sym, ap, append_assoc, arith, ◌∙◌}
use Rattle.std.proofs.lemmas.Bool.Decides.{nat_tests}
use Rattle.std.proofs.lemmas.Grind.{flat_map-append}
use Rattle.std.proofs.lemmas.List.{append-nil, length-map}
use Rattle.std.proofs.lemmas.List.Folds.{list_any-append}
use Rattle.std.proofs.lemmas.Slice.Zip.{get_or-zip, length-zip}
use Rattle.std.specs.List.{list_any, zip}
use Rattle.std.specs.Prelude.{nat_eq, option_to_list, ◌==◌}
use Rattle.sq_value.proofs.Truths.{or_false}
use Rattle.sq_value.specs.declared.domain.Kind.{Kind}
use Rattle.sq_tree.specs.declared.names.Parameter.{Parameter}
use Rattle.sq_meaning.specs.Placed.{PlacedParameter}
use Rattle.sq_meaning.specs.Tables.{Declared}
use Rattle.sq_bound.specs.declared.condition.ResultColumn.{ResultColumn}
use Rattle.sq_bound.specs.declared.statement.Output.{Output}
use Rattle.sq_meaning.specs.Words.{has_twice}
use Rattle.sq_meaning.specs.declared.fault.BindingFault.TheVariants as fault
use Rattle.sq_binding.specs.Outcome.{Outcome, and_then}
use Rattle.sq_binding.specs.Seen.{column_of}
use Rattle.sq_binding.specs.Targets.{set_by, target_bound, targets_bound, targets_in_turn}
use Rattle.sq_binding.specs.Whole.{must_hold}
use Rattle.sq_binder.specs.Binds.{Stops}
use Rattle.sq_binder.specs.declared.stop.Stop.{Stop}
use Rattle.sq_binder.specs.declared.stop.Stop.TheVariants.{Fault, NoMemory}
use Rattle.sq_binder.proofs.OneByOne.Steps.{stepped, stepped_fault}
use Rattle.sq_binder.proofs.OneByOne.Twice.{once_more, twice_more}
use Rattle.sq_binder.specs.Target.{all_set, indicator_again, is_set_again, is_set_in, kinds_shown, set_once, set_unless, target_step}
use Rattle.sq_binding.specs.SeenQuery.{output_seen}

-- ---- in turn

set_with : (targets : List PlacedParameter) (t : PlacedParameter) → all_set (targets ++ t ∷ []) ≡ all_set targets ++ set_by t
set_with targets t = flat_map-append set_by targets (t ∷ []) ∙ ap (λ l. all_set targets ++ l) (append-nil (set_by t))

-- what is bound so far stands before the rest
abbrev before_rest : List PlacedParameter → Outcome (List PlacedParameter) → Outcome (List PlacedParameter)
before_rest xs o = and_then o (λ ys. Ok (xs ++ ys))

module _ (parameters : List Declared) where
  one_more : (xs : List PlacedParameter) (t : PlacedParameter) (o : Outcome (List PlacedParameter)) → before_rest xs (and_then o (λ ys. Ok (t ∷ ys))) ≡ before_rest (xs ++ t ∷ []) o
  one_more xs t (Ok ys) = ap Ok (sym (append_assoc xs (t ∷ []) ys))
  one_more xs t (Err f) = refl

  abbrev Rest : List PlacedParameter → List (Parameter × Kind) → Type 0
  Rest xs ts = before_rest xs (targets_in_turn parameters (all_set xs) ts) ≡ stepped (target_step parameters) (Ok xs) ts

  -- behind a further target, if it sets no parameter again
  behind : (xs : List PlacedParameter) (ts : List (Parameter × Kind)) (target : PlacedParameter) → Rest (xs ++ target ∷ []) ts → (again : Bool)
      → before_rest xs (and_then (must_hold (not again) fault.TargetTwice) (λ _. and_then (targets_in_turn parameters (all_set xs ++ set_by target) ts) (λ targets. Ok (target ∷ targets))))
      ≡ stepped (target_step parameters) (set_unless again xs target) ts
  behind xs ts target rest true = sym (stepped_fault (target_step parameters) fault.TargetTwice ts)
  behind xs ts target rest false =
      one_more xs target (targets_in_turn parameters (all_set xs ++ set_by target) ts)
      ∙ ap (λ before. before_rest (xs ++ target ∷ []) (targets_in_turn parameters before ts)) (sym (set_with xs target)) ∙ rest

  next : (xs : List PlacedParameter) (ts : List (Parameter × Kind)) → ((target : PlacedParameter) → Rest (xs ++ target ∷ []) ts) → (o : Outcome PlacedParameter)
      → before_rest xs (and_then o (λ target. and_then (must_hold (not (has_twice nat_eq (all_set xs ++ set_by target))) fault.TargetTwice) (λ _. and_then (targets_in_turn parameters (all_set xs ++ set_by target) ts) (λ targets. Ok (target ∷ targets)))))
      ≡ stepped (target_step parameters) (and_then o (set_once xs)) ts
  next xs ts rest (Err f) = sym (stepped_fault (target_step parameters) f ts)
  next xs ts rest (Ok target) = behind xs ts target (rest target) (has_twice nat_eq (all_set xs ++ set_by target))

  rest_in_turn : (xs : List PlacedParameter) (ts : List (Parameter × Kind)) → Rest xs ts
  rest_in_turn xs [] = ap Ok (append-nil xs)
  rest_in_turn xs (t ∷ ts) = next xs ts (λ target. rest_in_turn (xs ++ target ∷ []) ts) (target_bound parameters t)

  same : (o : Outcome (List PlacedParameter)) → before_rest [] o ≡ o
  same (Ok ys) = refl
  same (Err f) = refl

  all_in_turn : (ts : List (Parameter × Kind)) → targets_in_turn parameters [] ts ≡ stepped (target_step parameters) (Ok []) ts
  all_in_turn ts = sym (same (targets_in_turn parameters [] ts)) ∙ rest_in_turn [] ts

  -- ---- no parameter is set twice by targets that are bound

  set_where : (xs : List PlacedParameter) (t : PlacedParameter) (ys : List PlacedParameter) → set_once xs t ≡ Ok ys → has_twice nat_eq (all_set ys) ≡ false
  set_where xs t ys e = by (has_twice nat_eq (all_set xs ++ set_by t)) refl e
    where
      by : (again : Bool) → has_twice nat_eq (all_set xs ++ set_by t) ≡ again → and_then (must_hold (not again) fault.TargetTwice) (λ _. Ok (xs ++ t ∷ [])) ≡ Ok ys → has_twice nat_eq (all_set ys) ≡ false
      by true is e = cc
      by false is e = let are : xs ++ t ∷ [] ≡ ys = cc in ap (λ ys. has_twice nat_eq (all_set ys)) (sym are) ∙ ap (has_twice nat_eq) (set_with xs t) ∙ is

  pub step_once : (xs : List PlacedParameter) (t : Parameter × Kind) (ys : List PlacedParameter) → target_step parameters xs t ≡ Ok ys → has_twice nat_eq (all_set ys) ≡ false
  step_once xs t ys e = by (target_bound parameters t) e
    where
      by : (o : Outcome PlacedParameter) → and_then o (set_once xs) ≡ Ok ys → has_twice nat_eq (all_set ys) ≡ false
      by (Err f) e = cc
      by (Ok target) e = set_where xs target ys e

-- ---- targets beside columns

abbrev pub beside : Parameter × ResultColumn → Parameter × Kind
beside p = (p.0, p.1.kind)

pub pairs_seen : (ts : List Parameter) (columns : List ResultColumn) → zip ts (kinds_shown columns) ≡ map beside (zip ts columns)
pairs_seen [] columns = refl
pairs_seen (t ∷ ts) [] = refl
pairs_seen (t ∷ ts) (c ∷ columns) = ap (λ l. (t, c.kind) ∷ l) (pairs_seen ts columns)

-- ---- all targets of columns

pub equal_tested : (m n : ℕ) → m ≡ n → (m == n) ≡ true
equal_tested m n e = grind (arith, nat_tests, e)

module _ (parameters : List Declared) (first : Parameter) (rest : List Parameter) (columns : List ResultColumn) (column : ResultColumn) (others : List ResultColumn) (are : columns ≡ column ∷ others) (same : length rest ≡ length others) where
  abbrev whole : Outcome (List PlacedParameter)
  whole = targets_bound parameters (first ∷ rest) (kinds_shown columns)

  many : length (first ∷ rest) ≡ length (kinds_shown (column ∷ others))
  many = ap suc (same ∙ sym (length-map others column_of) ∙ sym (length-map (map column_of others) (λ c. c.kind)))

  pub whole_stepped : whole ≡ stepped (target_step parameters) (target_step parameters [] (first, column.kind)) (map beside (zip rest others))
  whole_stepped =
      ap (λ columns. targets_bound parameters (first ∷ rest) (kinds_shown columns)) are
      ∙ ap (λ t. and_then (must_hold t fault.CountMismatch) (λ _. targets_in_turn parameters [] (zip (first ∷ rest) (kinds_shown (column ∷ others))))) (equal_tested (length (first ∷ rest)) (length (kinds_shown (column ∷ others))) many)
      ∙ all_in_turn parameters (zip (first ∷ rest) (kinds_shown (column ∷ others)))
      ∙ ap (stepped (target_step parameters) (target_step parameters [] (first, column.kind))) (pairs_seen rest others)

  pub begun_targets : (xs : List PlacedParameter) → target_step parameters [] (first, column.kind) ≡ Ok xs → whole ≡ stepped (target_step parameters) (Ok xs) (map beside (zip rest others))
  begun_targets xs is = whole_stepped ∙ ap (λ o. stepped (target_step parameters) o (map beside (zip rest others))) is

  pub begun_stops : (stop : Stop) → Stops (target_step parameters [] (first, column.kind)) stop → Stops whole stop
  begun_stops NoMemory s = tt
  begun_stops (Fault f) s =
      whole_stepped ∙ ap (λ o. stepped (target_step parameters) o (map beside (zip rest others))) s ∙ stepped_fault (target_step parameters) f.rule (map beside (zip rest others))

-- a target beside its column
module _ (rest items : List Parameter) (are : items ≡ rest) (others : List ResultColumn) (same : length rest ≡ length others) (i : ℕ) where
  pub pair_within : i < length items → i < length (zip rest others)
  pair_within lt = let few = ap length are in omega (arith, length-zip rest others, lt, same, few)

  pub pair_at : (target : Parameter) (column : ResultColumn) → i < length items → target ≡ get_or items i target → column ≡ get_or others i column → (target, column) ≡ get_or (zip rest others) i (target, column)
  pair_at target column lt is at =
      let few = ap length are in
      (λ j. ((is ∙ ap (λ l. get_or l i target) are) j, at j)) ∙ sym (get_or-zip rest others i (target, column) (omega (arith, lt, few)) (omega (arith, lt, same, few)))

  pub pairs_past : length items ≤ i → length (zip rest others) ≤ i
  pairs_past past = let few = ap length are in omega (arith, length-zip rest others, past, few)

-- ---- a target that sets a parameter again

set_among : (p : ℕ) (os : List Output) → list_any (λ set. nat_eq set p) (all_set (map output_seen os)) ≡ is_set_in os p
set_among p [] = refl
set_among p (o ∷ os) =
    list_any-append (λ set. nat_eq set p) (set_by (output_seen o)) (all_set (map output_seen os)) ∙ ap (λ b. list_any (λ set. nat_eq set p) (set_by (output_seen o)) || b) (set_among p os)

again_split : (os : List Output) (p : ℕ) (indicator : Option ℕ) → has_twice nat_eq (all_set (map output_seen os)) ≡ false
    → has_twice nat_eq (all_set (map output_seen os) ++ p ∷ option_to_list indicator) ≡ (is_set_in os p || indicator_again os p indicator)
again_split os p None once = once_more nat_eq (all_set (map output_seen os)) p once ∙ set_among p os ∙ sym (or_false (is_set_in os p))
again_split os p (Some i) once = twice_more nat_eq (all_set (map output_seen os)) p i once ∙ (λ j. set_among p os j || (nat_eq p i || set_among i os j))

pub again_is : (os : List Output) (o : Output) → has_twice nat_eq (all_set (map output_seen os)) ≡ false → is_set_again os o ≡ has_twice nat_eq (all_set (map output_seen os) ++ set_by (output_seen o))
again_is os o once = sym (again_split os o.parameter o.indicator once)
