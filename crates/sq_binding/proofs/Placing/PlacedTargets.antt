-- The targets of FETCH and of SELECT INTO are the parameters of the written names, with their indicators. A row that is selected is the row
-- of the query, placed (ISO/IEC 9075:1992, 6.2, 13.3 and 13.5).
use Rattle.std.proofs.Common.{◌≡◌, ℕ, Bool, true, false, not, List, [], ◌∷◌, ◌++◌, length, map, Ok, refl, sym, ap, subst, arith, ◌∙◌}
use Rattle.std.specs.List.{zip}
use Rattle.std.specs.Prelude.{◌==◌, nat_eq}
use Rattle.sq_value.specs.Domain.{kind_of}
use Rattle.sq_value.specs.declared.domain.Kind.{Kind}
use Rattle.sq_tree.specs.declared.names.Parameter.{Parameter}
use Rattle.sq_tree.specs.declared.statement.Fetch.{Fetch}
use Rattle.sq_tree.specs.declared.statement.Select.{Select as SelectStatement}
use Rattle.sq_meaning.specs.Placed.{PlacedParameter}
use Rattle.sq_meaning.specs.Spelled.{listed}
use Rattle.sq_meaning.specs.Status as status
use Rattle.sq_meaning.specs.Tables.{Declared}
use Rattle.sq_meaning.specs.WellFormed.{is_comparable}
use Rattle.sq_meaning.specs.WellFormedStatement.{orientation_of, select_of_statement}
use Rattle.sq_meaning.specs.Words.{has_twice}
use Rattle.sq_meaning.specs.declared.fault.BindingFault.{BindingFault}
use Rattle.sq_meaning.specs.declared.fault.BindingFault.TheVariants as fault
use Rattle.sq_binding.specs.Change.{NamedCursor, NamedCursors, cursor_named}
use Rattle.sq_binding.specs.Changeable.{UserNames, outside}
use Rattle.sq_binding.specs.Condition.{select_bound}
use Rattle.sq_binding.specs.Expression.{indicator_bound, parameter_named}
use Rattle.sq_binding.specs.Found.{◌>>=◌, outcome, pure}
use Rattle.sq_binding.specs.NumberedCondition.{columns_of, select_of}
use Rattle.sq_binding.specs.Orientation.{fetched}
use Rattle.sq_binding.specs.Outcome.{and_then}
use Rattle.sq_binding.specs.Placed.{indicator_named, placed_parameter}
use Rattle.sq_binding.specs.PlacedQuery.{select_placed}
use Rattle.sq_binding.specs.Row.{NumberedRow, row_bound}
use Rattle.sq_binding.specs.Select.{Surroundings}
use Rattle.sq_binding.specs.Statement.{NumberedFetch, fetch_bound}
use Rattle.sq_binding.specs.Targets.{set_by, target_bound, targets_bound, targets_in_turn}
use Rattle.sq_binding.specs.Whole.{must_hold, whole}
use Rattle.sq_binding.proofs.Faultless.Clean.{steps_of}
use Rattle.sq_binding.proofs.Inductions.Parts.{Binds, outcome_binds, one_binds, then_binds}
use Rattle.sq_binding.proofs.Placing.Placed.{indicator_is, position_is}
use Rattle.sq_binding.proofs.Placing.PlacedChange.{whole_is}
use Rattle.sq_binding.proofs.Placing.PlacedParts.{SelectIs, around}
use Rattle.sq_binding.proofs.Placing.PlacedQuery.{select_is_placed}
use Rattle.sq_binding.proofs.Inductions.Steps.{two_steps}
use Rattle.sq_binding.proofs.FaultsFound.UnionFaults.{lengths_equal}

held : (test : Bool) (f : BindingFault) (u : Unit {0}) → must_hold test f ≡ Ok u → test ≡ true
held true f u is = refl
held false f u is = cc

firsts_of : (ps : List Parameter) (ks : List Kind) → length ps ≡ length ks → map (λ t. t.0) (zip ps ks) ≡ ps
firsts_of [] ks e = refl
firsts_of (p ∷ ps) [] e = cc
firsts_of (p ∷ ps) (k ∷ ks) e = let rest : length ps ≡ length ks = omega (arith, e) in ap (λ l. p ∷ l) (firsts_of ps ks rest)

module _ (parameters : List Declared) where
  target_is_placed : (t : Parameter × Kind) (o : PlacedParameter) → target_bound parameters t ≡ Ok o → placed_parameter parameters t.0 ≡ Ok o
  target_is_placed t o is =
      let a = steps_of (parameter_named parameters t.0.name)
      (λ at. and_then (indicator_bound parameters t.0.indicator) (λ i. and_then (must_hold (is_comparable (kind_of at.1) t.1) fault.KindMismatch) (λ _. Ok (record { position = at.0; indicator = i })))) o is in
      let b = steps_of (indicator_bound parameters t.0.indicator) (λ i. and_then (must_hold (is_comparable (kind_of a.step.1) t.1) fault.KindMismatch) (λ _. Ok (record { position = a.step.0; indicator = i }))) o a.second in
      let c = steps_of (must_hold (is_comparable (kind_of a.step.1) t.1) fault.KindMismatch) (λ _. Ok (record { position = a.step.0; indicator = b.step })) o b.second in
      let made = c.second in
      let found : PlacedParameter = record { position = a.step.0; indicator = b.step } in
      let same : found ≡ o = cc in
      ap (λ (o : status.Outcome _). status.and_then o (λ at. status.and_then (indicator_named parameters t.0.indicator) (λ i. Ok (record { position = at.0; indicator = i })))) (position_is parameters t.0 a.step a.first)
      ∙ ap (λ (o : status.Outcome _). status.and_then o (λ i. Ok (record { position = a.step.0; indicator = i }))) (indicator_is parameters t.0.indicator b.step b.first)
      ∙ ap Ok same

  turn_is_placed : (rest : List (Parameter × Kind)) (before : List ℕ) (outs : List PlacedParameter) → targets_in_turn parameters before rest ≡ Ok outs → status.each (placed_parameter parameters) (map (λ t. t.0) rest) ≡ Ok outs
  turn_is_placed [] before outs is = let same : [] ≡ outs = cc in ap Ok same
  turn_is_placed (t ∷ ts) before outs is =
      let a = steps_of (target_bound parameters t)
      (λ target. and_then (must_hold (not (has_twice nat_eq (before ++ set_by target))) fault.TargetTwice) (λ _. and_then (targets_in_turn parameters (before ++ set_by target) ts) (λ targets. Ok (target ∷ targets)))) outs is in
      let b = steps_of (must_hold (not (has_twice nat_eq (before ++ set_by a.step))) fault.TargetTwice) (λ _. and_then (targets_in_turn parameters (before ++ set_by a.step) ts) (λ targets. Ok (a.step ∷ targets))) outs a.second in
      let c = steps_of (targets_in_turn parameters (before ++ set_by a.step) ts) (λ targets. Ok (a.step ∷ targets)) outs b.second in
      let made = c.second in
      let same : a.step ∷ c.step ≡ outs = cc in
      two_steps (λ (o : PlacedParameter) os. o ∷ os) (placed_parameter parameters t.0) (status.each (placed_parameter parameters) (map (λ t. t.0) ts)) a.step c.step (target_is_placed t a.step a.first)
      (turn_is_placed ts (before ++ set_by a.step) c.step c.first)
      ∙ ap Ok same

  pub targets_are_placed : (targets : List Parameter) (kinds : List Kind) (outs : List PlacedParameter) → targets_bound parameters targets kinds ≡ Ok outs → status.each (placed_parameter parameters) targets ≡ Ok outs
  targets_are_placed targets kinds outs is =
      let a = steps_of (must_hold (length targets == length kinds) fault.CountMismatch) (λ _. targets_in_turn parameters [] (zip targets kinds)) outs is in
      ap (status.each (placed_parameter parameters)) (sym (firsts_of targets kinds (lengths_equal (length targets) (length kinds) (held (length targets == length kinds) fault.CountMismatch a.step a.first)))) ∙ turn_is_placed (zip targets kinds) [] outs a.second

-- ---- SELECT INTO

abbrev pub IsRow : Surroundings → UserNames → SelectStatement → NumberedRow → Type 0
IsRow a names s x = (select_placed (around a) (select_of_statement names.user s) ≡ Ok (select_of x.query)) × (status.each (placed_parameter a.parameters) (listed s.targets) ≡ Ok x.targets)

module _ (names : UserNames) (parameters : List Declared) where
  abbrev here : Surroundings
  here = outside names parameters

  row_binds : (s : SelectStatement) → Binds false (λ functions x. IsRow here names s x) (row_bound names parameters s)
  row_binds s =
      then_binds false (SelectIs (select_placed (around here) (select_of_statement names.user s))) (λ functions x. IsRow here names s x) (select_bound here (select_of_statement names.user s))
      (λ x. outcome (targets_bound parameters (listed s.targets) (map (λ c. c.kind) (columns_of x))) >>= λ targets. pure (record { query = x; targets = targets })) (select_is_placed (select_of_statement names.user s) here)
      (λ x.
      one_binds false (λ functions targets. status.each (placed_parameter parameters) (listed s.targets) ≡ Ok targets)
      (λ functions y. SelectIs (select_placed (around here) (select_of_statement names.user s)) functions x → IsRow here names s y) (outcome (targets_bound parameters (listed s.targets) (map (λ c. c.kind) (columns_of x))))
      (λ targets. record { query = x; targets = targets })
      (outcome_binds false (λ functions targets. status.each (placed_parameter parameters) (listed s.targets) ≡ Ok targets) (targets_bound parameters (listed s.targets) (map (λ c. c.kind) (columns_of x)))
      (λ targets is functions. targets_are_placed parameters (listed s.targets) (map (λ c. c.kind) (columns_of x)) targets is))
      (λ functions targets h placed. (placed, h)))

  pub row_is_placed : (s : SelectStatement) (x : NumberedRow) → whole (row_bound names parameters s) ≡ Ok x → IsRow here names s x
  row_is_placed s x is = whole_is (λ functions x. IsRow here names s x) (row_bound names parameters s) (row_binds s) x is

-- ---- FETCH

-- a FETCH of the cursor of this name, in the orientation that is written, into these targets
pub record IsFetch (parameters : List Declared) (cursors : NamedCursors) (f : Fetch) (x : NumberedFetch) : Type 0 where
  pub cursor : NamedCursor
  pub is_named : cursor_named cursors f.cursor ≡ Ok cursor
  pub number : x.cursor ≡ cursor.number
  pub orientation : fetched parameters cursor.scroll (orientation_of f) ≡ Ok x.orientation
  pub targets : status.each (placed_parameter parameters) (listed f.targets) ≡ Ok x.targets

pub fetch_is_placed : (parameters : List Declared) (cursors : NamedCursors) (f : Fetch) (x : NumberedFetch) → fetch_bound parameters cursors f ≡ Ok x → IsFetch parameters cursors f x
fetch_is_placed parameters cursors f x is =
    let a = steps_of (cursor_named cursors f.cursor)
    (λ c. and_then (fetched parameters c.scroll (orientation_of f)) (λ o. and_then (targets_bound parameters (listed f.targets) (map (λ k. k.kind) c.columns)) (λ ts. Ok (record { cursor = c.number; orientation = o; targets = ts })))) x is in
    let b = steps_of (fetched parameters a.step.scroll (orientation_of f)) (λ o. and_then (targets_bound parameters (listed f.targets) (map (λ k. k.kind) a.step.columns)) (λ ts. Ok (record { cursor = a.step.number; orientation = o; targets = ts }))) x a.second in
    let c = steps_of (targets_bound parameters (listed f.targets) (map (λ k. k.kind) a.step.columns)) (λ ts. Ok (record { cursor = a.step.number; orientation = b.step; targets = ts })) x b.second in
    let made = c.second in
    let found : NumberedFetch = record { cursor = a.step.number; orientation = b.step; targets = c.step } in
    let same : found ≡ x = cc in
    subst (IsFetch parameters cursors f) same
    (record { cursor = a.step; is_named = a.first; number = refl; orientation = b.first; targets = targets_are_placed parameters (listed f.targets) (map (λ k. k.kind) a.step.columns) c.step c.first })
