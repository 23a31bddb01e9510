-- The targets of FETCH and of SELECT INTO, and the orientations of FETCH, are the written ones. They agree with the columns and with
-- whole numbers (ISO/IEC 9075:1992, 9.1, 13.3 and 13.5).
use Rattle.std.proofs.Common.{◌≡◌, ◌<◌, ℕ, Bool, true, false, not, ◌&&◌, ◌||◌, List, [], ◌∷◌, ◌++◌, length, map, Option, Some, None, Ok, Err, refl, sym, ap, subst, arith, ◌∙◌, lt-ltb}
use Rattle.std.proofs.lemmas.Bool.{eqb-true}
use Rattle.std.proofs.lemmas.List.{length-map}
use Rattle.std.proofs.lemmas.Option.{slice_get_within}
use Rattle.std.specs.List as list
use Rattle.std.specs.List.{zip}
use Rattle.std.specs.Option.{option_and_then, option_map}
use Rattle.std.specs.Prelude.{IfSome, IsTrue, ◌==◌, nat_eq, nat_lt, if◌then◌else◌, slice_get, unwrap_or}
use Rattle.sq_value.specs.Domain.{kind_of}
use Rattle.sq_value.specs.declared.domain.Domain.{Domain}
use Rattle.sq_value.specs.declared.domain.Domain.TheVariants as domain
use Rattle.sq_value.specs.declared.domain.Kind.{Kind}
use Rattle.sq_value.specs.declared.domain.Kind.TheVariants.{Num}
use Rattle.sq_tree.specs.declared.names.Parameter.{Parameter}
use Rattle.sq_tree.specs.declared.statement.FetchFrom.{FetchFrom}
use Rattle.sq_tree.specs.declared.statement.Orientation.{Orientation}
use Rattle.sq_tree.specs.declared.statement.Orientation.TheVariants as written
use Rattle.sq_tree.specs.declared.statement.Position.{Position}
use Rattle.sq_tree.specs.declared.statement.Position.TheVariants as position
use Rattle.sq_meaning.specs.Environment as environment
use Rattle.sq_meaning.specs.Placed.{PlacedParameter}
use Rattle.sq_meaning.specs.Spelled.{has_point, number_with_sign}
use Rattle.sq_meaning.specs.Status as status
use Rattle.sq_meaning.specs.WellFormed.{Has, is_comparable}
use Rattle.sq_meaning.specs.Binding.{is_whole_domain}
use Rattle.sq_meaning.specs.Words.{has_twice}
use Rattle.sq_meaning.specs.declared.fault.BindingFault.{BindingFault}
use Rattle.sq_meaning.specs.declared.fault.BindingFault.TheVariants as fault
use Rattle.sq_bound.specs.Fits.{are_parameters}
use Rattle.sq_bound.specs.Names.{option_all}
use Rattle.sq_bound.specs.WellFormed.{IsDistance, IsOrientation, TakeKinds, TakesKind, kinds_of_parameters}
use Rattle.sq_bound.specs.declared.names.ParameterDesc.{ParameterDesc}
use Rattle.sq_bound.specs.declared.statement.Distance.{Distance}
use Rattle.sq_bound.specs.declared.statement.Distance.TheVariants as distance
use Rattle.sq_bound.specs.declared.statement.FetchOrientation.{FetchOrientation}
use Rattle.sq_bound.specs.declared.statement.FetchOrientation.TheVariants as orientation
use Rattle.sq_bound.specs.declared.statement.Output.{Output}
use Rattle.sq_binding.specs.Expression.{indicator_bound, parameter_named}
use Rattle.sq_binding.specs.Orientation.{distance_bound, fetched, is_next, orientation_bound, written_bound}
use Rattle.sq_binding.specs.Outcome.{Outcome, and_then, or_fault}
use Rattle.sq_binding.specs.Placed.{indicator_named}
use Rattle.sq_binding.specs.Targets.{set_by, target_bound, targets_bound, targets_in_turn}
use Rattle.sq_binding.specs.Whole.{must_hold}
use Rattle.sq_binding.proofs.Faultless.Clean.{steps_of}
use Rattle.sq_binding.proofs.Standing.ExprsStand.{indicator_whole, parameter_there}
use Rattle.sq_binding.proofs.Standing.Levels as levels
use Rattle.sq_binding.proofs.Placing.Placed.{indicator_is, position_is}
use Rattle.sq_binding.proofs.FaultsFound.UnionFaults.{lengths_equal}
use Rattle.sq_binding.specs.Names.{declared}
use Rattle.sq_binding.specs.SeenQuery.{output_seen}
use Rattle.sq_binding.specs.Written.{AreOutputsOf, IsDistanceOf, IsOrientationOf, IsOutputOf, orientation_of}
use Rattle.sq_binding.proofs.WellFormed.Named.{kinds_of_declared}

pub held : (test : Bool) (f : BindingFault) (u : Unit {0}) → must_hold test f ≡ Ok u → test ≡ true
held true f u is = refl
held false f u is = cc

firsts_of : (ps : List Parameter) (ks : List Kind) → length ps ≡ length ks → map (λ (t : Parameter × Kind). t.0) (zip ps ks) ≡ ps
firsts_of [] ks e = refl
firsts_of (p ∷ ps) [] e = cc
firsts_of (p ∷ ps) (k ∷ ks) e = let rest : length ps ≡ length ks = omega (arith, e) in ap (λ l. p ∷ l) (firsts_of ps ks rest)

seconds_of : (ps : List Parameter) (ks : List Kind) → length ps ≡ length ks → map (λ (t : Parameter × Kind). t.1) (zip ps ks) ≡ ks
seconds_of [] [] e = refl
seconds_of [] (k ∷ ks) e = cc
seconds_of (p ∷ ps) [] e = cc
seconds_of (p ∷ ps) (k ∷ ks) e = let rest : length ps ≡ length ks = omega (arith, e) in ap (λ l. k ∷ l) (seconds_of ps ks rest)

has_some : (P : Kind → Type 0) (o : Option Kind) (k : Kind) → o ≡ Some k → P k → Has P (status.well_formed o)
has_some P o k e h = subst (λ (o : Option Kind). Has P (status.well_formed o)) (sym e) h

pub true_is : (b : Bool) → b ≡ true → IsTrue b
true_is b e = e

module _ (parameters : List ParameterDesc) where
  abbrev kinds : List Kind
  kinds = kinds_of_parameters parameters

  kind_at : (p : ℕ) (k : Kind) → slice_get (levels.kinds_declared (declared parameters)) p ≡ Some k → slice_get kinds p ≡ Some k
  kind_at p k e = ap (λ (ks : List Kind). slice_get ks p) (sym (kinds_of_declared parameters)) ∙ e

  indicator_kind : (o : Option ℕ) → IfSome o (λ p. slice_get (levels.kinds_declared (declared parameters)) p ≡ Some (Num 0)) → IfSome o (λ p. slice_get kinds p ≡ Some (Num 0))
  indicator_kind None h = tt
  indicator_kind (Some p) h = kind_at p (Num 0) h

  one_target : (t : Parameter × Kind) (o : Output) → target_bound (declared parameters) t ≡ Ok (output_seen o) → IsOutputOf parameters o t.0 × TakesKind kinds o t.1
  one_target t o is =
      let a = steps_of (parameter_named (declared parameters) t.0.name)
      (λ at. and_then (indicator_bound (declared parameters) t.0.indicator) (λ i. and_then (must_hold (is_comparable (kind_of at.1) t.1) fault.KindMismatch) (λ _. Ok (record { position = at.0; indicator = i })))) (output_seen o) is in
      let b = steps_of (indicator_bound (declared parameters) t.0.indicator) (λ i. and_then (must_hold (is_comparable (kind_of a.step.1) t.1) fault.KindMismatch) (λ _. Ok (record { position = a.step.0; indicator = i }))) (output_seen o) a.second in
      let c = steps_of (must_hold (is_comparable (kind_of a.step.1) t.1) fault.KindMismatch) (λ _. Ok (record { position = a.step.0; indicator = b.step })) (output_seen o) b.second in
      let made = c.second in
      let found : PlacedParameter = record { position = a.step.0; indicator = b.step } in
      let same : found ≡ output_seen o = cc in
      let agrees : IsTrue (is_comparable (kind_of a.step.1) t.1) = true_is (is_comparable (kind_of a.step.1) t.1) (held (is_comparable (kind_of a.step.1) t.1) fault.KindMismatch c.step c.first) in
      let place : a.step.0 ≡ o.parameter = ap (λ (p : PlacedParameter). p.position) same in
      let also : b.step ≡ o.indicator = ap (λ (p : PlacedParameter). p.indicator) same in (
        ap (λ (o : status.Outcome (ℕ × Domain)). status.and_then o (λ at. status.and_then (indicator_named (declared parameters) t.0.indicator) (λ i. Ok (record { position = at.0; indicator = i })))) (position_is (declared parameters) t.0 a.step a.first)
            ∙ ap (λ (o : status.Outcome (Option ℕ)). status.and_then o (λ i. Ok (record { position = a.step.0; indicator = i }))) (indicator_is (declared parameters) t.0.indicator b.step b.first)
            ∙ ap Ok same,
        (
          has_some (λ p. IsTrue (is_comparable p t.1)) (slice_get kinds o.parameter) (kind_of a.step.1)
              (kind_at o.parameter (kind_of a.step.1) (subst (λ p. slice_get (levels.kinds_declared (declared parameters)) p ≡ Some (kind_of a.step.1)) place (parameter_there (declared parameters) t.0.name a.step a.first))) agrees,
          subst (λ i. IfSome i (λ p. slice_get kinds p ≡ Some (Num 0))) also (indicator_kind b.step (indicator_whole (declared parameters) t.0.indicator b.step b.first)),
        ),
      )

  in_turn : (ts : List (Parameter × Kind)) (before : List ℕ) (os : List Output) → targets_in_turn (declared parameters) before ts ≡ Ok (map output_seen os)
      → AreOutputsOf parameters os (map (λ t. t.0) ts) × TakeKinds kinds os (map (λ t. t.1) ts)
  in_turn [] before [] is = (tt, tt)
  in_turn [] before (o ∷ os) is = cc
  in_turn (t ∷ ts) before [] is =
      let a = steps_of (target_bound (declared parameters) t)
      (λ target. and_then (must_hold (not (has_twice nat_eq (before ++ set_by target))) fault.TargetTwice) (λ _. and_then (targets_in_turn (declared parameters) (before ++ set_by target) ts) (λ targets. Ok (target ∷ targets)))) [] is in
      let b = steps_of (must_hold (not (has_twice nat_eq (before ++ set_by a.step))) fault.TargetTwice) (λ _. and_then (targets_in_turn (declared parameters) (before ++ set_by a.step) ts) (λ targets. Ok (a.step ∷ targets))) [] a.second in
      let c = steps_of (targets_in_turn (declared parameters) (before ++ set_by a.step) ts) (λ targets. Ok (a.step ∷ targets)) [] b.second in
      let made = c.second in
      let no : a.step ∷ c.step ≡ [] = cc in absurd cc
  in_turn (t ∷ ts) before (o ∷ os) is =
      let whole = output_seen o ∷ map output_seen os in
      let a = steps_of (target_bound (declared parameters) t)
      (λ target. and_then (must_hold (not (has_twice nat_eq (before ++ set_by target))) fault.TargetTwice) (λ _. and_then (targets_in_turn (declared parameters) (before ++ set_by target) ts) (λ targets. Ok (target ∷ targets)))) whole is in
      let b = steps_of (must_hold (not (has_twice nat_eq (before ++ set_by a.step))) fault.TargetTwice) (λ _. and_then (targets_in_turn (declared parameters) (before ++ set_by a.step) ts) (λ targets. Ok (a.step ∷ targets))) whole a.second in
      let c = steps_of (targets_in_turn (declared parameters) (before ++ set_by a.step) ts) (λ targets. Ok (a.step ∷ targets)) whole b.second in
      let made = c.second in
      let same : a.step ∷ c.step ≡ output_seen o ∷ map output_seen os = cc in
      let head : a.step ≡ output_seen o = cc (same) in
      let tail : c.step ≡ map output_seen os = cc (same) in
      let one = one_target t o (a.first ∙ ap Ok head) in
      let rest = in_turn ts (before ++ set_by a.step) os (c.first ∙ ap Ok tail) in
      ((one.0, rest.0), (one.1, rest.1))

  takes_one : (o : Output) (k : Kind) → TakesKind kinds o k → (nat_lt o.parameter (length parameters) && option_all (λ p. nat_lt p (length parameters)) o.indicator) ≡ true
  takes_one o k h = λ i. lt-ltb o.parameter (length parameters) (within o.parameter (slice_get kinds o.parameter) refl h.0) i && indicator_within o.indicator h.1 i
    where
      count : length kinds ≡ length parameters
      count = length-map parameters (λ (p : ParameterDesc). kind_of p.domain)

      within : (p : ℕ) (found : Option Kind) → slice_get kinds p ≡ found → Has (λ l. IsTrue (is_comparable l k)) (status.well_formed found) → p < length parameters
      within p (Some l) e h = subst (λ n. p < n) count (slice_get_within kinds p l e)
      within p None e h = absurd h

      indicator_within : (o : Option ℕ) → IfSome o (λ p. slice_get kinds p ≡ Some (Num 0)) → option_all (λ p. nat_lt p (length parameters)) o ≡ true
      indicator_within None h = refl
      indicator_within (Some p) h = lt-ltb p (length parameters) (subst (λ n. p < n) count (slice_get_within kinds p (Num 0) h))

  -- targets that take values are parameters
  pub takes_parameters : (os : List Output) (ks : List Kind) → TakeKinds kinds os ks → are_parameters (length parameters) os ≡ true
  takes_parameters [] ks h = refl
  takes_parameters (o ∷ os) [] h = absurd h
  takes_parameters (o ∷ os) (k ∷ ks) h = λ i. takes_one o k h.0 i && takes_parameters os ks h.1 i

  pub targets_are : (targets : List Parameter) (ks : List Kind) (os : List Output) → targets_bound (declared parameters) targets ks ≡ Ok (map output_seen os) → AreOutputsOf parameters os targets × TakeKinds kinds os ks
  targets_are targets ks os is =
      let a = steps_of (must_hold (length targets == length ks) fault.CountMismatch) (λ _. targets_in_turn (declared parameters) [] (zip targets ks)) (map output_seen os) is in
      let same : length targets ≡ length ks = lengths_equal (length targets) (length ks) (held (length targets == length ks) fault.CountMismatch a.step a.first) in
      let both = in_turn (zip targets ks) [] os a.second in
      (subst (AreOutputsOf parameters os) (firsts_of targets ks same) both.0, subst (TakeKinds kinds os) (seconds_of targets ks same) both.1)

  -- ---- orientations

  whole_kind : (d : Domain) → is_whole_domain d ≡ true → kind_of d ≡ Num 0
  whole_kind domain.Small e = refl
  whole_kind domain.Int e = refl
  whole_kind (domain.Numeric p s) e = ap Num (eqb-true s 0 e)
  whole_kind (domain.Char n) e = cc
  whole_kind (domain.VarChar n) e = cc

  there : {A : Type 0} (f : BindingFault) (o : Option A) (x : A) → or_fault f o ≡ Ok x → status.well_formed o ≡ Ok x
  there f (Some y) x e = let same : y ≡ x = cc in ap Ok same
  there f None x e = cc

  abbrev DistanceIs : Position → Distance → Type 0
  DistanceIs p d = IsDistanceOf parameters p d × IsDistance kinds d

  number_is : (p : Position) (d : Distance) → distance_bound (declared parameters) p ≡ Ok d → DistanceIs p d
  number_is (position.Number n) d is = by_point (has_point n.number) refl is
    where
      by_point : (b : Bool) → has_point n.number ≡ b → ◌≡◌ {A = Outcome Distance} (if b then Err fault.BadOrientation else Ok (distance.Number (number_with_sign n).unscaled)) (Ok d) → DistanceIs (position.Number n) d
      by_point true e is = cc
      by_point false e is = let same : distance.Number (number_with_sign n).unscaled ≡ d = cc in subst (DistanceIs (position.Number n)) same ((e, refl), tt)
  number_is (position.Parameter name) d is =
      let a = steps_of (parameter_named (declared parameters) name) (λ at. and_then (must_hold (is_whole_domain at.1) fault.BadOrientation) (λ _. Ok (distance.Parameter at.0))) d is in
      let b = steps_of (must_hold (is_whole_domain a.step.1) fault.BadOrientation) (λ _. Ok (distance.Parameter a.step.0)) d a.second in
      let made = b.second in
      let same : distance.Parameter a.step.0 ≡ d = cc in
      let whole = whole_kind a.step.1 (held (is_whole_domain a.step.1) fault.BadOrientation b.step b.first) in
      subst (DistanceIs (position.Parameter name)) same (
        (a.step.1, there fault.UnknownParameter (option_and_then (λ at. option_map (λ p. (at, p.domain)) (slice_get (declared parameters) at)) (list.position (λ p. environment.same_name p.name name) (declared parameters))) a.step a.first),
        kind_at a.step.0 (Num 0) (parameter_there (declared parameters) name a.step a.first ∙ ap Some whole),
      )

  abbrev OrientationIs : Orientation → FetchOrientation → Type 0
  OrientationIs w f = IsOrientationOf parameters w f × IsOrientation kinds f

  written_is : (w : Orientation) (f : FetchOrientation) → written_bound (declared parameters) w ≡ Ok f → OrientationIs w f
  written_is written.Next f is = let same : orientation.Next ≡ f = cc in subst (OrientationIs written.Next) same (tt, tt)
  written_is written.Prior f is = let same : orientation.Prior ≡ f = cc in subst (OrientationIs written.Prior) same (tt, tt)
  written_is written.First f is = let same : orientation.First ≡ f = cc in subst (OrientationIs written.First) same (tt, tt)
  written_is written.Last f is = let same : orientation.Last ≡ f = cc in subst (OrientationIs written.Last) same (tt, tt)
  written_is (written.Absolute p) f is =
      let a = steps_of (distance_bound (declared parameters) p) (λ d. Ok (orientation.Absolute d)) f is in
      let made = a.second in
      let same : orientation.Absolute a.step ≡ f = cc in subst (OrientationIs (written.Absolute p)) same (number_is p a.step a.first)
  written_is (written.Relative p) f is =
      let a = steps_of (distance_bound (declared parameters) p) (λ d. Ok (orientation.Relative d)) f is in
      let made = a.second in
      let same : orientation.Relative a.step ≡ f = cc in subst (OrientationIs (written.Relative p)) same (number_is p a.step a.first)

  any_is : (o : Option Orientation) (f : FetchOrientation) → orientation_bound (declared parameters) o ≡ Ok f → OrientationIs (unwrap_or o written.Next) f
  any_is None f is = let same : orientation.Next ≡ f = cc in subst (OrientationIs written.Next) same (tt, tt)
  any_is (Some w) f is = written_is w f is

  fetched_is : (scrolls : Bool) (o : Option Orientation) (f : FetchOrientation) → fetched (declared parameters) scrolls o ≡ Ok f → OrientationIs (unwrap_or o written.Next) f
  fetched_is scrolls o f is =
      let a = steps_of (orientation_bound (declared parameters) o) (λ found. and_then (must_hold (scrolls || is_next found) fault.BadOrientation) (λ _. Ok found)) f is in
      let b = steps_of (must_hold (scrolls || is_next a.step) fault.BadOrientation) (λ _. Ok a.step) f a.second in
      let made = b.second in
      let same : a.step ≡ f = cc in subst (OrientationIs (unwrap_or o written.Next)) same (any_is o a.step a.first)

  pub orientation_is : (scrolls : Bool) (from : Option FetchFrom) (f : FetchOrientation) → fetched (declared parameters) scrolls (option_and_then (λ from. from.orientation) from) ≡ Ok f → OrientationIs (orientation_of from) f
  orientation_is scrolls None f is = fetched_is scrolls None f is
  orientation_is scrolls (Some from) f is = fetched_is scrolls from.orientation f is
