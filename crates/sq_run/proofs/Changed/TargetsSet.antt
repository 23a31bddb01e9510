-- A target that is bound is the parameter of the written name, at the first place that has it, and so is its indicator (ISO/IEC 9075:1992, 6.2
-- and 9.1).
use Rattle.std.proofs.Common.{◌≡◌, ℕ, zero, suc, Bool, true, false, cond, List, [], ◌∷◌, length, Option, Some, None, refl, sym, ap, subst, ◌∙◌, Ok, Err}
use Rattle.std.proofs.lemmas.List.Folds.{find_at}
use Rattle.std.proofs.lemmas.List.Quantifiers.{position-Some}
use Rattle.std.proofs.lemmas.Option.{get_or_from_slice_get}
use Rattle.std.specs.Cmp.Lexicographic.{same_text}
use Rattle.std.specs.Prelude.{⊤, find, nat_lt, position, slice_get}
use Rattle.std.specs.List.{AllZip, position_or_len}
use Rattle.std.specs.Option.{option_and_then, option_map}
use Rattle.sq_lex.specs.declared.name.Name.{Name}
use Rattle.sq_tree.specs.declared.names.Indicator.{Indicator}
use Rattle.sq_tree.specs.declared.names.Parameter.{Parameter}
use Rattle.sq_value.specs.declared.domain.Domain.{Domain}
use Rattle.sq_meaning.specs.Environment.{same_name}
use Rattle.sq_meaning.specs.Placed.{PlacedParameter}
use Rattle.sq_meaning.specs.Status.{Outcome, and_then, well_formed}
use Rattle.sq_meaning.specs.Parameter as machine
use Rattle.sq_meaning.specs.Parameter.{Parameters}
use Rattle.sq_bound.specs.declared.names.ParameterDesc.{ParameterDesc}
use Rattle.sq_bound.specs.declared.statement.Output.{Output as Target}
use Rattle.sq_binding.specs.Placed.{indicator_named, position_named}
use Rattle.sq_binding.specs.Names.{declared, declared_of}
use Rattle.sq_binding.specs.Written.{IsOutputOf}
use Rattle.sq_run.proofs.Places.Outcomes.{ok_same}
use Rattle.sq_run.proofs.Places.Parameters.{position_map}

-- ---- parameters

-- the parameters of a call are those of the procedure
abbrev pub AreParameters : List ParameterDesc → Parameters → Type 0
AreParameters = AllZip (λ p q. (p.name ≡ q.name) × (p.domain ≡ q.domain))

-- no two have one name (12.3)
abbrev pub AreApart : List ParameterDesc → Type 0
AreApart ps = (i j : ℕ) (p q : ParameterDesc) → slice_get ps i ≡ Some p → slice_get ps j ≡ Some q → p.name ≡ q.name → i ≡ j

pub domain_same : (name : Name) (ps : List ParameterDesc) (qs : Parameters) → AreParameters ps qs
    → option_map (λ p. p.domain) (find (λ p. same_name p.name name) ps)
    ≡ option_map (λ q. q.domain) (find (λ q. same_name q.name name) qs)
domain_same name [] [] h = refl
domain_same name [] (q ∷ qs) h = absurd h
domain_same name (p ∷ ps) [] h = absurd h
domain_same name (p ∷ ps) (q ∷ qs) h =
    by_test (same_name p.name name) (domain_same name ps qs h.1)
    ∙ ap (λ n. option_map (λ (x : machine.ParameterValue). x.domain) (cond (same_name n name) (Some q) (find (λ x. same_name x.name name) qs))) h.0.0
  where
    by_test : (b : Bool) → option_map (λ x. x.domain) (find (λ x. same_name x.name name) ps) ≡ option_map (λ x. x.domain) (find (λ x. same_name x.name name) qs)
        → option_map (λ x. x.domain) (cond b (Some p) (find (λ x. same_name x.name name) ps))
        ≡ option_map (λ x. x.domain) (cond b (Some q) (find (λ x. same_name x.name name) qs))
    by_test true e = ap Some h.0.1
    by_test false e = e

-- a name means the parameter at a place
pub record IsPlaced (ps : List ParameterDesc) (name : Name) (place : ℕ) : Type 0 where
  pub parameter : ParameterDesc
  pub at : slice_get ps place ≡ Some parameter
  pub named : parameter.name ≡ name
  pub first : find (λ p. same_name p.name name) ps ≡ Some parameter

-- the parameter of a name, with its domain
abbrev named_in : List ParameterDesc → Name → Outcome (ℕ × Domain)
named_in ps name = well_formed (option_and_then (λ at. option_map (λ p. (at, p.domain)) (slice_get ps at)) (position (λ p. same_name p.name name) ps))

named_as_declared : (ps : List ParameterDesc) (name : Name) → position_named (declared ps) name ≡ named_in ps name
named_as_declared ps name =
    ap (λ o. well_formed (option_and_then (λ at. option_map {U = ℕ × Domain} (λ d. (at, d.domain)) (slice_get (declared ps) at)) o))
    (position_map (λ d. same_name d.name name) declared_of ps)
    ∙ (λ i. well_formed (option_and_then (λ at. there at at ps i) (position (λ p. same_name p.name name) ps)))
  where
    there : (n at : ℕ) (ps : List ParameterDesc) → option_map {U = ℕ × Domain} (λ d. (n, d.domain)) (slice_get (declared ps) at) ≡ option_map (λ p. (n, p.domain)) (slice_get ps at)
    there n at [] = refl
    there n zero (p ∷ ps) = refl
    there n (suc at) (p ∷ ps) = there n at ps

placed_at : (ps : List ParameterDesc) (name : Name) (place : ℕ) (d : Domain) → position_named (declared ps) name ≡ Ok (place, d)
    → IsPlaced ps name place
placed_at ps name place d e = by_position (position test ps) refl (sym (named_as_declared ps name) ∙ e)
  where
    test : ParameterDesc → Bool
    test p = same_name p.name name

    first_at : (n : ℕ) → position test ps ≡ Some n → position_or_len test ps ≡ n
    first_at n h = by_less (nat_lt (position_or_len test ps) (length ps)) h
      where
        by_less : (b : Bool) → cond b (Some (position_or_len test ps)) None ≡ Some n → position_or_len test ps ≡ n
        by_less true h = cc
        by_less false h = cc

    by_found : (n : ℕ) → position test ps ≡ Some n → (o : Option ParameterDesc) → slice_get ps n ≡ o
        → well_formed {A = ℕ × Domain} (option_map (λ p. (n, p.domain)) o) ≡ Ok (place, d) → IsPlaced ps name place
    by_found n h None at e = cc
    by_found n h (Some p) at e =
        let here : n ≡ place = ap (λ (q : ℕ × Domain). q.0) (ok_same (n, p.domain) (place, d) e) in
        let passes = position-Some test ps n p h in
        record {
          parameter = p;
          at = ap (slice_get ps) (sym here) ∙ at;
          named = same_text p.name name (sym (ap test (sym (get_or_from_slice_get ps n p p at)) ∙ passes.1));
          first = find_at test ps ∙ ap (slice_get ps) (first_at n h) ∙ at;
        }

    by_position : (o : Option ℕ) → position test ps ≡ o
        → well_formed {A = ℕ × Domain} (option_and_then (λ n. option_map (λ p. (n, p.domain)) (slice_get ps n)) o) ≡ Ok (place, d) → IsPlaced ps name place
    by_position None h e = cc
    by_position (Some n) h e = by_found n h (slice_get ps n) refl e

-- The indicator of a target, where one is written, is the same in both readings.
abbrev pub IsIndicator : List ParameterDesc → Option Indicator → Option ℕ → Type 0
IsIndicator ps None None = ⊤
IsIndicator ps None (Some n) = ⊥
IsIndicator ps (Some i) None = ⊥
IsIndicator ps (Some i) (Some n) = IsPlaced ps i.name n

pub record IsTargetAt (ps : List ParameterDesc) (o : Target) (t : Parameter) : Type 0 where
  pub placed : IsPlaced ps t.name o.parameter
  pub indicator : IsIndicator ps t.indicator o.indicator

pub target_at : (ps : List ParameterDesc) (o : Target) (t : Parameter) → IsOutputOf ps o t → IsTargetAt ps o t
target_at ps o t e = by_name (position_named (declared ps) t.name) refl e
  where
    by_written : (w : Option Indicator) (at : ℕ × Domain) → position_named (declared ps) t.name ≡ Ok at → (i : Option ℕ) → t.indicator ≡ w
        → indicator_named (declared ps) w ≡ Ok i → at.0 ≡ o.parameter → i ≡ o.indicator → IsTargetAt ps o t
    by_written w at h i is e here there = record {
      placed = subst (IsPlaced ps t.name) here (placed_at ps t.name at.0 at.1 h);
      indicator = subst (λ x. IsIndicator ps t.indicator x) there (subst (λ x. IsIndicator ps x i) (sym is) (of_written w i e));
    }
      where
        of_name : (i : Indicator) (n : Option ℕ) (r : Outcome (ℕ × Domain)) → position_named (declared ps) i.name ≡ r
            → and_then r (λ p. Ok (Some p.0)) ≡ Ok n → IsIndicator ps (Some i) n
        of_name i None (Ok p) h e = cc
        of_name i (Some n) (Ok p) h e = let here : p.0 ≡ n = cc in subst (IsPlaced ps i.name) here (placed_at ps i.name p.0 p.1 h)
        of_name i n (Err s) h e = cc

        of_written : (w : Option Indicator) (n : Option ℕ) → indicator_named (declared ps) w ≡ Ok n → IsIndicator ps w n
        of_written None None e = tt
        of_written None (Some n) e = cc
        of_written (Some i) n e = of_name i n (position_named (declared ps) i.name) refl e

    by_indicator : (at : ℕ × Domain) → position_named (declared ps) t.name ≡ Ok at → (r : Outcome (Option ℕ)) → indicator_named (declared ps) t.indicator ≡ r
        → and_then {B = PlacedParameter} r (λ i. Ok (record { position = at.0; indicator = i })) ≡ Ok (record { position = o.parameter; indicator = o.indicator })
        → IsTargetAt ps o t
    by_indicator at h (Err s) i e = cc
    by_indicator at h (Ok i) is e =
        let one : PlacedParameter = record { position = at.0; indicator = i } in
        let other : PlacedParameter = record { position = o.parameter; indicator = o.indicator } in
        let same = ok_same one other e in
        by_written t.indicator at h i refl is (ap (λ (q : PlacedParameter). q.position) same) (ap (λ (q : PlacedParameter). q.indicator) same)

    by_name : (r : Outcome (ℕ × Domain)) → position_named (declared ps) t.name ≡ r
        → and_then {B = PlacedParameter} r (λ at. and_then (indicator_named (declared ps) t.indicator) (λ i. Ok (record { position = at.0; indicator = i }))) ≡ Ok (record { position = o.parameter; indicator = o.indicator })
        → IsTargetAt ps o t
    by_name (Err s) h e = cc
    by_name (Ok at) h e = by_indicator at h (indicator_named (declared ps) t.indicator) refl e
