-- A parameter means by its position what it means by its name, where the inputs are those of the parameters (ISO/IEC
-- 9075:1992, 6.2).
use Rattle.std.proofs.Common.{◌≡◌, ℕ, zero, suc, ◌+◌, Bool, true, false, not, cond, List, [], ◌∷◌, length, map, Option, Some, None, refl, sym, ap, ◌∙◌, Ok}
use Rattle.std.proofs.lemmas.List.Folds.{find_at}
use Rattle.std.specs.Prelude.{⊤, nat_lt, slice_get, IfOk}
use Rattle.std.proofs.lemmas.List.{length-map}
use Rattle.std.specs.List.{position, position_or_len}
use Rattle.std.specs.Option.{option_map, option_and_then}
use Rattle.sq_lex.specs.declared.name.Name.{Name}
use Rattle.sq_tree.specs.declared.names.Indicator.{Indicator}
use Rattle.sq_tree.specs.declared.names.Parameter.{Parameter}
use Rattle.sq_value.specs.declared.domain.Domain.{Domain}
use Rattle.sq_value.specs.declared.value.Value.{Value}
use Rattle.sq_meaning.specs.Status.{Outcome, and_then, well_formed}
use Rattle.sq_meaning.specs.Environment.{Input, same_name, input_named, input_value, with_indicator}
use Rattle.sq_meaning.specs.Placed.{PlacedParameter, input_at, placed_value}
use Rattle.sq_bound.specs.declared.names.ParameterDesc.{ParameterDesc}
use Rattle.sq_meaning.specs.Tables.{Declared}
use Rattle.sq_binding.specs.Placed.{indicator_named, placed_parameter, position_named}
use Rattle.sq_binding.specs.Names.{declared}
use Rattle.sq_run.proofs.Places.Outcomes.{if_then}

-- The inputs of a call have the names of the procedure's parameters, in their order. The text of a view or of a CHECK knows no
-- parameters, whatever the inputs of the call are.
abbrev pub AreNamed : List ParameterDesc → List Input → Type 0
AreNamed [] inputs = ⊤
AreNamed (p ∷ parameters) inputs = map (λ q. q.name) (p ∷ parameters) ≡ map (λ i. i.name) inputs

-- These are the values of the parameters in both readings.
pub record SameInputs (parameters : List ParameterDesc) (inputs others : List Input) : Type 0 where
  pub names : AreNamed parameters inputs
  pub values : map (λ i. i.value) inputs ≡ map (λ i. i.value) others

pub get_map : {A B : Type 0} (f : A → B) (xs : List A) (n : ℕ) → option_map f (slice_get xs n) ≡ slice_get (map f xs) n
get_map f [] n = refl
get_map f (x ∷ xs) zero = refl
get_map f (x ∷ xs) (suc n) = get_map f xs n

-- by position the names have no bearing
by_position : (inputs others : List Input) (n : ℕ) → map (λ i. i.value) inputs ≡ map (λ i. i.value) others
    → input_at inputs n ≡ input_at others n
by_position inputs others n e =
    ap well_formed
    (get_map (λ (i : Input). i.value) inputs n ∙ ap (λ vs. slice_get vs n) e ∙ sym (get_map (λ (i : Input). i.value) others n))

-- the first of a name stands where the names have it first
pub position_or_len_map : {A B : Type 0} (p : B → Bool) (f : A → B) (xs : List A)
    → position_or_len p (map f xs) ≡ position_or_len (λ x. p (f x)) xs
position_or_len_map p f [] = refl
position_or_len_map p f (x ∷ xs) = ap (λ n. cond (not (p (f x))) (1 + n) 0) (position_or_len_map p f xs)

pub position_map : {A B : Type 0} (p : B → Bool) (f : A → B) (xs : List A) → position p (map f xs) ≡ position (λ x. p (f x)) xs
position_map p f xs =
    (λ i. cond (nat_lt (position_or_len_map p f xs i) (length-map xs f i)) (Some (position_or_len_map p f xs i)) None)

declared_names : (parameters : List ParameterDesc) → map (λ p. p.name) (declared parameters) ≡ map (λ p. p.name) parameters
declared_names [] = refl
declared_names (p ∷ parameters) = ap (λ names. p.name ∷ names) (declared_names parameters)

same_first : (parameters : List ParameterDesc) (inputs : List Input) (name : Name)
    → map (λ p. p.name) parameters ≡ map (λ i. i.name) inputs
    → position_or_len (λ p. same_name p.name name) (declared parameters) ≡ position_or_len (λ i. same_name i.name name) inputs
same_first parameters inputs name e =
    sym (position_or_len_map (λ n. same_name n name) (λ (p : Declared). p.name) (declared parameters))
    ∙ ap (λ names. position_or_len (λ n. same_name n name) names) (declared_names parameters ∙ e)
    ∙ position_or_len_map (λ n. same_name n name) (λ (i : Input). i.name) inputs

-- the parameter of a name
abbrev pub SameNamed : List ParameterDesc → Name → ℕ × Domain → Type 0
SameNamed parameters name at =
    (inputs others : List Input) → SameInputs parameters inputs others → input_named inputs name ≡ input_at others at.0

pub named_same : (parameters : List ParameterDesc) (name : Name) → IfOk (position_named (declared parameters) name) (SameNamed parameters name)
named_same [] name = tt
named_same (q ∷ parameters) name = where_there (nat_lt first (length (declared (q ∷ parameters))))
  where
    first : ℕ
    first = position_or_len (λ p. same_name p.name name) (declared (q ∷ parameters))

    there : (found : Option Declared)
        → IfOk (well_formed (option_map (λ p. (first, p.domain)) found)) (SameNamed (q ∷ parameters) name)
    there None = tt
    there (Some p) = λ inputs others same.
        ap (λ o. well_formed (option_map (λ i. i.value) o)) (find_at (λ (i : Input). same_name i.name name) inputs)
        ∙ ap (λ n. input_at inputs n) (sym (same_first (q ∷ parameters) inputs name same.names))
        ∙ by_position inputs others first same.values

    where_there : (b : Bool)
        → IfOk (well_formed (option_and_then (λ at. option_map (λ p. (at, p.domain)) (slice_get (declared (q ∷ parameters)) at)) (cond b (Some first) None))) (SameNamed (q ∷ parameters) name)
    where_there false = tt
    where_there true = there (slice_get (declared (q ∷ parameters)) first)

-- The indicator of a parameter, where one is written, is the same in both readings.
abbrev SameIndicator : List ParameterDesc → Option Indicator → Option ℕ → Type 0
SameIndicator parameters indicator at = (inputs others : List Input) → SameInputs parameters inputs others → (v : Value)
    → with_indicator (λ i. input_named inputs i.name) indicator v ≡ with_indicator (input_at others) at v

indicator_same : (parameters : List ParameterDesc) (indicator : Option Indicator)
    → IfOk (indicator_named (declared parameters) indicator) (SameIndicator parameters indicator)
indicator_same parameters None = λ inputs others e v. refl
indicator_same parameters (Some i) =
    if_then (position_named (declared parameters) i.name) (λ at. Ok (Some at.0)) (SameNamed parameters i.name)
    (SameIndicator parameters (Some i)) (named_same parameters i.name)
    (λ at same inputs others e v. ap (λ (o : Outcome Value). with_indicator (λ (k : ℕ). o) (Some at.0) v) (same inputs others e))

abbrev pub SameParameter : List ParameterDesc → Parameter → PlacedParameter → Type 0
SameParameter parameters p q =
    (inputs others : List Input) → SameInputs parameters inputs others → input_value p inputs ≡ placed_value q others

pub parameter_same : (parameters : List ParameterDesc) (p : Parameter)
    → IfOk (placed_parameter (declared parameters) p) (SameParameter parameters p)
parameter_same parameters p =
    if_then (position_named (declared parameters) p.name)
    (λ at. and_then (indicator_named (declared parameters) p.indicator) (λ i. Ok (record { position = at.0; indicator = i })))
    (SameNamed parameters p.name) (SameParameter parameters p)
    (named_same parameters p.name)
    (λ at named. if_then (indicator_named (declared parameters) p.indicator) (λ i. Ok (record { position = at.0; indicator = i })) (SameIndicator parameters p.indicator) (SameParameter parameters p)
    (indicator_same parameters p.indicator)
    (λ i indicated inputs others e. (λ j. and_then (named inputs others e j) (λ v. indicated inputs others e v j))))
