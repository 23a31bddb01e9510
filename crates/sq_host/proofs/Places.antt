-- The place of the first value that does not fit.
use Rattle.std.proofs.Common.{◌≡◌, ℕ, zero, suc, ◌+◌, ◌<◌, ◌&&◌, Bool, true, false, List, [], ◌∷◌, length, take, replicate, get_or, Option, None, Some, refl, ap, subst, sym, ◌∙◌, arith}
use Rattle.std.proofs.Math.ListN.{set}
use Rattle.std.proofs.Math.Seq.{take-length}
use Rattle.std.specs.Option.{option_map, option_map_or}
use Rattle.std.specs.Prelude.{if◌then◌else◌}
use Rattle.sq_value.specs.declared.value.Value.{Value}
use Rattle.sq_value.specs.declared.value.Value.TheVariants.{Null}
use Rattle.sq_meaning.specs.Module.{declared_parameters}
use Rattle.sq_meaning.specs.Script.{fit, fits_in}
use Rattle.sq_meaning.specs.Tables.{Declared}
use Rattle.sq_run.specs.Processor.{Machine, procedure_at, takes}
use Rattle.sq_host.specs.Unfit.{are_as_many, parameters_at, unfit, unfit_at, unfit_from}

-- nulls fit if they are as many as the parameters
nulls_fit : (ds : List Declared) (values : List Value) → fit ds (replicate (length values) Null) ≡ are_as_many ds values
nulls_fit [] [] = refl
nulls_fit [] (v ∷ values) = refl
nulls_fit (d ∷ ds) [] = refl
nulls_fit (d ∷ ds) (v ∷ values) = nulls_fit ds values

and_left : (a b : Bool) → a && b ≡ true → a ≡ true
and_left true b h = refl
and_left false b h = h

and_right : (a b : Bool) → a && b ≡ true → b ≡ true
and_right true b h = h
and_right false b h = cc

and_fails : (a b : Bool) → b ≡ true → a && b ≡ false → a ≡ false
and_fails true b good h = cc
and_fails false b good h = refl

as_many : (ds : List Declared) (tried values : List Value) → fit ds tried ≡ true → length tried ≡ length values → are_as_many ds values ≡ true
as_many [] [] [] h long = refl
as_many [] [] (v ∷ values) h long = absurd (omega (arith, long))
as_many [] (t ∷ tried) values h long = cc
as_many (d ∷ ds) [] values h long = cc
as_many (d ∷ ds) (t ∷ tried) [] h long = absurd (omega (arith, long))
as_many (d ∷ ds) (t ∷ tried) (v ∷ values) h long = as_many ds tried values (and_right (fits_in d.domain t) (fit ds tried) h) (omega (arith, long))

none_unfit : (ds : List Declared) (vs : List Value) → fit ds vs ≡ true → unfit_from ds vs ≡ None
none_unfit [] vs h = refl
none_unfit (d ∷ ds) [] h = refl
none_unfit (d ∷ ds) (v ∷ vs) h =
    ap (λ b. if b then option_map (λ place. place + 1) (unfit_from ds vs) else Some 0) (and_left (fits_in d.domain v) (fit ds vs) h)
    ∙ ap (option_map (λ place. place + 1)) (none_unfit ds vs (and_right (fits_in d.domain v) (fit ds vs) h))

-- with this value in its place, the values no longer fit
first_place : (ds : List Declared) (tried values : List Value) (i : ℕ) (v : Value) → fit ds tried ≡ true → fit ds (set tried i v) ≡ false → take i tried ≡ take i values
    → i < length values → v ≡ get_or values i v → unfit_from ds values ≡ Some i
first_place [] [] values i v fits fails same lt at = cc
first_place [] (t ∷ ts) values i v fits fails same lt at = cc
first_place (d ∷ ds) [] values i v fits fails same lt at = cc
first_place (d ∷ ds) (t ∷ ts) [] i v fits fails same lt at = absurd (omega arith)
first_place (d ∷ ds) (t ∷ ts) (w ∷ ws) zero v fits fails same lt at =
    let rest = and_right (fits_in d.domain t) (fit ds ts) fits in
    let here : v ≡ w = at in
    let bad : fits_in d.domain w ≡ false = ap (λ x. fits_in d.domain x) (sym here) ∙ and_fails (fits_in d.domain v) (fit ds ts) rest fails in
    ap (λ b. if b then option_map (λ place. place + 1) (unfit_from ds ws) else Some 0) bad
first_place (d ∷ ds) (t ∷ ts) (w ∷ ws) (suc j) v fits fails same lt at =
    let good = and_left (fits_in d.domain t) (fit ds ts) fits in
    let rest = and_right (fits_in d.domain t) (fit ds ts) fits in
    let here : t ≡ w = cc same in
    let behind : take j ts ≡ take j ws = cc same in
    let found = first_place ds ts ws j v rest (cc (good, fails)) behind (omega (arith, lt)) at in
    ap (λ b. if b then option_map (λ place. place + 1) (unfit_from ds ws) else Some 0) (ap (λ x. fits_in d.domain x) (sym here) ∙ good)
    ∙ ap (option_map (λ place. place + 1)) found ∙ ap Some (omega arith)

-- ---- of a procedure that exists or not

abbrev accepts : Option (List Declared) → List Value → Bool
accepts o values = option_map_or (λ ds. fit ds values) o false

abbrev first_in : Option (List Declared) → List Value → Option ℕ
first_in o values = option_map_or (λ ds. unfit ds values) o (Some (length values))

none_fit : (o : Option (List Declared)) (values nulls : List Value) → nulls ≡ replicate (length values) Null → accepts o nulls ≡ false → first_in o values ≡ Some (length values)
none_fit None values nulls is fails = refl
none_fit (Some ds) values nulls is fails =
    let apart : are_as_many ds values ≡ false = sym (nulls_fit ds values) ∙ ap (λ vs. fit ds vs) (sym is) ∙ fails in
    ap (λ b. if b then unfit_from ds values else Some (length values)) apart

place_found : (o : Option (List Declared)) (tried values : List Value) (i : ℕ) (v : Value) → accepts o tried ≡ true → accepts o (set tried i v) ≡ false → take i tried ≡ take i values
    → length tried ≡ length values → i < length values → v ≡ get_or values i v → first_in o values ≡ Some i
place_found None tried values i v fits fails same long lt at = cc
place_found (Some ds) tried values i v fits fails same long lt at =
    ap (λ b. if b then unfit_from ds values else Some (length values)) (as_many ds tried values fits long)
    ∙ first_place ds tried values i v fits fails same lt at

all_tried : (o : Option (List Declared)) (tried values : List Value) (i : ℕ) → i ≡ length values → accepts o tried ≡ true → take i tried ≡ take i values → length tried ≡ length values → accepts o values ≡ true
all_tried o tried values i all fits same long =
    let here : tried ≡ values = sym (take-length tried) ∙ ap (λ n. take n tried) (long ∙ sym all) ∙ same ∙ ap (λ n. take n values) all ∙ take-length values in
    subst (λ vs. accepts o vs ≡ true) here fits

none_found : (o : Option (List Declared)) (values : List Value) → accepts o values ≡ true → first_in o values ≡ None
none_found None values fits = cc
none_found (Some ds) values fits =
    ap (λ b. if b then unfit_from ds values else Some (length values)) (as_many ds values values fits refl) ∙ none_unfit ds values fits

-- ---- of the procedure of a machine

accepts_as : {E : Type 0} (parameters : E → List Declared) (o : Option E) (values : List Value)
    → option_map_or (λ e. fit (parameters e) values) o false ≡ accepts (option_map parameters o) values
accepts_as parameters None values = refl
accepts_as parameters (Some e) values = refl

module _ (m : Machine) (number : ℕ) where
  as_takes : (values : List Value) → takes m.program number values ≡ accepts (parameters_at m.program number) values
  as_takes values = accepts_as (λ e. declared_parameters e.1) (procedure_at m.program number) values

  pub no_nulls : (values nulls : List Value) → nulls ≡ replicate (length values) Null → takes m.program number nulls ≡ false
      → unfit_at m.program number values ≡ Some (length values)
  no_nulls values nulls is fails = none_fit (parameters_at m.program number) values nulls is (sym (as_takes nulls) ∙ fails)

  pub first_unfit : (tried values : List Value) (i : ℕ) (v : Value) → takes m.program number tried ≡ true → takes m.program number (set tried i v) ≡ false
      → take i tried ≡ take i values → length tried ≡ length values → i < length values → v ≡ get_or values i v → unfit_at m.program number values ≡ Some i
  first_unfit tried values i v fits fails same long lt at =
      place_found (parameters_at m.program number) tried values i v (sym (as_takes tried) ∙ fits) (sym (as_takes (set tried i v)) ∙ fails) same long lt at

  pub all_fit : (tried values : List Value) (i : ℕ) → i ≡ length values → takes m.program number tried ≡ true → take i tried ≡ take i values → length tried ≡ length values
      → takes m.program number values ≡ true
  all_fit tried values i all fits same long =
      as_takes values ∙ all_tried (parameters_at m.program number) tried values i all (sym (as_takes tried) ∙ fits) same long

  pub none_unfit_at : (values : List Value) → takes m.program number values ≡ true → unfit_at m.program number values ≡ None
  none_unfit_at values fits = none_found (parameters_at m.program number) values (sym (as_takes values) ∙ fits)
