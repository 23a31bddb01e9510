-- Values that parameters can store.
use Rattle.std.proofs.Common.{rules, ◌≡◌, ◌+◌, ◌<◌, ◌≤◌, ◌&&◌, ◌∙◌, ℕ, zero, suc, Bool, true, false, List, [], ◌∷◌, drop, get_or, length, map, take, Some, None, Result, Err, refl, sym, ap, ap₂, true≢false, arith}
use Rattle.std.proofs.lemmas.List.{drop_more}
use Rattle.std.specs.Prelude.{is_ok, if◌then◌else◌}
use Rattle.std.proofs.lemmas.Bool.{and_parts}
use Rattle.sq_value.specs.Domain.{FitsKind}
use Rattle.sq_value.specs.Memory.{takes_memory}
use Rattle.sq_value.specs.Storing.{stored, text_or_too_long}
use Rattle.sq_value.specs.Text.{of_length, only_blanks_past}
use Rattle.sq_value.specs.declared.domain.Domain.{Domain}
use Rattle.sq_value.specs.declared.domain.Domain.TheVariants.{Small, Int, Numeric, Char, VarChar}
use Rattle.sq_value.specs.declared.fault.StoreFault.{StoreFault}
use Rattle.sq_value.specs.declared.value.Value.{Value}
use Rattle.sq_value.specs.declared.value.Value.TheVariants.{Null, Num, Chars}
use Rattle.sq_bound.specs.declared.names.ParameterDesc.{ParameterDesc}
use Rattle.sq_meaning.specs.Script.{fit, fits_in}
use Rattle.sq_session.specs.Parameter.{declared}

kept : (b : Bool) (t : List ℕ) → b ≡ is_ok (text_or_too_long (if b then Some t else None))
kept true t = refl
kept false t = refl

-- a text of which only blanks are lost
pub text_kept : (n : ℕ) (t : List ℕ) → only_blanks_past n t ≡ fits_in (Char n) (Chars t)
text_kept n t = kept (only_blanks_past n t) (of_length n t)

pub text_cut : (n : ℕ) (t : List ℕ) → only_blanks_past n t ≡ fits_in (VarChar n) (Chars t)
text_cut n t = kept (only_blanks_past n t) (take n t)

-- a number that is stored
pub number_stored : (d : Domain) (v : Value) (answer : Result Value StoreFault) → answer ≡ stored d v → is_ok answer ≡ fits_in d v
number_stored d v answer h = ap is_ok h

-- a number goes into no domain of texts
pub number_unfit : (d : Domain) (v : Value) → takes_memory v ≡ false → ¬ FitsKind d v → false ≡ fits_in d v
number_unfit d Null small unfit = absurd (unfit tt)
number_unfit Small (Num n) small unfit = absurd (unfit (search rules))
number_unfit Int (Num n) small unfit = absurd (unfit (search rules))
number_unfit (Numeric p s) (Num n) small unfit = absurd (unfit (search rules))
number_unfit (Char k) (Num n) small unfit = refl
number_unfit (VarChar k) (Num n) small unfit = refl
number_unfit d (Chars t) small unfit = cc

-- ---- a value that fits

-- A value that fits a domain is null, a number where the domain is of numbers, or a text where it is of texts.
pub kind_fits : (d : Domain) (v : Value) → fits_in d v ≡ true → FitsKind d v
kind_fits d Null h = tt
kind_fits Small (Num n) h = search rules
kind_fits Int (Num n) h = search rules
kind_fits (Numeric p s) (Num n) h = search rules
kind_fits (Char k) (Num n) h = cc
kind_fits (VarChar k) (Num n) h = cc
kind_fits Small (Chars t) h = cc
kind_fits Int (Chars t) h = cc
kind_fits (Numeric p s) (Chars t) h = cc
kind_fits (Char k) (Chars t) h = search rules
kind_fits (VarChar k) (Chars t) h = search rules

-- A value that fits a domain is stored without a fault.
pub is_stored : (d : Domain) (v : Value) (fault : StoreFault) → fits_in d v ≡ true → ¬ (stored d v ≡ Err fault)
is_stored d v fault h e = true≢false (sym h ∙ ap is_ok e)

-- ---- one parameter after the other

-- The values of the parameters before this one fit.
abbrev pub FitSoFar : List ParameterDesc → List Value → ℕ → Type 0
FitSoFar ps vs i = fit (map declared (drop i ps)) (drop i vs) ≡ fit (map declared ps) vs

pub fit_first : (ps : List ParameterDesc) (vs : List Value) → FitSoFar ps vs 0
fit_first ps vs = refl

fit_here : (ps : List ParameterDesc) (vs : List Value) (i : ℕ) (p : ParameterDesc) (v : Value) → i < length ps → i < length vs → p ≡ get_or ps i p → v ≡ get_or vs i v
    → fit (map declared (drop i ps)) (drop i vs) ≡ (fits_in p.domain v && fit (map declared (drop (i + 1) ps)) (drop (i + 1) vs))
fit_here ps vs i p v lt in_values at_p at_v =
    let rest = fit (map declared (drop (i + 1) ps)) (drop (i + 1) vs) in
    ap₂ (λ qs ws. fit (map declared qs) ws) (drop_more ps i p lt) (drop_more vs i v in_values)
    ∙ ap₂ (λ (q : ParameterDesc) w. fits_in q.domain w && rest) (sym at_p) (sym at_v)

-- One value that does not fit: not all fit.
pub fit_stops : (ps : List ParameterDesc) (vs : List Value) (i : ℕ) (p : ParameterDesc) (v : Value) (b : Bool) → i < length ps → i < length vs → p ≡ get_or ps i p → v ≡ get_or vs i v
    → b ≡ fits_in p.domain v → b ≡ false → FitSoFar ps vs i → false ≡ fit (map declared ps) vs
fit_stops ps vs i p v b lt in_values at_p at_v fits none so =
    let rest = fit (map declared (drop (i + 1) ps)) (drop (i + 1) vs) in
    sym (sym so ∙ fit_here ps vs i p v lt in_values at_p at_v ∙ ap (λ c. c && rest) (sym fits ∙ none))

-- One more value fits.
pub fit_next : (ps : List ParameterDesc) (vs : List Value) (i : ℕ) (p : ParameterDesc) (v : Value) (b : Bool) → i < length ps → i < length vs → p ≡ get_or ps i p → v ≡ get_or vs i v
    → b ≡ fits_in p.domain v → b ≡ true → FitSoFar ps vs i → FitSoFar ps vs (i + 1)
fit_next ps vs i p v b lt in_values at_p at_v fits passes so =
    let rest = fit (map declared (drop (i + 1) ps)) (drop (i + 1) vs) in
    sym (fit_here ps vs i p v lt in_values at_p at_v ∙ ap (λ c. c && rest) (sym fits ∙ passes)) ∙ so

past : {A : Type 0} (xs : List A) (i : ℕ) → length xs ≤ i → drop i xs ≡ []
past [] zero h = refl
past [] (suc i) h = refl
past (x ∷ xs) zero h = absurd (omega (arith, h))
past (x ∷ xs) (suc i) h = past xs i (omega (arith, h))

-- All values fit.
pub fit_all : (ps : List ParameterDesc) (vs : List Value) (i : ℕ) → length ps ≤ i → length ps ≡ length vs → FitSoFar ps vs i → true ≡ fit (map declared ps) vs
fit_all ps vs i le even so =
    let none : length vs ≤ i = omega (arith, le, even) in
    sym (ap₂ (λ qs ws. fit (map declared qs) ws) (past ps i le) (past vs i none)) ∙ so

-- There are more or fewer values than parameters.
pub fit_uneven : (ps : List ParameterDesc) (vs : List Value) → ¬ (length ps ≡ length vs) → false ≡ fit (map declared ps) vs
fit_uneven [] [] h = absurd (h refl)
fit_uneven [] (v ∷ vs) h = refl
fit_uneven (p ∷ ps) [] h = refl
fit_uneven (p ∷ ps) (v ∷ vs) h = by (fits_in p.domain v) (fit_uneven ps vs (λ e. h (ap suc e)))
  where
    by : (b : Bool) → false ≡ fit (map declared ps) vs → false ≡ (b && fit (map declared ps) vs)
    by true rest = rest
    by false rest = refl

-- ---- values that fit

pub fit_even : (ps : List ParameterDesc) (vs : List Value) → fit (map declared ps) vs ≡ true → length ps ≡ length vs
fit_even [] [] h = refl
fit_even [] (v ∷ vs) h = cc
fit_even (p ∷ ps) [] h = cc
fit_even (p ∷ ps) (v ∷ vs) h = ap suc (fit_even ps vs (and_parts (fits_in p.domain v) (fit (map declared ps) vs) h).1)

-- each fits the parameter at its place
pub fit_at : (ps : List ParameterDesc) (vs : List Value) (i : ℕ) (p : ParameterDesc) (v : Value) → fit (map declared ps) vs ≡ true → i < length ps → i < length vs
    → p ≡ get_or ps i p → v ≡ get_or vs i v → fits_in p.domain v ≡ true
fit_at [] vs i p v h lt in_values at_p at_v = absurd (omega (arith, lt))
fit_at (q ∷ ps) [] i p v h lt in_values at_p at_v = absurd (omega (arith, in_values))
fit_at (q ∷ ps) (u ∷ vs) zero p v h lt in_values at_p at_v =
    ap₂ (λ (r : ParameterDesc) w. fits_in r.domain w) at_p at_v ∙ (and_parts (fits_in q.domain u) (fit (map declared ps) vs) h).0
fit_at (q ∷ ps) (u ∷ vs) (suc i) p v h lt in_values at_p at_v =
    fit_at ps vs i p v (and_parts (fits_in q.domain u) (fit (map declared ps) vs) h).1 (omega (arith, lt)) (omega (arith, in_values)) at_p at_v
