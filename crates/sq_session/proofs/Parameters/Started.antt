-- The value at which a parameter starts.
use Rattle.std.proofs.Common.{◌≡◌, ◌≤◌, drop, Option, Some, None, append_assoc, ◌++◌, ◌+◌, ◌<◌, ℕ, zero, suc, List, [], ◌∷◌, get_or, length, Result, Ok, refl, sym, ap, ap₂, ◌∙◌, subst, arith}
use Rattle.std.specs.Option.{option_map}
use Rattle.std.specs.Prelude.{unwrap_or}
use Rattle.std.specs.Result.{result_ok}
use Rattle.std.proofs.lemmas.List.{drop_more}
use Rattle.sq_bound.specs.declared.names.ParameterDesc.{ParameterDesc}
use Rattle.sq_bound.specs.WellFormed.{kinds_of_parameters}
use Rattle.sq_session.specs.Parameter.{AreGiven, started_values}
use Rattle.sq_value.specs.Domain.{start_value}
use Rattle.sq_value.specs.Number.{Number}
use Rattle.sq_value.specs.Storing.{IsStored, fitted, kept_text, stored}
use Rattle.sq_value.specs.declared.domain.Kind.{Kind}
use Rattle.sq_value.specs.declared.domain.Domain.{Domain}
use Rattle.sq_value.specs.declared.domain.Domain.TheVariants.{Small, Int, Numeric, Char, VarChar}
use Rattle.sq_value.specs.declared.fault.StoreFault.{StoreFault}
use Rattle.sq_value.specs.declared.value.Value.{Value}
use Rattle.sq_value.specs.declared.value.Value.TheVariants.{Null, Num, Chars}
use Rattle.sq_meaning.specs.Assignment.{IsStoreOutcome, assigned}
use Rattle.sq_meaning.proofs.AssignmentLaws.{store_statuses}
use Rattle.sq_meaning.specs.Status.{or_status}
use Rattle.sq_meaning.specs.WellFormed.{IsRowOf}
use Rattle.sq_meaning.specs.declared.status.Status.TheVariants.{NumericValueOutOfRange, TextTooLong}
use Rattle.sq_meaning.proofs.KindLaws.{started_of_its_kind}
use Rattle.sq_meaning.specs.Parameter.{started}

outcome : (d : Domain) (v : Value) (r : Result Value StoreFault) → stored d v ≡ r → IsStoreOutcome r (assigned d v)
outcome d v r h = let P : Result Value StoreFault → Type 0 = λ x. IsStoreOutcome x (assigned d v) in subst P h (store_statuses d v)

pub starts_null : (d : Domain) (v w : Value) → v ≡ Null → w ≡ start_value d → w ≡ started d v
starts_null d v w e h = rw e h

pub starts_stored : (d : Domain) (v w : Value) → IsStored (Ok w) (stored d v) → ¬ (v ≡ Null) → w ≡ started d v
starts_stored d Null w h given = absurd (given refl)
starts_stored d (Num n) w h given = let k : assigned d (Num n) ≡ Ok w = outcome d (Num n) (Ok w) h in rw k refl
starts_stored d (Chars t) w h given = let k : assigned d (Chars t) ≡ Ok w = outcome d (Chars t) (Ok w) h in rw k refl

-- ---- one parameter after the other

-- The parameters so far are started, and the others come behind them.
abbrev pub IsStarted : List ParameterDesc → List Value → ℕ → List Value → Type 0
IsStarted ps vs i ws = ws ++ started_values (drop i ps) (drop i vs) ≡ started_values ps vs

pub started_first : (ps : List ParameterDesc) (vs : List Value) → IsStarted ps vs 0 []
started_first ps vs = refl

append_nil : (xs : List Value) → xs ++ [] ≡ xs
append_nil [] = refl
append_nil (x ∷ xs) = ap (λ ys. x ∷ ys) (append_nil xs)

pub started_next : (ps : List ParameterDesc) (vs : List Value) (i : ℕ) (p : ParameterDesc) (v w : Value) (ws : List Value) → i < length ps → i < length vs → p ≡ get_or ps i p → v ≡ get_or vs i v
    → w ≡ started p.domain v → IsStarted ps vs i ws → IsStarted ps vs (i + 1) (ws ++ w ∷ [])
started_next ps vs i p v w ws lt in_values at_p at_v e so =
    let rest = started_values (drop (i + 1) ps) (drop (i + 1) vs) in
    let one : started_values (drop i ps) (drop i vs) ≡ w ∷ rest =
    ap₂ (λ qs us. started_values qs us) (drop_more ps i p lt) (drop_more vs i v in_values)
    ∙ ap₂ (λ (q : ParameterDesc) u. started q.domain u ∷ rest) (sym at_p) (sym at_v) ∙ ap (λ x. x ∷ rest) (sym e) in
    append_assoc ws (w ∷ []) rest ∙ ap (λ l. ws ++ l) (sym one) ∙ so

past : (ps : List ParameterDesc) (i : ℕ) → length ps ≤ i → drop i ps ≡ []
past [] zero h = refl
past [] (suc i) h = refl
past (x ∷ xs) zero h = absurd (omega (arith, h))
past (x ∷ xs) (suc i) h = past xs i (omega (arith, h))

pub started_all : (ps : List ParameterDesc) (vs : List Value) (i : ℕ) (ws : List Value) → length ps ≤ i → IsStarted ps vs i ws → ws ≡ started_values ps vs
started_all ps vs i ws h so = sym (append_nil ws) ∙ ap (λ l. ws ++ started_values l (drop i vs)) (sym (past ps i h)) ∙ so

-- ---- each is of its kind, and not null

start_not_null : (d : Domain) → ¬ (start_value d ≡ Null)
start_not_null Small e = cc
start_not_null Int e = cc
start_not_null (Numeric p s) e = cc
start_not_null (Char l) e = cc
start_not_null (VarChar l) e = cc

number_not_null : (d : Domain) (o : Option Number) → ¬ (unwrap_or (result_ok (or_status NumericValueOutOfRange (option_map Num o))) (start_value d) ≡ Null)
number_not_null d (Some n) e = cc
number_not_null d None e = start_not_null d e

text_not_null : (d : Domain) (o : Option (List ℕ)) → ¬ (unwrap_or (result_ok (or_status TextTooLong (option_map Chars o))) (start_value d) ≡ Null)
text_not_null d (Some t) e = cc
text_not_null d None e = start_not_null d e

started_not_null : (d : Domain) (v : Value) → ¬ (started d v ≡ Null)
started_not_null d Null e = start_not_null d e
started_not_null d (Num n) e = number_not_null d (fitted d n) e
started_not_null d (Chars t) e = text_not_null d (kept_text d t) e

given_started : (ps : List ParameterDesc) (vs : List Value) → length ps ≡ length vs → AreGiven (kinds_of_parameters ps) (started_values ps vs)
given_started [] vs even = tt
given_started (p ∷ ps) [] even = absurd (omega (arith, even))
given_started (p ∷ ps) (v ∷ vs) even = ((started_of_its_kind p.domain v, started_not_null p.domain v), given_started ps vs (omega (arith, even)))

pub given_all : (ps : List ParameterDesc) (vs : List Value) (i : ℕ) (ws : List Value) → length ps ≡ length vs → length ps ≤ i → IsStarted ps vs i ws → AreGiven (kinds_of_parameters ps) ws
given_all ps vs i ws even h so = subst (λ (l : List Value). AreGiven (kinds_of_parameters ps) l) (sym (started_all ps vs i ws h so)) (given_started ps vs even)

-- The values, as a query reads them, are of the kinds of the parameters.
pub given_row : (kinds : List Kind) (values : List Value) → AreGiven kinds values → IsRowOf kinds values
given_row [] [] h = tt
given_row [] (v ∷ values) h = absurd h
given_row (k ∷ kinds) [] h = absurd h
given_row (k ∷ kinds) (v ∷ values) h = (h.0.0, given_row kinds values h.1)
