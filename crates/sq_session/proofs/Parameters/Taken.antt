-- The values of a row fit the targets that take their kinds.
use Rattle.std.proofs.Common.{◌≡◌, ◌<◌, ℕ, zero, suc, true, false, List, [], ◌∷◌, length, get_or, slice_get, Option, Some, None, Ok, Err, refl, sym, ◌∙◌, subst, arith, eq-eqb, nat_eq}
use Rattle.std.proofs.lemmas.Slice.Zip.{AllZip-long}
use Rattle.std.specs.Prelude.{⊤, IsTrue}
use Rattle.sq_value.specs.Domain.{FitsKind, IsOfKind, is_of_numbers, kind_of}
use Rattle.sq_value.specs.declared.domain.Domain.{Domain}
use Rattle.sq_value.specs.declared.domain.Domain.TheVariants as domain
use Rattle.sq_value.specs.declared.domain.Kind.{Kind}
use Rattle.sq_value.specs.declared.domain.Kind.TheVariants as kind
use Rattle.sq_value.specs.declared.retrieving.Retrieved.{Retrieved}
use Rattle.sq_value.specs.declared.value.Value.{Value}
use Rattle.sq_value.specs.declared.value.Value.TheVariants as value
use Rattle.sq_meaning.specs.Assignment.{retrieved_into}
use Rattle.sq_meaning.specs.Status.{Outcome, and_then, or_status, well_formed, well_formed_if}
use Rattle.sq_meaning.specs.WellFormed.{Answers, AreRowsOf, Has, IsNoSyntaxError, IsRowOf, is_comparable}
use Rattle.sq_meaning.specs.declared.status.Status.{Status}
use Rattle.sq_meaning.specs.declared.status.Status.TheVariants as status
use Rattle.sq_meaning.proofs.AnswerLaws.{then_answers}
use Rattle.sq_expression.specs.Fault.{status_of}
use Rattle.sq_expression.specs.declared.fault.Failure.{Failure}
use Rattle.sq_bound.specs.WellFormed.{TakeKinds, TakesKind, kinds_of_parameters}
use Rattle.sq_bound.specs.declared.names.ParameterDesc.{ParameterDesc}
use Rattle.sq_bound.specs.declared.statement.Output.{Output as Target}
use Rattle.sq_session.specs.Step.{EndsRight}
use Rattle.sq_session.specs.Target.{MayTake, MayTakeRows, domain_at, each_set, ended, fits, is_refused, null_set, row_reply, row_set, set_behind, set_in, target_set, target_set_in, value_set}
use Rattle.sq_session.specs.declared.reply.Done.{Done}
use Rattle.sq_session.specs.declared.target.Assignments.{Assignments}

-- ---- one value

-- a domain whose kind is comparable with a kind of numbers is of numbers, and with one of texts of texts
takes_number : (d : Domain) (s : ℕ) → IsTrue (is_comparable (kind_of d) (kind.Num s)) → is_of_numbers d ≡ true
takes_number domain.Small s h = refl
takes_number domain.Int s h = refl
takes_number (domain.Numeric p t) s h = refl
takes_number (domain.Char n) s h = h
takes_number (domain.VarChar n) s h = h

takes_text : (d : Domain) (n : ℕ) → IsTrue (is_comparable (kind_of d) (kind.Chars n)) → is_of_numbers d ≡ false
takes_text domain.Small n h = sym h
takes_text domain.Int n h = sym h
takes_text (domain.Numeric p t) n h = sym h
takes_text (domain.Char m) n h = refl
takes_text (domain.VarChar m) n h = refl

takes_varying : (d : Domain) (n : ℕ) → IsTrue (is_comparable (kind_of d) (kind.Vary n)) → is_of_numbers d ≡ false
takes_varying domain.Small n h = sym h
takes_varying domain.Int n h = sym h
takes_varying (domain.Numeric p t) n h = sym h
takes_varying (domain.Char m) n h = refl
takes_varying (domain.VarChar m) n h = refl

-- A value of a kind that is comparable with a domain's kind fits the domain.
fits_of_kind : (d : Domain) (k : Kind) (v : Value) → IsTrue (is_comparable (kind_of d) k) → IsOfKind k v → FitsKind d v
fits_of_kind d k value.Null h is = tt
fits_of_kind d (kind.Num s) (value.Num n) h is = takes_number d s h
fits_of_kind d (kind.Chars m) (value.Num n) h is = absurd is
fits_of_kind d (kind.Vary m) (value.Num n) h is = absurd is
fits_of_kind d (kind.Num s) (value.Chars t) h is = absurd is
fits_of_kind d (kind.Chars m) (value.Chars t) h is = takes_text d m h
fits_of_kind d (kind.Vary m) (value.Chars t) h is = takes_varying d m h

-- ---- one target

at_domain : (ps : List ParameterDesc) (n : ℕ) (k : Kind) → Has (λ p. IsTrue (is_comparable p k)) (well_formed (slice_get (kinds_of_parameters ps) n)) → IsTrue (is_comparable (kind_of (domain_at ps n)) k)
at_domain [] n k h = absurd h
at_domain (p ∷ ps) zero k h = h
at_domain (p ∷ ps) (suc n) k h = at_domain ps n k h

target_fits : (ps : List ParameterDesc) (t : Target) (k : Kind) (v : Value) → TakesKind (kinds_of_parameters ps) t k → IsOfKind k v → FitsKind (domain_at ps t.parameter) v
target_fits ps t k v takes is = fits_of_kind (domain_at ps t.parameter) k v (at_domain ps t.parameter k takes.0) is

-- A value sets a target, or ends with a status of retrieving.
indicator_answers : (t : Target) (o : Option ℕ) → Answers (λ indicator. ⊤) (or_status status.NullWithoutIndicator o)
indicator_answers t None = tt
indicator_answers t (Some i) = tt

null_answers : (t : Target) → Answers (λ a. ⊤) (null_set t)
null_answers t = then_answers (λ indicator. ⊤) (λ a. ⊤) (or_status status.NullWithoutIndicator t.indicator) _ (indicator_answers t t.indicator) (λ indicator h. tt)

number_answers : (o : Option Retrieved) → Answers (λ r. ⊤) (or_status status.NumericValueOutOfRange o)
number_answers None = tt
number_answers (Some r) = tt

retrieved_answers : (d : Domain) (v : Value) → Answers (λ r. ⊤) (retrieved_into d v)
retrieved_answers d value.Null = tt
retrieved_answers d (value.Num n) = number_answers _
retrieved_answers d (value.Chars t) = tt

pub fits_known : (d : Domain) (v : Value) → FitsKind d v → fits d v ≡ true
fits_known d value.Null h = refl
fits_known d (value.Num n) h = h
fits_known d (value.Chars t) h = rw h refl

set_answers : (d : Domain) (t : Target) (v : Value) → FitsKind d v → Answers (λ a. ⊤) (set_in d t v)
set_answers d t v h =
    subst (λ b. Answers (λ a. ⊤) (and_then (well_formed_if b) (λ fitting. and_then (retrieved_into d v) (λ r. Ok (value_set t r))))) (sym (fits_known d v h))
    (then_answers (λ r. ⊤) (λ a. ⊤) (retrieved_into d v) (λ r. Ok (value_set t r)) (retrieved_answers d v) (λ r k. tt))

target_answers : (d : Domain) (t : Target) (v : Value) → FitsKind d v → Answers (λ a. ⊤) (target_set_in d t v)
target_answers d t value.Null h = null_answers t
target_answers d t (value.Num n) h = set_answers d t (value.Num n) h
target_answers d t (value.Chars c) h = set_answers d t (value.Chars c) h

-- ---- a row

each_fits : (ps : List ParameterDesc) (ts : List Target) (ks : List Kind) (row : List Value) (i : ℕ) (t : Target) (v : Value)
    → TakeKinds (kinds_of_parameters ps) ts ks → IsRowOf ks row → i < length ts → FitsKind (domain_at ps (get_or ts i t).parameter) (get_or row i v)
each_fits ps [] ks row i t v takes are lt = absurd (omega (arith, lt))
each_fits ps (x ∷ ts) [] row i t v takes are lt = absurd takes
each_fits ps (x ∷ ts) (k ∷ ks) [] i t v takes are lt = absurd are
each_fits ps (x ∷ ts) (k ∷ ks) (w ∷ row) zero t v takes are lt = target_fits ps x k w takes.0 are.0
each_fits ps (x ∷ ts) (k ∷ ks) (w ∷ row) (suc i) t v takes are lt = each_fits ps ts ks row i t v takes.1 are.1 (omega (arith, lt))

-- each value fits its target
taken_fits : (ps : List ParameterDesc) (ts : List Target) (row : List Value) (i : ℕ) (t : Target) (v : Value) → MayTake ps ts row → i < length ts
    → FitsKind (domain_at ps (get_or ts i t).parameter) (get_or row i v)
taken_fits ps ts row i t v may lt = each_fits ps ts may.kinds row i t v may.taken may.of_kinds lt

pub taken_here : (qs ps : List ParameterDesc) (ts : List Target) (row : List Value) (i : ℕ) (t : Target) (v : Value) → qs ≡ ps → MayTake ps ts row → i < length ts → v ≡ get_or row i v
    → FitsKind (domain_at qs (get_or ts i t).parameter) v
taken_here qs ps ts row i t v same may lt at =
    let fits = taken_fits ps ts row i t v may lt in
    subst (λ (rs : List ParameterDesc). FitsKind (domain_at rs (get_or ts i t).parameter) v) (sym same) (subst (λ (w : Value). FitsKind (domain_at ps (get_or ts i t).parameter) w) (sym at) fits)

-- there are as many values as targets
pub taken_long : (ps : List ParameterDesc) (ts : List Target) (row : List Value) → MayTake ps ts row → length ts ≡ length row
taken_long ps ts row may =
    let kinds : length may.kinds ≡ length ts = AllZip-long (TakesKind (kinds_of_parameters ps)) ts may.kinds may.taken in
    let values : length row ≡ length may.kinds = AllZip-long IsOfKind may.kinds row may.of_kinds in
    sym (values ∙ kinds)

each_answers : (ps : List ParameterDesc) (ts : List Target) (ks : List Kind) (row : List Value) → TakeKinds (kinds_of_parameters ps) ts ks → IsRowOf ks row → Answers (λ a. ⊤) (each_set ps ts row)
each_answers ps [] ks row takes are = tt
each_answers ps (x ∷ ts) [] row takes are = absurd takes
each_answers ps (x ∷ ts) (k ∷ ks) [] takes are = absurd are
each_answers ps (x ∷ ts) (k ∷ ks) (w ∷ row) takes are =
    let others = each_set ps ts row in
    then_answers (λ a. ⊤) (λ a. ⊤) (target_set ps x w) (λ a. set_behind a others) (target_answers (domain_at ps x.parameter) x w (target_fits ps x k w takes.0 are.0))
    (λ a h. then_answers (λ b. ⊤) (λ b. ⊤) others _ (each_answers ps ts ks row takes.1 are.1) (λ b g. tt))

row_answers : (ps : List ParameterDesc) (ts : List Target) (row : List Value) → MayTake ps ts row → Answers (λ a. ⊤) (row_set ps ts row)
row_answers ps ts row may =
    let long : nat_eq (length ts) (length row) ≡ true = eq-eqb (length ts) (length row) (taken_long ps ts row may) in
    subst (λ b. Answers (λ a. ⊤) (and_then (well_formed_if b) (λ as_many. each_set ps ts row))) (sym long) (each_answers ps ts may.kinds row may.taken may.of_kinds)

-- a status of retrieving sets no target
no_refusal : (st : Status) → IsNoSyntaxError st → is_refused st ≡ false
no_refusal status.SuccessfulCompletion h = refl
no_refusal status.TextTruncated h = refl
no_refusal status.NoData h = refl
no_refusal status.CardinalityViolation h = refl
no_refusal status.TextTooLong h = refl
no_refusal status.NullWithoutIndicator h = refl
no_refusal status.NumericValueOutOfRange h = refl
no_refusal status.DivisionByZero h = refl
no_refusal status.InvalidEscapeCharacter h = refl
no_refusal status.InvalidEscapeSequence h = refl
no_refusal status.IntegrityConstraintViolation h = refl
no_refusal status.InvalidCursorState h = refl
no_refusal status.SyntaxErrorOrAccessRuleViolation h = absurd h
no_refusal status.CheckOptionViolation h = refl
no_refusal status.NoRowNumberLeft h = refl

pub status_replied : (ps : List ParameterDesc) (ts : List Target) (row : List Value) (f : Failure) (st : Status) (d : Done) → MayTake ps ts row → row_set ps ts row ≡ Err (status_of f) → st ≡ status_of f
    → d ≡ ended st → row_reply ps ts row ≡ Ok d
status_replied ps ts row f st d may set same done =
    let known : is_refused (status_of f) ≡ false = no_refusal (status_of f) (subst (λ (o : Outcome Assignments). Answers (λ a. ⊤) o) set (row_answers ps ts row may)) in
    rw (set, known, done, same) refl

-- Retrieving does not end with 42000.
pub status_allowed : (ps : List ParameterDesc) (ts : List Target) (row : List Value) (f : Failure) (st : Status) (d : Done) → MayTake ps ts row → row_set ps ts row ≡ Err (status_of f) → st ≡ status_of f
    → d ≡ ended st → EndsRight d
status_allowed ps ts row f st d may set same done =
    let known : IsNoSyntaxError (status_of f) = subst (λ (o : Outcome Assignments). Answers (λ a. ⊤) o) set (row_answers ps ts row may) in
    rw (done, same) known

-- ---- the rows of a query

pub rows_taken : (ps : List ParameterDesc) (ts : List Target) (ks : List Kind) (rows : List (List Value)) → TakeKinds (kinds_of_parameters ps) ts ks → AreRowsOf ks rows → MayTakeRows ps ts rows
rows_taken ps ts ks [] takes are = tt
rows_taken ps ts ks (row ∷ rows) takes are = (record { kinds = ks; taken = takes; of_kinds = are.0 }, rows_taken ps ts ks rows takes are.1)
