-- Truths of a list joined by AND or OR, one after another: the first that decides is the outcome.
use Rattle.std.proofs.Common.{◌≡◌, ◌≢◌, ℕ, ◌+◌, ◌<◌, ◌≤◌, List, [], ◌∷◌, length, drop, get_or, refl, sym, ◌∙◌, ap, Ok, Err}
use Rattle.std.proofs.lemmas.List.{drop_more}
use Rattle.std.proofs.Math.ListN.{drop_of_length-le}
use Rattle.sq_value.specs.Truth.{both, either}
use Rattle.sq_value.specs.declared.truth.Truth.{Truth}
use Rattle.sq_value.specs.declared.truth.Truth.TheVariants.{False, Unknown, True}
use Rattle.sq_meaning.specs.Status.{Outcome}
use Rattle.sq_meaning.specs.declared.status.Status.{Status}
use Rattle.sq_meaning.specs.declared.status.Status.TheVariants.{SyntaxErrorOrAccessRuleViolation}
use Rattle.sq_meaning.specs.Query.{and_also, or_else}
use Rattle.sq_expression.specs.Fault.{IsRight, Meets, status_of}
use Rattle.sq_expression.specs.declared.fault.Fault.{Fault}
use Rattle.sq_expression.specs.declared.fault.Fault.TheVariants as fault

-- a connective of outcomes: the truth with which it begins, and the one at which it stops
pub record Connective (join : Outcome Truth → Outcome Truth → Outcome Truth) (joined : Truth → Truth → Truth) (first last : Truth) : Type 0 where
  pub begins : (r : Outcome Truth) → r ≡ join (Ok first) r
  pub regroups : (s t : Truth) (r : Outcome Truth) → join (Ok s) (join (Ok t) r) ≡ join (Ok (joined s t)) r
  pub ends : (s : Truth) → join (Ok s) (Ok first) ≡ Ok s
  pub stops : (r : Outcome Truth) → join (Ok last) r ≡ Ok last
  pub fails : (s : Truth) (status : Status) (r : Outcome Truth) → s ≢ last → join (Ok s) (join (Err status) r) ≡ Err status

and_begins : (r : Outcome Truth) → r ≡ and_also (Ok True) r
and_begins (Err status) = refl
and_begins (Ok False) = refl
and_begins (Ok Unknown) = refl
and_begins (Ok True) = refl

and_regroups : (s t : Truth) (r : Outcome Truth) → and_also (Ok s) (and_also (Ok t) r) ≡ and_also (Ok (both s t)) r
and_regroups False t r = refl
and_regroups Unknown False r = refl
and_regroups True False r = refl
and_regroups Unknown Unknown (Err status) = refl
and_regroups Unknown Unknown (Ok False) = refl
and_regroups Unknown Unknown (Ok Unknown) = refl
and_regroups Unknown Unknown (Ok True) = refl
and_regroups Unknown True (Err status) = refl
and_regroups Unknown True (Ok False) = refl
and_regroups Unknown True (Ok Unknown) = refl
and_regroups Unknown True (Ok True) = refl
and_regroups True Unknown (Err status) = refl
and_regroups True Unknown (Ok False) = refl
and_regroups True Unknown (Ok Unknown) = refl
and_regroups True Unknown (Ok True) = refl
and_regroups True True (Err status) = refl
and_regroups True True (Ok False) = refl
and_regroups True True (Ok Unknown) = refl
and_regroups True True (Ok True) = refl

and_ends : (s : Truth) → and_also (Ok s) (Ok True) ≡ Ok s
and_ends False = refl
and_ends Unknown = refl
and_ends True = refl

and_fails : (s : Truth) (status : Status) (r : Outcome Truth) → s ≢ False → and_also (Ok s) (and_also (Err status) r) ≡ Err status
and_fails False status r goes_on = absurd (goes_on refl)
and_fails Unknown status r goes_on = refl
and_fails True status r goes_on = refl

pub conjunctive : Connective and_also both True False
conjunctive = record { begins = and_begins; regroups = and_regroups; ends = and_ends; stops = λ r. refl; fails = and_fails }

or_begins : (r : Outcome Truth) → r ≡ or_else (Ok False) r
or_begins (Err status) = refl
or_begins (Ok False) = refl
or_begins (Ok Unknown) = refl
or_begins (Ok True) = refl

or_regroups : (s t : Truth) (r : Outcome Truth) → or_else (Ok s) (or_else (Ok t) r) ≡ or_else (Ok (either s t)) r
or_regroups True t r = refl
or_regroups False True r = refl
or_regroups Unknown True r = refl
or_regroups False False (Err status) = refl
or_regroups False False (Ok False) = refl
or_regroups False False (Ok Unknown) = refl
or_regroups False False (Ok True) = refl
or_regroups False Unknown (Err status) = refl
or_regroups False Unknown (Ok False) = refl
or_regroups False Unknown (Ok Unknown) = refl
or_regroups False Unknown (Ok True) = refl
or_regroups Unknown False (Err status) = refl
or_regroups Unknown False (Ok False) = refl
or_regroups Unknown False (Ok Unknown) = refl
or_regroups Unknown False (Ok True) = refl
or_regroups Unknown Unknown (Err status) = refl
or_regroups Unknown Unknown (Ok False) = refl
or_regroups Unknown Unknown (Ok Unknown) = refl
or_regroups Unknown Unknown (Ok True) = refl

or_ends : (s : Truth) → or_else (Ok s) (Ok False) ≡ Ok s
or_ends False = refl
or_ends Unknown = refl
or_ends True = refl

or_fails : (s : Truth) (status : Status) (r : Outcome Truth) → s ≢ True → or_else (Ok s) (or_else (Err status) r) ≡ Err status
or_fails True status r goes_on = absurd (goes_on refl)
or_fails False status r goes_on = refl
or_fails Unknown status r goes_on = refl

pub disjunctive : Connective or_else either False True
disjunctive = record { begins = or_begins; regroups = or_regroups; ends = or_ends; stops = λ r. refl; fails = or_fails }

-- the connective over a list of operands, each of which ends as `test` says
pub record InTurn {X : Type 0} (join : Outcome Truth → Outcome Truth → Outcome Truth) (first : Truth) (test : X → Outcome Truth) (turns : List X → Outcome Truth) : Type 0 where
  pub none : turns [] ≡ Ok first
  pub more : (x : X) (xs : List X) → turns (x ∷ xs) ≡ join (test x) (turns xs)

module _ {X : Type 0} (join : Outcome Truth → Outcome Truth → Outcome Truth) (joined : Truth → Truth → Truth) (first last : Truth) (laws : Connective join joined first last)
    (test : X → Outcome Truth) (turns : List X → Outcome Truth) (goes : InTurn join first test turns) (whole : Outcome Truth) where
  -- the whole is what came out so far, joined with the rest
  first_left : (so_far : Truth) (xs : List X) (i : ℕ) (x : X)
      → i < length xs → x ≡ get_or xs i x → whole ≡ join (Ok so_far) (turns (drop i xs))
      → whole ≡ join (Ok so_far) (join (test x) (turns (drop (i + 1) xs)))
  first_left so_far xs i x within is left =
      left
      ∙ ap (λ (rest : List X). join (Ok so_far) (turns rest)) (drop_more xs i x within ∙ ap (λ (y : X). y ∷ drop (i + 1) xs) (sym is))
      ∙ ap (join (Ok so_far)) (goes.more x (drop (i + 1) xs))

  pub turn_begins : (xs : List X) → whole ≡ turns xs → whole ≡ join (Ok first) (turns xs)
  turn_begins xs is = is ∙ laws.begins (turns xs)

  pub turn_done : (so_far t next : Truth) (xs : List X) (i : ℕ) (x : X)
      → i < length xs → x ≡ get_or xs i x → whole ≡ join (Ok so_far) (turns (drop i xs))
      → test x ≡ Ok t → next ≡ joined so_far t
      → whole ≡ join (Ok next) (turns (drop (i + 1) xs))
  turn_done so_far t next xs i x within is left has nexts =
      first_left so_far xs i x within is left
      ∙ ap (λ (r : Outcome Truth). join (Ok so_far) (join r (turns (drop (i + 1) xs)))) has
      ∙ laws.regroups so_far t (turns (drop (i + 1) xs))
      ∙ ap (λ (s : Truth). join (Ok s) (turns (drop (i + 1) xs))) (sym nexts)

  -- the turn stops at a truth that decides
  pub turn_last : (so_far t next : Truth) (xs : List X) (i : ℕ) (x : X)
      → i < length xs → x ≡ get_or xs i x → whole ≡ join (Ok so_far) (turns (drop i xs))
      → test x ≡ Ok t → next ≡ joined so_far t → next ≡ last
      → whole ≡ Ok last
  turn_last so_far t next xs i x within is left has nexts is_last =
      turn_done so_far t next xs i x within is left has nexts
      ∙ ap (λ (s : Truth). join (Ok s) (turns (drop (i + 1) xs))) is_last
      ∙ laws.stops (turns (drop (i + 1) xs))

  pub turn_failed : (so_far : Truth) (xs : List X) (i : ℕ) (x : X) (e : Fault)
      → so_far ≢ last → i < length xs → x ≡ get_or xs i x → whole ≡ join (Ok so_far) (turns (drop i xs))
      → Meets {A = Truth} (Err e) (test x) → Meets {A = Truth} (Err e) whole
  turn_failed so_far xs i x fault.NoMemory goes_on within is left failed = tt
  turn_failed so_far xs i x (fault.Status s) goes_on within is left failed =
      first_left so_far xs i x within is left
      ∙ ap (λ (r : Outcome Truth). join (Ok so_far) (join r (turns (drop (i + 1) xs)))) failed
      ∙ laws.fails so_far (status_of s) (turns (drop (i + 1) xs)) goes_on

  -- the next operand is right where the whole is
  pub turn_right : (so_far : Truth) (xs : List X) (i : ℕ) (x : X)
      → so_far ≢ last → i < length xs → x ≡ get_or xs i x → whole ≡ join (Ok so_far) (turns (drop i xs))
      → IsRight whole → IsRight (test x)
  turn_right so_far xs i x goes_on within is left right fails = right (
      first_left so_far xs i x within is left
      ∙ ap (λ (r : Outcome Truth). join (Ok so_far) (join r (turns (drop (i + 1) xs)))) fails
      ∙ laws.fails so_far SyntaxErrorOrAccessRuleViolation (turns (drop (i + 1) xs)) goes_on)

  pub turn_ends : (so_far : Truth) (xs : List X) (i : ℕ)
      → length xs ≤ i → whole ≡ join (Ok so_far) (turns (drop i xs)) → whole ≡ Ok so_far
  turn_ends so_far xs i past left =
      left
      ∙ ap (λ (rest : List X). join (Ok so_far) (turns rest)) (drop_of_length-le xs past)
      ∙ ap (join (Ok so_far)) goes.none
      ∙ laws.ends so_far
