-- The tables that a query reads, while they are gathered.
use Rattle.std.proofs.Common.{◌≡◌, ℕ, ◌+◌, ◌<◌, ◌≤◌, List, [], ◌∷◌, ◌++◌, Result, append_assoc, append-nil, drop, get_or, length, sym, ap, subst, ◌∙◌}
use Rattle.std.specs.Prelude.{OnOk}
use Rattle.std.proofs.lemmas.List.{drop_more}
use Rattle.std.proofs.Math.ListN.{drop_of_length-le}
use Rattle.sq_bound.specs.declared.condition.TablePlace.{TablePlace}

abbrev Tables : Type 0
Tables = List TablePlace

-- ---- in a loop

module _ {X : Type 0} (tables : List X → Tables) (of : X → Tables) (more : (x : X) (xs : List X) → tables (x ∷ xs) ≡ of x ++ tables xs) where
  pub gathered_more : (old new whole : Tables) (xs : List X) (i : ℕ) (x : X) → i < length xs → x ≡ get_or xs i x
      → new ≡ old ++ of x → old ++ tables (drop i xs) ≡ whole → new ++ tables (drop (i + 1) xs) ≡ whole
  gathered_more old new whole xs i x within here adds so_far =
      ap (λ (ts : Tables). ts ++ tables (drop (i + 1) xs)) adds
      ∙ append_assoc old (of x) (tables (drop (i + 1) xs))
      ∙ ap (λ (ts : Tables). old ++ ts) (sym (more x (drop (i + 1) xs)))
      ∙ ap (λ (rest : List X). old ++ tables rest) (sym (drop_more xs i x within ∙ ap (λ (p : X). p ∷ drop (i + 1) xs) (sym here)))
      ∙ so_far

  pub gathered_all : (now whole : Tables) (xs : List X) (i : ℕ) → tables [] ≡ [] → length xs ≤ i → now ++ tables (drop i xs) ≡ whole → now ≡ whole
  gathered_all now whole xs i none past so_far =
      sym (append-nil now) ∙ ap (λ (ts : Tables). now ++ ts) (sym (ap tables (drop_of_length-le xs past) ∙ none)) ∙ so_far

-- ---- answers

pub adds_same : {A E : Type 0} (r : Result A E) (old new ts us : Tables) → ts ≡ us → OnOk r (new ≡ old ++ us) → OnOk r (new ≡ old ++ ts)
adds_same r old new ts us e h = subst (λ (xs : Tables). OnOk r (new ≡ old ++ xs)) (sym e) h

-- first some, and then others
pub adds_both : {A E : Type 0} (r : Result A E) (old middle new whole ts us : Tables) → whole ≡ ts ++ us → middle ≡ old ++ ts → OnOk r (new ≡ middle ++ us) → OnOk r (new ≡ old ++ whole)
adds_both r old middle new whole ts us are first h =
    subst (λ (xs : Tables). OnOk r (new ≡ xs)) (ap (λ (xs : Tables). xs ++ us) first ∙ append_assoc old ts us ∙ ap (λ (xs : Tables). old ++ xs) (sym are)) h
