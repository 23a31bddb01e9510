-- Targets that are set one after the other.
use Rattle.std.proofs.Common.{◌&&◌, nat_lt, true, ◌≡◌, ◌++◌, ◌||◌, ◌+◌, ◌<◌, ◌≤◌, ℕ, zero, suc, Bool, false, List, [], ◌∷◌, length, drop, get_or, slice_get, nat_eq, eq-eqb, Some, Ok, Err, refl, ap, sym, ◌∙◌, append_assoc, arith}
use Rattle.std.proofs.lemmas.List.{drop_more}
use Rattle.std.proofs.lemmas.Bool.{and_parts, ltb-true}
use Rattle.std.proofs.lemmas.Option.{slice_get-get_or}
use Rattle.std.specs.Option.{option_map_or}
use Rattle.sq_value.specs.declared.domain.Domain.TheVariants as domain
use Rattle.sq_value.specs.declared.value.Value.{Value}
use Rattle.sq_meaning.specs.Status.{Outcome, and_then, well_formed_if}
use Rattle.sq_meaning.specs.declared.status.Status.{Status}
use Rattle.sq_expression.specs.Fault.{Meets, status_of}
use Rattle.sq_expression.specs.declared.fault.Fault.{Fault}
use Rattle.sq_expression.specs.declared.fault.Fault.TheVariants as fault
use Rattle.sq_bound.specs.Fits.{are_parameters}
use Rattle.sq_bound.specs.Names.{option_all}
use Rattle.sq_bound.specs.declared.names.ParameterDesc.{ParameterDesc}
use Rattle.sq_bound.specs.declared.statement.Output.{Output as Target}
use Rattle.sq_session.specs.Target.{IsSet, domain_at, each_set, joined, none_set, row_set, set_behind, target_set}
use Rattle.sq_session.specs.declared.target.Assignment.{Assignment}
use Rattle.sq_session.specs.declared.target.Assignments.{Assignments}

-- ---- the parameter of a target

pub target_there : (n : ℕ) (ts : List Target) (i : ℕ) (t : Target) → are_parameters n ts ≡ true → i < length ts → (get_or ts i t).parameter < n
target_there n [] i t h lt = absurd (omega (arith, lt))
target_there n (x ∷ ts) zero t h lt =
    let k = and_parts (nat_lt x.parameter n && option_all (λ p. nat_lt p n) x.indicator) (are_parameters n ts) h in
    ltb-true x.parameter n (and_parts (nat_lt x.parameter n) (option_all (λ p. nat_lt p n) x.indicator) k.0).0
target_there n (x ∷ ts) (suc i) t h lt =
    let k = and_parts (nat_lt x.parameter n && option_all (λ p. nat_lt p n) x.indicator) (are_parameters n ts) h in
    target_there n ts i t k.1 (omega (arith, lt))

pub domain_is : (ps : List ParameterDesc) (n : ℕ) (p : ParameterDesc) → n < length ps → p ≡ get_or ps n p → domain_at ps n ≡ p.domain
domain_is ps n p lt at = ap (λ o. option_map_or (λ (q : ParameterDesc). q.domain) o domain.Int) (slice_get-get_or ps n p lt ∙ ap Some (sym at))

-- ---- the value at a place

pub value_at : (vs : List Value) (i : ℕ) (v : Value) → slice_get vs i ≡ Some v → v ≡ get_or vs i v
value_at [] i v e = cc
value_at (x ∷ vs) zero v e = let same : x ≡ v = cc in sym same
value_at (x ∷ vs) (suc i) v e = value_at vs i v e

-- ---- one after the other

or_assoc : (a b c : Bool) → (a || b) || c ≡ a || (b || c)
or_assoc true b c = refl
or_assoc false b c = refl

append_nil : (xs : List Assignment) → xs ++ [] ≡ xs
append_nil [] = refl
append_nil (x ∷ xs) = ap (λ ys. x ∷ ys) (append_nil xs)

joined_assoc : (a b c : Assignments) → joined (joined a b) c ≡ joined a (joined b c)
joined_assoc a b c = rw (append_assoc a.list b.list c.list, ← or_assoc c.is_cut b.is_cut a.is_cut) refl

joined_none : (a : Assignments) → joined a none_set ≡ a
joined_none a = rw (append_nil a.list) refl

-- what is set behind a target is behind those before it
behind_next : (a : Assignments) (o : Outcome Assignments) (others : Outcome Assignments) → set_behind a (and_then o (λ b. set_behind b others)) ≡ and_then (set_behind a o) (λ b. set_behind b others)
behind_next a (Err s) others = refl
behind_next a (Ok b) (Err s) = refl
behind_next a (Ok b) (Ok c) = ap Ok (sym (joined_assoc a b c))

each_next : (ps : List ParameterDesc) (ts : List Target) (vs : List Value) (i : ℕ) (t : Target) (v : Value) → i < length ts → i < length vs
    → each_set ps (drop i ts) (drop i vs) ≡ and_then (target_set ps (get_or ts i t) (get_or vs i v)) (λ a. set_behind a (each_set ps (drop (i + 1) ts) (drop (i + 1) vs)))
each_next ps ts vs i t v lt lv = rw (drop_more ts i t lt, drop_more vs i v lv) refl

-- the targets from one on, behind those that are set
abbrev pub IsSoFar : List ParameterDesc → List Target → List Value → ℕ → Assignments → Type 0
IsSoFar ps ts vs i a = each_set ps ts vs ≡ set_behind a (each_set ps (drop i ts) (drop i vs))

pub so_far_none : (ps : List ParameterDesc) (ts : List Target) (vs : List Value) → IsSoFar ps ts vs 0 none_set
so_far_none ps ts vs = id_behind (each_set ps ts vs)
  where
    id_behind : (o : Outcome Assignments) → o ≡ set_behind none_set o
    id_behind (Err s) = refl
    id_behind (Ok b) = ap Ok (or_no b.is_cut b.list)
      where
        or_no : (c : Bool) (l : List Assignment) → record { list = l; is_cut = c } ≡ joined none_set (record { list = l; is_cut = c })
        or_no true l = refl
        or_no false l = refl

pub so_far_next : (ps : List ParameterDesc) (ts : List Target) (vs : List Value) (i : ℕ) (t : Target) (v : Value) (a b : Assignments) → i < length ts → i < length vs
    → set_behind a (target_set ps (get_or ts i t) (get_or vs i v)) ≡ Ok b → IsSoFar ps ts vs i a → IsSoFar ps ts vs (i + 1) b
so_far_next ps ts vs i t v a b lt lv set e =
    let o = target_set ps (get_or ts i t) (get_or vs i v) in
    let others = each_set ps (drop (i + 1) ts) (drop (i + 1) vs) in
    e ∙ ap (set_behind a) (each_next ps ts vs i t v lt lv) ∙ behind_next a o others ∙ ap (λ x. and_then x (λ c. set_behind c others)) set

pub so_far_stop : (ps : List ParameterDesc) (ts : List Target) (vs : List Value) (i : ℕ) (t : Target) (v : Value) (a : Assignments) (s : Status) → i < length ts → i < length vs
    → set_behind a (target_set ps (get_or ts i t) (get_or vs i v)) ≡ Err s → IsSoFar ps ts vs i a → each_set ps ts vs ≡ Err s
so_far_stop ps ts vs i t v a s lt lv set e =
    let o = target_set ps (get_or ts i t) (get_or vs i v) in
    let others = each_set ps (drop (i + 1) ts) (drop (i + 1) vs) in
    e ∙ ap (set_behind a) (each_next ps ts vs i t v lt lv) ∙ behind_next a o others ∙ ap (λ x. and_then x (λ c. set_behind c others)) set

pub so_far_all : (ps : List ParameterDesc) (ts : List Target) (vs : List Value) (i : ℕ) (a : Assignments) → length ts ≤ i → IsSoFar ps ts vs i a → each_set ps ts vs ≡ Ok a
so_far_all ps ts vs i a le e = e ∙ ap (λ l. set_behind a (each_set ps l (drop i vs))) (dropped ts i le) ∙ ap Ok (joined_none a)
  where
    dropped : (l : List Target) (n : ℕ) → length l ≤ n → drop n l ≡ []
    dropped [] zero h = refl
    dropped [] (suc n) h = refl
    dropped (x ∷ xs) zero h = absurd (omega (arith, h))
    dropped (x ∷ xs) (suc n) h = dropped xs n (omega (arith, h))

row_is : (ps : List ParameterDesc) (ts : List Target) (vs : List Value) → length ts ≡ length vs → row_set ps ts vs ≡ each_set ps ts vs
row_is ps ts vs h = let e : nat_eq (length ts) (length vs) ≡ true = eq-eqb (length ts) (length vs) h in ap (λ b. and_then (well_formed_if b) (λ u. each_set ps ts vs)) e

pub set_stops : (qs ps : List ParameterDesc) (ts : List Target) (vs : List Value) (i : ℕ) (t : Target) (v : Value) (a now : Assignments) (e : Fault) → qs ≡ ps → length ts ≡ length vs → i < length ts
    → v ≡ get_or vs i v → IsSet (Err e) (set_behind a (target_set qs (get_or ts i t) v)) now → IsSoFar qs ts vs i a → Meets {A = Assignments} (Err e) (row_set ps ts vs)
set_stops qs ps ts vs i t v a now (fault.Status f) same h lt at set so =
    ap (λ xs. row_set xs ts vs) (sym same) ∙ row_is qs ts vs h
    ∙ so_far_stop qs ts vs i t v a (status_of f) lt (omega (arith, h, lt)) (ap (λ x. set_behind a (target_set qs (get_or ts i t) x)) (sym at) ∙ set) so
set_stops qs ps ts vs i t v a now fault.NoMemory same h lt at set so = tt

pub set_more : (qs : List ParameterDesc) (ts : List Target) (vs : List Value) (i : ℕ) (t : Target) (v : Value) (a b : Assignments) → length ts ≡ length vs → i < length ts
    → v ≡ get_or vs i v → set_behind a (target_set qs (get_or ts i t) v) ≡ Ok b → IsSoFar qs ts vs i a → IsSoFar qs ts vs (i + 1) b
set_more qs ts vs i t v a b h lt at set so =
    so_far_next qs ts vs i t v a b lt (omega (arith, h, lt)) (ap (λ x. set_behind a (target_set qs (get_or ts i t) x)) (sym at) ∙ set) so

pub set_all : (ps : List ParameterDesc) (ts : List Target) (vs : List Value) (i : ℕ) (a : Assignments) → length ts ≡ length vs → length ts ≤ i → IsSoFar ps ts vs i a → row_set ps ts vs ≡ Ok a
set_all ps ts vs i a h le so = row_is ps ts vs h ∙ so_far_all ps ts vs i a le so
