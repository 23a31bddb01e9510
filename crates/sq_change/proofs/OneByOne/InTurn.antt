-- A loop that makes something of each element of a list in turn.
use Rattle.std.proofs.Common.{◌≡◌, ℕ, zero, suc, ◌+◌, ◌<◌, ◌≤◌, Bor, List, [], ◌∷◌, ◌++◌, length, min, drop, map, get_or, slice_get, Some, Ok, Err, arith, sym, ap, subst, ◌∙◌}
use Rattle.std.specs.List.{enumerate_from, zip}
use Rattle.std.proofs.lemmas.List.FromFn.{length-enumerate_from, get_or-enumerate_from}
use Rattle.sq_meaning.specs.Status.{Outcome, each}
use Rattle.sq_expression.specs.Fault.{Meets}
use Rattle.sq_expression.specs.declared.fault.Fault.{Fault}
use Rattle.sq_expression.proofs.Each.{after, after_start, each_done, each_failed, each_ends}
use Rattle.sq_query.proofs.Needs.Bases.{all_same}
use Rattle.sq_query.proofs.ByUnion.Unions.{one_more, pair_at, zip_length}

module _ {X A : Type 0} (f : X → Outcome A) (xs : List X) where
  -- the elements before this one are made, and the others are left
  abbrev pub MadeTo : ℕ → List A → Type 0
  MadeTo i done = each f xs ≡ after done (each f (map (λ x. x) (drop i xs)))

  pub made_none : (done : List A) → done ≡ [] → MadeTo 0 done
  made_none done none = after_start done (each f xs) none ∙ ap (λ (ys : List X). after done (each f ys)) (sym (all_same xs))

  pub made_more : (done next : List A) (i : ℕ) (x : X) (y : A) → i < length xs → x ≡ get_or xs i x → MadeTo i done → f x ≡ Ok y → next ≡ done ++ y ∷ [] → MadeTo (i + 1) next
  made_more done next i x y lt is so_far has joined = each_done f (λ x. x) (each f xs) done next xs i x y lt is so_far has joined

  pub made_failed : (done : List A) (i : ℕ) (x : X) (e : Fault) → i < length xs → x ≡ get_or xs i x → MadeTo i done → Meets {A = A} (Err e) (f x) → Meets {A = List A} (Err e) (each f xs)
  made_failed done i x e lt is so_far failed = each_failed f (λ x. x) (each f xs) done xs i x e lt is so_far failed

  pub made_all : (done : List A) (i : ℕ) → length xs ≤ i → MadeTo i done → each f xs ≡ Ok done
  made_all done i past so_far = each_ends f (λ x. x) (each f xs) done xs i past so_far

-- ---- two lists side by side

module _ {K V A : Type 0} (f : K × V → Outcome A) (ks : List K) (vs : List V) (done : List A) (yielded : List (Bor K × Bor V)) where
  module _ (p : Bor K × Bor V) (turn : (length yielded < length ks) × (length yielded < length vs) × ((d : K) → p.0.now ≡ get_or ks (length yielded) d) × ((d : V) → p.1.now ≡ get_or vs (length yielded) d))
      (so_far : MadeTo f (zip ks vs) (length yielded) done) where
    here : (length yielded < length (zip ks vs)) × ((p.0.now, p.1.now) ≡ get_or (zip ks vs) (length yielded) (p.0.now, p.1.now))
    here = pair_at ks vs (length yielded) p.0.now p.1.now turn.0 turn.1 turn.2 turn.3

    pub pair_more : (next : List A) (y : A) → f (p.0.now, p.1.now) ≡ Ok y → next ≡ done ++ y ∷ [] → MadeTo f (zip ks vs) (length (yielded ++ p ∷ [])) next
    pair_more next y has joined =
        subst (λ (n : ℕ). MadeTo f (zip ks vs) n next) (sym (one_more yielded p))
        (made_more f (zip ks vs) done next (length yielded) (p.0.now, p.1.now) y here.0 here.1 so_far has joined)

    pub pair_failed : (e : Fault) → Meets {A = A} (Err e) (f (p.0.now, p.1.now)) → Meets {A = List A} (Err e) (each f (zip ks vs))
    pair_failed e failed = made_failed f (zip ks vs) done (length yielded) (p.0.now, p.1.now) e here.0 here.1 so_far failed

  pub pairs_all : length yielded ≡ min (length ks) (length vs) → MadeTo f (zip ks vs) (length yielded) done → each f (zip ks vs) ≡ Ok done
  pairs_all ended so_far = made_all f (zip ks vs) done (length yielded) (omega (arith, ended, zip_length ks vs)) so_far

-- ---- elements and their places

-- an element and its place
pub place_at : {X : Type 0} (xs : List X) (i : ℕ) (x : X) → i < length xs → x ≡ get_or xs i x → (i < length (enumerate_from 0 xs)) × ((i, x) ≡ get_or (enumerate_from 0 xs) i (i, x))
place_at xs i x lt is = let here : i ≡ 0 + i = omega arith in (omega (arith, length-enumerate_from 0 xs), (λ k. (here k, is k)) ∙ sym (get_or-enumerate_from 0 xs i (i, x) lt))

pub all_placed : {X : Type 0} (xs : List X) (i : ℕ) → length xs ≤ i → length (enumerate_from 0 xs) ≤ i
all_placed xs i past = omega (arith, length-enumerate_from 0 xs)

pub found_at : {X : Type 0} (xs : List X) (i : ℕ) (x : X) → i < length xs → x ≡ get_or xs i x → slice_get xs i ≡ Some x
found_at [] i x lt is = absurd (omega arith)
found_at (y ∷ ys) zero x lt is = ap Some (sym is)
found_at (y ∷ ys) (suc i) x lt is = found_at ys i x (omega arith) is
