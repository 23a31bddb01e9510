-- Lists that are gathered element by element.
use Rattle.std.proofs.Common.{◌≡◌, ℕ, zero, suc, ◌+◌, ◌<◌, ◌≤◌, List, [], ◌∷◌, ◌++◌, length, take, take_all, get_or, refl, sym, ap, ◌∙◌, append_assoc, append-nil, arith}
use Rattle.std.specs.List.{flat_map}

module _ {X Y : Type 0} (f : X → List Y) where
  -- one element more
  one_more : (xs : List X) (i : ℕ) (x d : X) → i < length xs → x ≡ get_or xs i d → flat_map f (take (suc i) xs) ≡ flat_map f (take i xs) ++ f x
  one_more [] i x d lt e = absurd (omega arith)
  one_more (y ∷ ys) zero x d lt e = append-nil (f y) ∙ ap f (sym e)
  one_more (y ∷ ys) (suc i) x d lt e = ap (λ (zs : List Y). f y ++ zs) (one_more ys i x d (omega arith) e) ∙ sym (append_assoc (f y) (flat_map f (take i ys)) (f x))

  module _ (xs : List X) (before : List Y) where
    -- what the elements before this one give stands behind what there was
    abbrev pub GatheredTo : ℕ → List Y → Type 0
    GatheredTo i done = done ≡ before ++ flat_map f (take i xs)

    pub gathered_more : (i : ℕ) (x d : X) (done next : List Y) → i < length xs → x ≡ get_or xs i d → GatheredTo i done → next ≡ done ++ f x → GatheredTo (i + 1) next
    gathered_more i x d done next lt e so_far more =
        let one : suc i ≡ i + 1 = omega arith in
        more ∙ ap (λ (ys : List Y). ys ++ f x) so_far ∙ append_assoc before (flat_map f (take i xs)) (f x)
        ∙ ap (λ (ys : List Y). before ++ ys) (sym (one_more xs i x d lt e)) ∙ ap (λ (n : ℕ). before ++ flat_map f (take n xs)) one

    pub gathered_all : (i : ℕ) (done : List Y) → length xs ≤ i → GatheredTo i done → done ≡ before ++ flat_map f xs
    gathered_all i done past so_far = so_far ∙ ap (λ (ys : List X). before ++ flat_map f ys) (take_all i xs past)

-- an element that is there doesn't depend on the value in place of one that isn't
pub same_default : {X : Type 0} (xs : List X) (i : ℕ) (d e : X) → i < length xs → get_or xs i d ≡ get_or xs i e
same_default [] i d e lt = absurd (omega arith)
same_default (x ∷ xs) zero d e lt = refl
same_default (x ∷ xs) (suc i) d e lt = same_default xs i d e (omega arith)
