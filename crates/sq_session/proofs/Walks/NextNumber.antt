-- The next number under which there is a row.
use Rattle.std.proofs.Common.{◌≡◌, ◌+◌, ◌-◌, ◌<◌, ◌≤◌, ℕ, zero, suc, min, true, false, not, List, [], ◌∷◌, length, get_or, take, drop, slice_get, None, Some, refl, ap, sym, subst, ◌∙◌, arith, length-drop}
use Rattle.std.proofs.lemmas.List.{take_rest}
use Rattle.std.proofs.lemmas.List.Sums.{prefix_len-drop_no, prefix_len-drop_yes, prefix_len-drop_all, prefix_len-le-length}
use Rattle.std.specs.List.{position_or_len}
use Rattle.sq_store.specs.declared.table.Table.{Table}
use Rattle.sq_session.specs.State.{is_there}

-- The numbers without a row: those looked at so far, and those among the numbers behind them.
abbrev pub LooksOn : Table → List ℕ → ℕ → Type 0
LooksOn t xs i = position_or_len (is_there t) xs ≡ i + position_or_len (is_there t) (drop i xs)

pub looks_on : (t : Table) (xs : List ℕ) (i d : ℕ) → i < length xs → is_there t (get_or xs i d) ≡ false → LooksOn t xs i → LooksOn t xs (i + 1)
looks_on t xs i d lt e h = let k = prefix_len-drop_yes (λ x. not (is_there t x)) xs i d lt (ap not e) in omega (arith, h, k)

pub found : (t : Table) (xs : List ℕ) (i d : ℕ) → i < length xs → is_there t (get_or xs i d) ≡ true → LooksOn t xs i → position_or_len (is_there t) xs ≡ i
found t xs i d lt e h = let k = prefix_len-drop_no (λ x. not (is_there t x)) xs i d lt (ap not e) in omega (arith, h, k)

pub all_gone : (t : Table) (xs : List ℕ) (i : ℕ) → length xs ≤ i → LooksOn t xs i → position_or_len (is_there t) xs ≡ length xs
all_gone t xs i le h =
    let k = prefix_len-drop_all (λ x. not (is_there t x)) xs i le in
    let short = prefix_len-le-length (λ x. not (is_there t x)) xs in
    omega (arith, h, k, le, short)

pub get_past : (xs : List ℕ) → slice_get xs (length xs) ≡ None
get_past [] = refl
get_past (x ∷ xs) = get_past xs

pub get_there : (xs : List ℕ) (i d : ℕ) → i < length xs → slice_get xs i ≡ Some (get_or xs i d)
get_there [] i d lt = absurd (omega (arith, lt))
get_there (x ∷ xs) zero d lt = refl
get_there (x ∷ xs) (suc i) d lt = get_there xs i d (omega (arith, lt))

-- the numbers that are looked at are those that are left
pub left_is : (p : ℕ) (xs : List ℕ) → take (length xs - p) (drop p xs) ≡ drop p xs
left_is p xs = take_rest xs p

-- A row is found under a number that is looked at.
pub reached : (t : Table) (all xs : List ℕ) (p i : ℕ) → p ≤ length all → xs ≡ drop p all → i < length xs → LooksOn t xs i → is_there t (get_or xs i 0) ≡ true
    → (slice_get (drop p all) (position_or_len (is_there t) (drop p all)) ≡ Some (get_or xs i 0)) × (min (length all) (p + position_or_len (is_there t) (drop p all) + 1) ≡ p + i + 1)
reached t all xs p i few e lt h there =
    let at : position_or_len (is_there t) (drop p all) ≡ i = subst (λ z. position_or_len (is_there t) z ≡ i) e (found t xs i 0 lt there h) in
    let long : length xs ≡ length (drop p all) = ap length e in
    let got : slice_get xs i ≡ Some (get_or xs i 0) = get_there xs i 0 lt in
    (ap (slice_get (drop p all)) at ∙ ap (λ z. slice_get z i) (sym e) ∙ got, omega (arith, at, few, long, lt, length-drop p all))

-- No row is found under any of the numbers.
pub none_there : (t : Table) (all xs : List ℕ) (p i : ℕ) → p ≤ length all → xs ≡ drop p all → length xs ≤ i → LooksOn t xs i
    → (slice_get (drop p all) (position_or_len (is_there t) (drop p all)) ≡ None) × (min (length all) (p + position_or_len (is_there t) (drop p all) + 1) ≡ length all)
none_there t all xs p i few e le h =
    let at : position_or_len (is_there t) (drop p all) ≡ length xs = subst (λ z. position_or_len (is_there t) z ≡ length xs) e (all_gone t xs i le h) in
    let long : length xs ≡ length (drop p all) = ap length e in
    (ap (slice_get (drop p all)) (at ∙ long) ∙ get_past (drop p all), omega (arith, at, few, long, length-drop p all))
