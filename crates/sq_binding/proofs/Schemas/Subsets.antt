-- Lists of distinct numbers: two of one length have the same members if the members of one are among the members of the other.
use Rattle.std.proofs.Common.{◌≡◌, ℕ, suc, ◌≤◌, ◌<◌, Bool, true, false, ◌&&◌, ◌||◌, List, [], ◌∷◌, length, arith, refl, sym, ap, ◌∙◌}
use Rattle.std.proofs.lemmas.Bool.{eq-eqb, eqb-true, false≢true, and_parts, or_parts}
use Rattle.std.specs.List.{list_all, list_any}
use Rattle.std.specs.Prelude.{◌==◌, if◌then◌else◌, nat_eq}
use Rattle.sq_value.proofs.Truths.{alike}
use Rattle.sq_meaning.specs.Words.{has_twice}
use Rattle.sq_binding.specs.Reference.{are_among, are_the_same}

abbrev is_in : ℕ → List ℕ → Bool
is_in n all = list_any (nat_eq n) all

-- without the first of these
abbrev without : ℕ → List ℕ → List ℕ
without n [] = []
without n (m ∷ all) = if nat_eq n m then all else m ∷ without n all

fewer : (n : ℕ) (all : List ℕ) → is_in n all ≡ true → length all ≡ suc (length (without n all))
fewer n [] e = cc
fewer n (m ∷ all) e = by (nat_eq n m) e (λ g. fewer n all g)
  where
    by : (b : Bool) → (b || is_in n all) ≡ true → (is_in n all ≡ true → length all ≡ suc (length (without n all))) → suc (length all) ≡ suc (length (if b then all else m ∷ without n all))
    by true e h = refl
    by false e h = ap suc (h e)

others_stay : (n m : ℕ) (all : List ℕ) → nat_eq n m ≡ false → is_in m (without n all) ≡ is_in m all
others_stay n m [] apart = refl
others_stay n m (k ∷ all) apart = by (nat_eq n k) refl (others_stay n m all apart)
  where
    gone : (b : Bool) → nat_eq m k ≡ b → nat_eq n k ≡ true → is_in m all ≡ (b || is_in m all)
    gone false is same = refl
    gone true is same = absurd (false≢true (sym apart ∙ eq-eqb n m (eqb-true n k same ∙ sym (eqb-true m k is))))

    by : (b : Bool) → nat_eq n k ≡ b → is_in m (without n all) ≡ is_in m all → is_in m (if b then all else k ∷ without n all) ≡ (nat_eq m k || is_in m all)
    by true is h = gone (nat_eq m k) refl is
    by false is h = ap (λ b. nat_eq m k || b) h

-- each of some numbers is among all
abbrev within : List ℕ → List ℕ → Bool
within some all = list_all (λ n. is_in n all) some

none_is : (n : ℕ) (some : List ℕ) (m : ℕ) → is_in n (m ∷ some) ≡ false → (nat_eq n m ≡ false) × (is_in n some ≡ false)
none_is n some m e = or_parts (nat_eq n m) (is_in n some) e

still_within : (n : ℕ) (some all : List ℕ) → is_in n some ≡ false → within some all ≡ true → within some (without n all) ≡ true
still_within n [] all apart e = refl
still_within n (m ∷ some) all apart e =
    let parts = none_is n some m apart in
    let there = and_parts (is_in m all) (within some all) e in
    let first = others_stay n m all parts.0 ∙ there.0 in
    λ i. first i && still_within n some all parts.1 there.1 i

pub no_longer : (some all : List ℕ) → has_twice nat_eq some ≡ false → within some all ≡ true → length some ≤ length all
no_longer [] all apart e = omega arith
no_longer (n ∷ some) all apart e =
    let parts = or_parts (is_in n some) (has_twice nat_eq some) apart in
    let there = and_parts (is_in n all) (within some all) e in
    let less = fewer n all there.0 in
    let rest = no_longer some (without n all) parts.1 (still_within n some all parts.0 there.1) in
    omega (arith, less, rest)

-- with a number that is not among them there are fewer
one_missing : (some all : List ℕ) → has_twice nat_eq some ≡ false → within some all ≡ true → (n : ℕ) → is_in n some ≡ false → is_in n all ≡ true → length some < length all
one_missing some all apart e n gone there =
    let less = fewer n all there in
    let rest = no_longer some (without n all) apart (still_within n some all gone e) in
    omega (arith, less, rest)

all_there : (some all rest : List ℕ) → has_twice nat_eq some ≡ false → within some all ≡ true → length some ≡ length all → within rest all ≡ true → within rest some ≡ true
all_there some all [] apart e same r = refl
all_there some all (n ∷ rest) apart e same r =
    let there = and_parts (is_in n all) (within rest all) r in
    by (is_in n some) refl there.0 (all_there some all rest apart e same there.1)
  where
    by : (b : Bool) → is_in n some ≡ b → is_in n all ≡ true → within rest some ≡ true → (b && within rest some) ≡ true
    by true is there h = h
    by false is there h = let less = one_missing some all apart e n is there in absurd (never less same)
      where
        never : length some < length all → length some ≡ length all → ⊥
        never less same = omega (arith, less, same)

itself_within : (ns more : List ℕ) → within ns more ≡ true → (n : ℕ) → within ns (n ∷ more) ≡ true
itself_within [] more e n = refl
itself_within (m ∷ ns) more e n =
    let there = and_parts (is_in m more) (within ns more) e in
    λ i. either (nat_eq m n) there.0 i && itself_within ns more there.1 n i
  where
    either : (b : Bool) → is_in m more ≡ true → (b || is_in m more) ≡ true
    either true h = refl
    either false h = h

pub within_itself : (ns : List ℕ) → within ns ns ≡ true
within_itself [] = refl
within_itself (n ∷ ns) = λ i. here i && itself_within ns ns (within_itself ns) n i
  where
    here : (nat_eq n n || is_in n ns) ≡ true
    here = ap (λ b. b || is_in n ns) (eq-eqb n n refl)

-- two lists have the same members exactly where they are of one length and the members of one are among those of the other
pub same_members : (list key : List ℕ) → has_twice nat_eq list ≡ false → has_twice nat_eq key ≡ false → are_the_same list key ≡ (length list == length key && within list key)
same_members list key apart also = alike (are_the_same list key) (length list == length key && within list key) forth back
  where
    forth : are_the_same list key ≡ true → (length list == length key && within list key) ≡ true
    forth e =
        let parts = and_parts (are_among list key) (are_among key list) e in
        let more = no_longer key list also parts.0 in
        let less = no_longer list key apart parts.1 in
        let same : length list ≡ length key = omega (arith, more, less) in
        λ i. eq-eqb (length list) (length key) same i && parts.1 i

    back : (length list == length key && within list key) ≡ true → are_the_same list key ≡ true
    back e =
        let parts = and_parts (length list == length key) (within list key) e in
        let same = eqb-true (length list) (length key) parts.0 in
        λ i. all_there list key key apart parts.1 same (within_itself key) i && parts.1 i
