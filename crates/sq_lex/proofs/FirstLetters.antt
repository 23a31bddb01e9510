-- A word is found among the reserved words that have its first letter.
use Rattle.std.proofs.Common.{◌≡◌, ℕ, ◌+◌, ◌-◌, ◌<◌, ◌≤◌, Bool, true, false, not, ◌&&◌, List, [], ◌∷◌, ◌++◌, Option, None, Some, take, drop, get_or, length, refl, sym, ap, subst, map, ◌∙◌, arith, nat_eq, if◌then◌else◌}
use Rattle.std.proofs.Math.Dec.{leb}
use Rattle.std.proofs.lemmas.Bool.{and_parts, and_left, not-true, leb-true, agree_below, agree_below_at}
use Rattle.std.proofs.lemmas.List.{take-append-drop, take-map, drop-map}
use Rattle.std.specs.Cmp.Lexicographic.{pointwise}
use Rattle.sq_lex.specs.declared.word.Word.{Word}
use Rattle.sq_lex.specs.Reserved.{lookup, reserved, reserved_words, start}

-- the word has another first letter
abbrev differs : ℕ → List ℕ → Bool
differs letter [] = true
differs letter (first ∷ rest) = not (nat_eq first letter)

-- all of them have
abbrev differ : ℕ → List (List ℕ × Word) → Bool
differ letter [] = true
differ letter (entry ∷ entries) = differs letter entry.0 && differ letter entries

is_other : (letter : ℕ) (word rest : List ℕ) → differs letter word ≡ true → pointwise nat_eq word (letter ∷ rest) ≡ false
is_other letter [] rest h = refl
is_other letter (first ∷ more) rest h = and_left _ _ (not-true _ h)

none : (letter : ℕ) (rest : List ℕ) (words : List (List ℕ × Word)) → differ letter words ≡ true → lookup words (letter ∷ rest) ≡ None
none letter rest [] h = refl
none letter rest (entry ∷ entries) h = let parts = and_parts _ _ h in rw (is_other letter entry.0 rest parts.0) (none letter rest entries parts.1)

skipped : (letter : ℕ) (rest : List ℕ) (front words : List (List ℕ × Word)) → differ letter front ≡ true → lookup (front ++ words) (letter ∷ rest) ≡ lookup words (letter ∷ rest)
skipped letter rest [] words h = refl
skipped letter rest (entry ∷ front) words h = let parts = and_parts _ _ h in rw (is_other letter entry.0 rest parts.0) (skipped letter rest front words parts.1)

ended : (letter : ℕ) (rest : List ℕ) (words back : List (List ℕ × Word)) → differ letter back ≡ true → lookup (words ++ back) (letter ∷ rest) ≡ lookup words (letter ∷ rest)
ended letter rest [] back h = none letter rest back h
ended letter rest (entry ∷ words) back h = ap (λ r. if pointwise nat_eq entry.0 (letter ∷ rest) then Some entry.1 else r) (ended letter rest words back h)

-- words between two places, where all before and behind them have another first letter
among : (letter : ℕ) (rest : List ℕ) (words : List (List ℕ × Word)) (from n : ℕ) → differ letter (take from words) ≡ true → differ letter (drop n (drop from words)) ≡ true → lookup (take n (drop from words)) (letter ∷ rest) ≡ lookup words (letter ∷ rest)
among letter rest words from n before behind =
    sym (ended letter rest (take n (drop from words)) (drop n (drop from words)) behind)
    ∙ ap (λ ws. lookup ws (letter ∷ rest)) (take-append-drop n (drop from words))
    ∙ sym (skipped letter rest (take from words) (drop from words) before)
    ∙ ap (λ ws. lookup ws (letter ∷ rest)) (take-append-drop from words)

-- the words from one start to the next are those of their letter
abbrev is_divided : ℕ → Bool
is_divided k =
    (differ (65 + k) (take (start k) reserved_words) && differ (65 + k) (drop (start (k + 1) - start k) (drop (start k) reserved_words)))
    && (leb (start k) (start (k + 1)) && leb (start (k + 1)) 91)

divided : agree_below is_divided (λ _. true) 26 ≡ true
unfolding start
divided = refl

at : (k : ℕ) → k < 26 → is_divided k ≡ true
at k h = agree_below_at is_divided (λ _. true) 26 k divided h

found : (letter : ℕ) (rest : List ℕ) → 65 ≤ letter → letter ≤ 90 → lookup (take (start (letter - 65 + 1) - start (letter - 65)) (drop (start (letter - 65)) reserved_words)) (letter ∷ rest) ≡ lookup reserved_words (letter ∷ rest)
found letter rest low high =
    let below : letter - 65 < 26 = omega arith in
    let same : 65 + (letter - 65) ≡ letter = omega arith in
    let words = and_parts _ _ (and_parts _ _ (at (letter - 65) below)).0 in
    subst (λ l. lookup (take (start (letter - 65 + 1) - start (letter - 65)) (drop (start (letter - 65)) reserved_words)) (l ∷ rest) ≡ lookup reserved_words (l ∷ rest)) same
    (among (65 + (letter - 65)) rest reserved_words (start (letter - 65)) (start (letter - 65 + 1) - start (letter - 65)) words.0 words.1)

-- a word looked up among those of its first letter
pub looked_up : (spelling : List ℕ) (from to : ℕ) (answer : Option Word) → 1 ≤ length spelling → 65 ≤ get_or spelling 0 0 → get_or spelling 0 0 ≤ 90 → from ≡ start (get_or spelling 0 0 - 65) → to ≡ start (get_or spelling 0 0 - 65 + 1) → answer ≡ lookup (take (to - from) (drop from reserved_words)) spelling → answer ≡ reserved spelling
unfolding reserved
looked_up [] from to answer long low high is_from is_to is = absurd (omega (arith, long))
looked_up (letter ∷ rest) from to answer long low high is_from is_to is = is ∙ rw is_from (rw is_to (found letter rest low high))

pub ordered : (place : ℕ) → place < 26 → start place ≤ start (place + 1)
ordered place h = leb-true _ _ (and_parts _ _ (and_parts _ _ (at place h)).1).0

pub inside : (place : ℕ) → place < 26 → start (place + 1) ≤ 91
inside place h = leb-true _ _ (and_parts _ _ (and_parts _ _ (at place h)).1).1

pub map_part : {X Y : Type 0} (f : X → Y) (from n : ℕ) (xs : List X) → map f (take n (drop from xs)) ≡ take n (drop from (map f xs))
map_part f from n xs = sym (take-map f n (drop from xs)) ∙ ap (take n) (sym (drop-map f from xs))
