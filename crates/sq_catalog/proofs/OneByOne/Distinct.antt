-- Names that are added one after the other, each of which is not there yet.
use Rattle.std.proofs.Common.{◌≡◌, ℕ, ◌+◌, ◌<◌, ◌≤◌, Bool, true, false, ◌||◌, List, [], ◌∷◌, ◌++◌, length, get_or, drop, refl, sym, ap, ◌∙◌}
use Rattle.std.proofs.lemmas.List.{drop_all, drop_more}
use Rattle.std.proofs.lemmas.List.Folds.{list_any-append}
use Rattle.std.specs.List.{list_any}
use Rattle.std.proofs.lemmas.Cmp.{nat_list_eq_equiv}
use Rattle.sq_lex.specs.declared.name.Name.{Name}
use Rattle.sq_meaning.specs.Environment.{same_name}
use Rattle.sq_meaning.specs.Schema.{has_name_twice, is_among}

-- one of the names is among those that are seen, or stands twice
abbrev pub twice_behind : List Name → List Name → Bool
twice_behind seen [] = false
twice_behind seen (x ∷ xs) = is_among seen x || twice_behind (seen ++ x ∷ []) xs

one_seen : (a s p t : Bool) → ((a || (s || false)) || (p || t)) ≡ ((a || p) || (s || t))
one_seen true s p t = refl
one_seen false true true t = refl
one_seen false true false t = refl
one_seen false false p t = refl

all_seen : (a p t h : Bool) → ((a || p) || (t || h)) ≡ (a || ((p || t) || h))
all_seen true p t h = refl
all_seen false true t h = refl
all_seen false false t h = refl

seen_more : (seen : List Name) (x : Name) (xs : List Name) → list_any (λ y. is_among (seen ++ x ∷ []) y) xs ≡ (list_any (λ y. is_among seen y) xs || list_any (same_name x) xs)
seen_more seen x [] = refl
seen_more seen x (y ∷ ys) =
    (λ i. list_any-append (same_name y) seen (x ∷ []) i || seen_more seen x ys i)
    ∙ ap (λ s. (is_among seen y || (s || false)) || (list_any (λ y. is_among seen y) ys || list_any (same_name x) ys)) (nat_list_eq_equiv.symm y x)
    ∙ one_seen (is_among seen y) (same_name x y) (list_any (λ y. is_among seen y) ys) (list_any (same_name x) ys)

seen_or_twice : (seen xs : List Name) → (list_any (λ y. is_among seen y) xs || has_name_twice xs) ≡ twice_behind seen xs
seen_or_twice seen [] = refl
seen_or_twice seen (x ∷ xs) =
    all_seen (is_among seen x) (list_any (λ y. is_among seen y) xs) (list_any (same_name x) xs) (has_name_twice xs)
    ∙ ap (λ b. is_among seen x || (b || has_name_twice xs)) (sym (seen_more seen x xs))
    ∙ ap (λ b. is_among seen x || b) (seen_or_twice (seen ++ x ∷ []) xs)

none_seen : (xs : List Name) → list_any (λ y. is_among [] y) xs ≡ false
none_seen [] = refl
none_seen (x ∷ xs) = none_seen xs

-- at first no name is seen
pub begun : (seen names : List Name) → seen ≡ [] → has_name_twice names ≡ twice_behind seen names
begun seen names none = sym (ap (λ b. b || has_name_twice names) (none_seen names)) ∙ seen_or_twice [] names ∙ ap (λ l. twice_behind l names) (sym none)

module _ (names : List Name) (i : ℕ) (name : Name) (seen : List Name) (within : i < length names) (at : name ≡ get_or names i name) (so_far : has_name_twice names ≡ twice_behind seen (drop i names)) where
  next_is : drop i names ≡ name ∷ drop (i + 1) names
  next_is = drop_more names i name within ∙ ap (λ x. x ∷ drop (i + 1) names) (sym at)

  pub seen_again : is_among seen name ≡ true → has_name_twice names ≡ true
  seen_again again = so_far ∙ ap (twice_behind seen) next_is ∙ ap (λ b. b || twice_behind (seen ++ name ∷ []) (drop (i + 1) names)) again

  pub seen_once : (more : List Name) → is_among seen name ≡ false → more ≡ seen ++ name ∷ [] → has_name_twice names ≡ twice_behind more (drop (i + 1) names)
  seen_once more once is =
      so_far ∙ ap (twice_behind seen) next_is ∙ ap (λ b. b || twice_behind (seen ++ name ∷ []) (drop (i + 1) names)) once
      ∙ ap (λ l. twice_behind l (drop (i + 1) names)) (sym is)

pub seen_all : (names : List Name) (i : ℕ) (seen : List Name) → length names ≤ i → has_name_twice names ≡ twice_behind seen (drop i names) → has_name_twice names ≡ false
seen_all names i seen past so_far = so_far ∙ ap (twice_behind seen) (drop_all i names past)
