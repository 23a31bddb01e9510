-- Positions of names among the names of columns. A name has one exactly if it is among them, and names are the same exactly if their
-- positions are (ISO/IEC 9075:1992, 5.4, 11.7 and 11.8).
use Rattle.std.proofs.Common.{◌≡◌, arith, ℕ, zero, suc, ◌+◌, Bool, true, false, cond, not, ◌&&◌, ◌||◌, List, [], ◌∷◌, length, map, Option, Some, None, refl, sym, ap, subst, ◌∙◌}
use Rattle.std.proofs.lemmas.Bool.{eq-eqb, eqb-true, and_parts, or_parts}
use Rattle.std.proofs.lemmas.Grind.{common_steps}
use Rattle.std.specs.List.{AllZip, list_any, position_or_len}
use Rattle.std.specs.Option.{option_map}
use Rattle.std.specs.Prelude.{if◌then◌else◌, is_none, is_some, nat_eq, nat_lt, position, slice_get}
use Rattle.sq_value.proofs.Truths.{or_false}
pub use Rattle.sq_value.proofs.Truths.{alike}
use Rattle.sq_lex.specs.declared.name.Name.{Name}
use Rattle.sq_meaning.specs.Environment.{TableName, same_name, same_table}
use Rattle.sq_meaning.specs.Schema.{has_name_twice, is_among, place_among}
use Rattle.sq_meaning.specs.SchemaRefusal.{has_unknown}
use Rattle.sq_meaning.specs.Words.{has_twice, is_some_and}
use Rattle.sq_meaning.specs.declared.refusal.SchemaFault.TheVariants as fault
use Rattle.sq_binding.proofs.Placing.SameParameters.{name_itself, names_equal}
use Rattle.sq_binding.specs.Position.{position_of, positions_of}
use Rattle.sq_binding.proofs.Schemas.Answers.{Tells, tells_at, tells_each, tells_there}

-- ---- tests

pub table_same : (s t : TableName) → same_table s t ≡ true → s ≡ t
table_same s t e =
    let parts = and_parts (same_name s.user t.user) (same_name s.name t.name) e in
    λ i. record { user = names_equal s.user t.user parts.0 i; name = names_equal s.name t.name parts.1 i }

pub table_itself : (t : TableName) → same_table t t ≡ true
table_itself t = λ i. name_itself t.user i && name_itself t.name i

-- ---- positions

both_less : (n count : ℕ) → nat_lt (suc n) (suc count) ≡ nat_lt n count
both_less n count = grind (arith, common_steps)

none_less : (count : ℕ) → nat_lt 0 (suc count) ≡ true
none_less count = grind (arith, common_steps)

next_shown : (t : Bool) (n : ℕ) → cond t (Some (suc n)) None ≡ option_map suc (cond t (Some n) None)
next_shown true n = refl
next_shown false n = refl

-- a first element is found, or one of the others
first_or_later : (b : Bool) (n count : ℕ) → cond (nat_lt (cond (not b) (1 + n) 0) (suc count)) (Some (cond (not b) (1 + n) 0)) None ≡ (if b then Some 0 else option_map suc (cond (nat_lt n count) (Some n) None))
first_or_later true n count = ap (λ b. cond b (Some 0) None) (none_less count)
first_or_later false n count =
    let one : 1 + n ≡ suc n = omega arith in
    (λ i. cond (nat_lt (one i) (suc count)) (Some (one i)) None) ∙ ap (λ b. cond b (Some (suc n)) None) (both_less n count) ∙ next_shown (nat_lt n count) n

pub position_step : {A : Type 0} (p : A → Bool) (x : A) (xs : List A) → position p (x ∷ xs) ≡ (if p x then Some 0 else option_map suc (position p xs))
position_step p x xs = first_or_later (p x) (position_or_len p xs) (length xs)

pub position_there : {A : Type 0} (p : A → Bool) (xs : List A) → is_some (position p xs) ≡ list_any p xs
position_there p [] = refl
position_there p (x ∷ xs) = ap is_some (position_step p x xs) ∙ by (p x) (position p xs) (position_there p xs)
  where
    by : (b : Bool) (o : Option ℕ) → is_some o ≡ list_any p xs → is_some (if b then Some 0 else option_map suc o) ≡ (b || list_any p xs)
    by true o e = refl
    by false None e = e
    by false (Some n) e = e

pub position_at : {A : Type 0} (p : A → Bool) (xs : List A) (n : ℕ) → position p xs ≡ Some n → (x : A) × (slice_get xs n ≡ Some x) × (p x ≡ true)
position_at p [] n e = cc
position_at p (x ∷ xs) n e = by (λ m at. position_at p xs m at) (p x) refl (position p xs) refl n (sym (position_step p x xs) ∙ e)
  where
    by : ((m : ℕ) → position p xs ≡ Some m → (y : _) × (slice_get xs m ≡ Some y) × (p y ≡ true)) → (b : Bool) → p x ≡ b → (o : Option ℕ) → position p xs ≡ o → (n : ℕ) → (if b then Some 0 else option_map suc o) ≡ Some n
        → (y : _) × (slice_get (x ∷ xs) n ≡ Some y) × (p y ≡ true)
    by later true is o at zero e = (x, refl, is)
    by later true is o at (suc n) e = cc
    by later false is None at n e = cc
    by later false is (Some m) at zero e = cc
    by later false is (Some m) at (suc n) e = let same : m ≡ n = cc in later n (at ∙ ap Some same)

-- ---- names among names

abbrev pub IsPlaced : List Name → Name → ℕ → Type 0
IsPlaced names name n = place_among names name ≡ Some n

none_there : {A : Type 0} (o : Option A) → is_none o ≡ not (is_some o)
none_there None = refl
none_there (Some x) = refl

pub is_unplaced : (names : List Name) (name : Name) → is_none (place_among names name) ≡ not (is_among names name)
is_unplaced names name = none_there (place_among names name) ∙ ap not (position_there (same_name name) names)

pub position_told : (names : List Name) (name : Name) → Tells fault.UnknownName (not (is_among names name)) (IsPlaced names name) (position_of names name)
position_told names name =
    tells_at fault.UnknownName (is_none (place_among names name)) (not (is_among names name)) (IsPlaced names name) (position_of names name) (is_unplaced names name) (tells_there fault.UnknownName (place_among names name))

pub positions_told : (names wanted : List Name) → Tells fault.UnknownName (has_unknown names wanted) (AllZip (IsPlaced names) wanted) (positions_of names wanted)
positions_told names wanted = tells_each fault.UnknownName (λ n. not (is_among names n)) (IsPlaced names) (position_of names) (position_told names) wanted

-- names are the same where their positions are
pub same_placed : (names : List Name) (a b : Name) (m n : ℕ) → IsPlaced names a m → IsPlaced names b n → same_name a b ≡ nat_eq m n
same_placed names a b m n at of = alike (same_name a b) (nat_eq m n) forth back
  where
    forth : same_name a b ≡ true → nat_eq m n ≡ true
    forth e =
        let one : Some m ≡ Some n = sym at ∙ ap (place_among names) (names_equal a b e) ∙ of in
        let same : m ≡ n = cc in
        eq-eqb m n same

    back : nat_eq m n ≡ true → same_name a b ≡ true
    back e =
        let same = eqb-true m n e in
        let x = position_at (same_name a) names m at in
        let y = position_at (same_name b) names n of in
        let one : Some x.0 ≡ Some y.0 = sym x.1 ∙ ap (slice_get names) same ∙ y.1 in
        let met : x.0 ≡ y.0 = cc in
        subst (λ c. same_name a c ≡ true) (names_equal a x.0 x.2 ∙ met ∙ sym (names_equal b y.0 y.2)) (name_itself a)

pub any_placed : (names : List Name) (a : Name) (m : ℕ) → IsPlaced names a m → (others : List Name) (ns : List ℕ) → AllZip (IsPlaced names) others ns → list_any (same_name a) others ≡ list_any (nat_eq m) ns
any_placed names a m at [] [] h = refl
any_placed names a m at [] (n ∷ ns) h = absurd h
any_placed names a m at (b ∷ others) [] h = absurd h
any_placed names a m at (b ∷ others) (n ∷ ns) h = λ i. same_placed names a b m n at h.0 i || any_placed names a m at others ns h.1 i

pub twice_placed : (names wanted : List Name) (ns : List ℕ) → AllZip (IsPlaced names) wanted ns → has_name_twice wanted ≡ has_twice nat_eq ns
twice_placed names [] [] h = refl
twice_placed names [] (n ∷ ns) h = absurd h
twice_placed names (a ∷ wanted) [] h = absurd h
twice_placed names (a ∷ wanted) (n ∷ ns) h = λ i. any_placed names a n h.0 wanted ns h.1 i || twice_placed names wanted ns h.1 i

pub as_long : {A B : Type 0} (R : A → B → Type 0) (xs : List A) (ys : List B) → AllZip R xs ys → length xs ≡ length ys
as_long R [] [] h = refl
as_long R [] (y ∷ ys) h = absurd h
as_long R (x ∷ xs) [] h = absurd h
as_long R (x ∷ xs) (y ∷ ys) h = ap suc (as_long R xs ys h.1)

-- ---- what stands at the position of a name, where no name stands twice

module _ {A : Type 0} (name_of : A → Name) (test : A → Bool) (name : Name) where
  abbrev has_it : List A → Bool
  has_it xs = list_any (λ x. same_name name (name_of x) && test x) xs

  not_here : (b t rest : Bool) → b ≡ false → rest ≡ false → (b && t || rest) ≡ false
  not_here true t rest e g = cc
  not_here false t rest e g = g

  pub none_later : (ys : List A) → list_any (same_name name) (map name_of ys) ≡ false → has_it ys ≡ false
  none_later [] e = refl
  none_later (y ∷ ys) e =
      let parts = or_parts (same_name name (name_of y)) (list_any (same_name name) (map name_of ys)) e in
      not_here (same_name name (name_of y)) (test y) (has_it ys) parts.0 (none_later ys parts.1)

  pub among_apart : (xs : List A) → has_name_twice (map name_of xs) ≡ false → (n : ℕ) → IsPlaced (map name_of xs) name n → has_it xs ≡ is_some_and test (slice_get xs n)
  among_apart [] apart n e = cc
  among_apart (x ∷ xs) apart n e =
      let parts = or_parts (list_any (same_name (name_of x)) (map name_of xs)) (has_name_twice (map name_of xs)) apart in
      by (λ m at. among_apart xs parts.1 m at) parts.0 (same_name name (name_of x)) refl (place_among (map name_of xs) name) refl n (sym (position_step (same_name name) (name_of x) (map name_of xs)) ∙ e)
    where
      by : ((m : ℕ) → IsPlaced (map name_of xs) name m → has_it xs ≡ is_some_and test (slice_get xs m)) → list_any (same_name (name_of x)) (map name_of xs) ≡ false → (b : Bool) → same_name name (name_of x) ≡ b
          → (o : Option ℕ) → place_among (map name_of xs) name ≡ o → (n : ℕ) → (if b then Some 0 else option_map suc o) ≡ Some n → (b && test x || has_it xs) ≡ is_some_and test (slice_get (x ∷ xs) n)
      by later apart true is o at zero e = ap (λ b. test x || b) (none_later xs (ap (λ m. list_any (same_name m) (map name_of xs)) (names_equal name (name_of x) is) ∙ apart)) ∙ or_false (test x)
      by later apart true is o at (suc n) e = cc
      by later apart false is None at n e = cc
      by later apart false is (Some m) at zero e = cc
      by later apart false is (Some m) at (suc n) e = let same : m ≡ n = cc in later n (at ∙ ap Some same)
