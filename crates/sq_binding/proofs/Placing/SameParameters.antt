-- Names of parameters are the same if their positions are. A list of names has one twice if the list of their positions has
-- (ISO/IEC 9075:1992, 6.2 and 13.3).
use Rattle.std.proofs.Common.{◌≡◌, ℕ, Bool, true, false, ◌&&◌, ◌||◌, List, [], ◌∷◌, ◌++◌, Option, Some, None, Ok, Err, get_or, refl, sym, ap, ◌∙◌}
use Rattle.std.proofs.lemmas.Bool.{eq-eqb, eqb-true, or_right}
use Rattle.std.proofs.lemmas.List.Quantifiers.{position-Some}
use Rattle.std.specs.Cmp.Lexicographic.{same_text}
use Rattle.std.specs.List.{AllZip, list_any, position}
use Rattle.std.specs.Option.{option_and_then, option_map}
use Rattle.std.specs.Prelude.{nat_eq, slice_get}
use Rattle.sq_lex.specs.declared.name.Name.{Name}
use Rattle.sq_value.specs.declared.domain.Domain.{Domain}
use Rattle.sq_value.specs.declared.domain.Domain.TheVariants as domain
use Rattle.sq_meaning.specs.Environment.{same_name}
use Rattle.sq_meaning.specs.Tables.{Declared}
use Rattle.sq_meaning.specs.Words.{has_twice}
use Rattle.sq_meaning.specs.declared.fault.BindingFault.TheVariants as fault
use Rattle.sq_binding.specs.Expression.{parameter_named}
use Rattle.sq_binding.specs.Outcome.{Outcome, or_fault}

-- ---- names

pub name_itself : (n : Name) → same_name n n ≡ true
name_itself [] = refl
name_itself (x ∷ n) = λ i. eq-eqb x x refl i && name_itself n i

pub names_equal : (n m : Name) → same_name n m ≡ true → n ≡ m
names_equal n m e = same_text n m (sym e)

-- the parameter of a name is at this position
abbrev pub IsAt : List Declared → Name → ℕ → Type 0
IsAt parameters name n = (d : Domain) × (parameter_named parameters name ≡ Ok (n, d))

module _ (parameters : List Declared) where
  abbrev here : Name → Option ℕ
  here name = position (λ p. same_name p.name name) parameters

  at_of : Outcome (ℕ × Domain) → ℕ
  at_of (Ok x) = x.0
  at_of (Err f) = 0

  abbrev found : ℕ → Option Declared → Outcome (ℕ × Domain)
  found at p = or_fault fault.UnknownParameter (option_map (λ p. (at, p.domain)) p)

  abbrev found_at : Option ℕ → Outcome (ℕ × Domain)
  found_at o = or_fault fault.UnknownParameter (option_and_then (λ at. option_map (λ p. (at, p.domain)) (slice_get parameters at)) o)

  position_of : (o : Option ℕ) (n : ℕ) (d : Domain) → found_at o ≡ Ok (n, d) → o ≡ Some n
  unfolding at_of
  position_of None n d e = cc
  position_of (Some at) n d e = there (slice_get parameters at) e
    where
      there : (p : Option Declared) → found at p ≡ Ok (n, d) → Some at ≡ Some n
      there None e = cc
      there (Some p) e = ap (λ o. Some (at_of o)) e

  position_is : (name : Name) (n : ℕ) → IsAt parameters name n → here name ≡ Some n
  position_is name n h = position_of (here name) n h.0 h.1

  abbrev none : Declared
  none = record { name = []; domain = domain.Int }

  name_at : (name : Name) (n : ℕ) → here name ≡ Some n → (get_or parameters n none).name ≡ name
  name_at name n e = names_equal (get_or parameters n none).name name (position-Some (λ p. same_name p.name name) parameters n none e).1

  pub same_at : (n m : Name) (i k : ℕ) → IsAt parameters n i → IsAt parameters m k → same_name n m ≡ nat_eq i k
  same_at n m i k h g = by (same_name n m) (nat_eq i k) refl refl
    where
      at_n : here n ≡ Some i
      at_n = position_is n i h

      at_m : here m ≡ Some k
      at_m = position_is m k g

      by : (b c : Bool) → same_name n m ≡ b → nat_eq i k ≡ c → b ≡ c
      by true true e f = refl
      by false false e f = refl
      by true false e f = let one : Some i ≡ Some k = sym at_n ∙ ap here (names_equal n m e) ∙ at_m in let same : i ≡ k = cc in sym (eq-eqb i k same) ∙ f
      by false true e f =
          let one : n ≡ m = sym (name_at n i at_n) ∙ ap (λ n. (get_or parameters n none).name) (eqb-true i k f) ∙ name_at m k at_m in
          sym e ∙ ap (same_name n) (sym one) ∙ name_itself n

  any_same : (n : Name) (i : ℕ) → IsAt parameters n i → (names : List Name) (positions : List ℕ) → AllZip (IsAt parameters) names positions → list_any (same_name n) names ≡ list_any (nat_eq i) positions
  any_same n i h [] [] all = refl
  any_same n i h [] (k ∷ positions) all = absurd all
  any_same n i h (m ∷ names) [] all = absurd all
  any_same n i h (m ∷ names) (k ∷ positions) all = λ t. same_at n m i k h all.0 t || any_same n i h names positions all.1 t

  -- names are twice in a list where their positions are
  pub twice_same : (names : List Name) (positions : List ℕ) → AllZip (IsAt parameters) names positions → has_twice same_name names ≡ has_twice nat_eq positions
  twice_same [] [] all = refl
  twice_same [] (k ∷ positions) all = absurd all
  twice_same (n ∷ names) [] all = absurd all
  twice_same (n ∷ names) (i ∷ positions) all = λ t. any_same n i all.0 names positions all.1 t || twice_same names positions all.1 t

-- ---- one that is twice in a list is so in a longer one

longer : (a b c : Bool) → (a || b) ≡ true → (b ≡ true → c ≡ true) → (a || c) ≡ true
longer true b c h more = refl
longer false b c h more = more h

either_longer : (a b c d : Bool) → (a || b) ≡ true → (a ≡ true → c ≡ true) → (b ≡ true → d ≡ true) → (c || d) ≡ true
either_longer true b c d h f g = ap (λ c. c || d) (f refl)
either_longer false true c d h f g = or_right c d (g refl)
either_longer false false c d h f g = cc

any_longer : {A : Type 0} (test : A → Bool) (xs ys : List A) → list_any test xs ≡ true → list_any test (xs ++ ys) ≡ true
any_longer test [] ys h = cc
any_longer test (x ∷ xs) ys h = longer (test x) (list_any test xs) (list_any test (xs ++ ys)) h (any_longer test xs ys)

pub twice_longer : {A : Type 0} (same : A → A → Bool) (xs ys : List A) → has_twice same xs ≡ true → has_twice same (xs ++ ys) ≡ true
twice_longer same [] ys h = cc
twice_longer same (x ∷ xs) ys h =
    either_longer (list_any (same x) xs) (has_twice same xs) (list_any (same x) (xs ++ ys)) (has_twice same (xs ++ ys)) h (any_longer (same x) xs ys) (twice_longer same xs ys)
