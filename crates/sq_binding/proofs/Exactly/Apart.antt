-- Distinct names, each among others, are no more than the others (ISO/IEC 9075:1992, 13.8).
use Rattle.std.proofs.Common.{◌≡◌, ℕ, ◌+◌, ◌≤◌, Bool, true, false, ◌||◌, List, [], ◌∷◌, ◌++◌, length, arith, refl, sym, ap, subst, ◌∙◌}
use Rattle.std.proofs.lemmas.Bool.Decides.{nat_tests}
use Rattle.std.proofs.lemmas.List.{length-append}
use Rattle.std.specs.List.{AllByRecursion, list_any}
use Rattle.std.specs.Prelude.{nat_lt}
use Rattle.std.proofs.lemmas.Bool.{or_parts, false≢true}
use Rattle.sq_value.proofs.Truths.{or_assoc_left}
use Rattle.sq_lex.specs.declared.name.Name.{Name}
use Rattle.sq_meaning.specs.Environment.{same_name}
use Rattle.sq_meaning.specs.Schema.{has_name_twice}
use Rattle.sq_binding.proofs.Placing.SameParameters.{name_itself, names_equal}

-- A name stands between others.
record Stands (name : Name) (all : List Name) : Type 0 where
  before : List Name
  later : List Name
  is : all ≡ before ++ name ∷ later

stands : (name : Name) (all : List Name) → list_any (same_name name) all ≡ true → Stands name all
stands name [] h = cc
stands name (m ∷ all) h = by (same_name name m) refl (λ e. stands name all (ap (λ b. b || list_any (same_name name) all) (sym e) ∙ h))
  where
    by : (b : Bool) → same_name name m ≡ b → (same_name name m ≡ false → Stands name all) → Stands name (m ∷ all)
    by true e rest = record { before = []; later = all; is = λ i. sym (names_equal name m e) i ∷ all }
    by false e rest = let s = rest e in record { before = m ∷ s.before; later = s.later; is = λ i. m ∷ s.is i }

any_joined : (test : Name → Bool) (xs ys : List Name) → list_any test (xs ++ ys) ≡ (list_any test xs || list_any test ys)
any_joined test [] ys = refl
any_joined test (x ∷ xs) ys = ap (λ b. test x || b) (any_joined test xs ys) ∙ or_assoc_left (test x) (list_any test xs) (list_any test ys)

without : (a b c : Bool) → (a || (b || c)) ≡ true → b ≡ false → (a || c) ≡ true
without true b c h e = refl
without false b c h e = ap (λ b. b || c) (sym e) ∙ h

-- another name is among the others
others : (name : Name) (before later : List Name) (names : List Name) → list_any (same_name name) names ≡ false → AllByRecursion (λ n. list_any (same_name n) (before ++ name ∷ later) ≡ true) names
    → AllByRecursion (λ n. list_any (same_name n) (before ++ later) ≡ true) names
others name before later [] other h = tt
others name before later (n ∷ names) other h =
    let apart = or_parts (same_name name n) (list_any (same_name name) names) other in (
      any_joined (same_name n) before later
          ∙ without (list_any (same_name n) before) (same_name n name) (list_any (same_name n) later) (sym (any_joined (same_name n) before (name ∷ later)) ∙ h.0) (differ (same_name n name) refl apart.0),
      others name before later names apart.1 h.1,
    )
  where
    differ : (b : Bool) → same_name n name ≡ b → same_name name n ≡ false → b ≡ false
    differ true e f = absurd (false≢true (sym f ∙ ap (same_name name) (names_equal n name e) ∙ name_itself name))
    differ false e f = refl

pub no_more : (names all : List Name) → has_name_twice names ≡ false → AllByRecursion (λ n. list_any (same_name n) all ≡ true) names → length names ≤ length all
no_more [] all once h = omega arith
no_more (n ∷ names) all once h =
    let parts = or_parts (list_any (same_name n) names) (has_name_twice names) once in
    let s = stands n all h.0 in
    let rest = no_more names (s.before ++ s.later) parts.1 (others n s.before s.later names parts.0 (subst (λ all. AllByRecursion (λ m. list_any (same_name m) all ≡ true) names) s.is h.1)) in
    let whole : length all ≡ length s.before + length (n ∷ s.later) = ap length s.is ∙ length-append s.before (n ∷ s.later) in
    let shorter : length (s.before ++ s.later) ≡ length s.before + length s.later = length-append s.before s.later in
    omega (arith, rest, whole, shorter)

-- a list of names that are all among others, each once, is no longer than it may be where those are not
pub none_too_many : (most : ℕ) (names all : List Name) → has_name_twice names ≡ false → AllByRecursion (λ n. list_any (same_name n) all ≡ true) names → nat_lt most (length all) ≡ false → nat_lt most (length names) ≡ false
none_too_many most names all once h few = within (length names) (length all) (no_more names all once h) few
  where
    within : (m n : ℕ) → m ≤ n → nat_lt most n ≡ false → nat_lt most m ≡ false
    within m n less few = grind (arith, nat_tests, less, few)
