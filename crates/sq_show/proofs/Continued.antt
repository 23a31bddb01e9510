-- What is added to a line, one piece after the other.
use Rattle.std.proofs.Common.{◌≡◌, ◌≢◌, ◌==◌, ℕ, Bool, true, false, if◌then◌else◌, List, [], ◌∷◌, ◌++◌, append_assoc, ap, refl, subst, sym, ◌∙◌}
use Rattle.std.specs.List.{AllByRecursion}
use Rattle.std.proofs.lemmas.List.{append-nil}
use Rattle.sq_meaning.proofs.AnswerLaws.{all_appended}
use Rattle.sq_show.specs.CauseWords.{unless_end, without_ends}
use Rattle.sq_show.specs.Words.{IsContinued}

pub nothing : (a : List ℕ) → IsContinued a a
nothing a = record { added = []; joined = sym (append-nil a); no_end = tt }

pub one : (a b : List ℕ) (c : ℕ) → c ≢ 10 → b ≡ a ++ c ∷ [] → IsContinued a b
one a b c h e = record { added = c ∷ []; joined = e; no_end = (h, tt) }

pub continued : (a b c : List ℕ) → IsContinued a b → IsContinued b c → IsContinued a c
continued a b c x y = record {
  added = x.added ++ y.added;
  joined = y.joined ∙ (ap (λ l. l ++ y.added) x.joined ∙ append_assoc a x.added y.added);
  no_end = all_appended (λ c. c ≢ 10) x.added y.added x.no_end y.no_end;
}

-- what has no line end goes on with the line
ne : (c : ℕ) → (c == 10) ≡ false → c ≢ 10
ne c h e = let same : (10 == 10) ≡ false = subst (λ (k : ℕ). (k == 10) ≡ false) e h in cc

of_one : (c : ℕ) (b : Bool) → (c == 10) ≡ b → AllByRecursion (λ c. c ≢ 10) (if b then [] else c ∷ [])
of_one c true e = tt
of_one c false e = (ne c e, tt)

no_end : (words : List ℕ) → AllByRecursion (λ c. c ≢ 10) (without_ends words)
no_end [] = tt
no_end (c ∷ words) = all_appended (λ c. c ≢ 10) (unless_end c) (without_ends words) (of_one c (c == 10) refl) (no_end words)

pub without_all : (a b words : List ℕ) → b ≡ a ++ without_ends words → IsContinued a b
without_all a b words e = record { added = without_ends words; joined = e; no_end = no_end words }
