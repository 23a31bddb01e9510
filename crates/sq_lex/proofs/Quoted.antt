-- A literal that is read has its characters with each quote doubled, and nothing longer is one.
use Rattle.std.proofs.Common.{◌≡◌, ℕ, zero, suc, ◌+◌, ◌≤◌, ◌==◌, ◌&&◌, Bool, true, false, cond, List, [], ◌∷◌, ◌++◌, length, take, drop, refl, sym, ap, subst, ◌∙◌, arith}
use Rattle.std.proofs.lemmas.Bool.{cond_both, eqb-true}
use Rattle.std.proofs.lemmas.Bool.Decides.{nat_tests}
use Rattle.std.proofs.lemmas.List.Elements.{All-take}
use Rattle.std.proofs.lemmas.List.Sums.{AllPass-from_list_all}
use Rattle.std.specs.Prelude.{slice_index}
use Rattle.std.specs.List.{All, list_all}
use Rattle.sq_lex.specs.Characters.{IsPrintable, quote, is_line_end, is_printable}
use Rattle.sq_lex.specs.Literal.{literal, after_quote, kept, with_character}
use Rattle.sq_lex.specs.Spelling.{doubled}
use Rattle.sq_lex.specs.declared.literal.Literal.{Literal}
use Rattle.sq_lex.specs.declared.literal.Literal.TheVariants.{Closed, Open, BadByte}

-- the first `size` bytes after an opening quote are these characters, and no more bytes are any
pub record IsRead (bytes cs : List ℕ) (size : ℕ) : Type 0 where
  pub ends : take size bytes ≡ doubled cs ++ quote ∷ []
  pub each : list_all is_printable cs ≡ true
  pub longest : (ds : List ℕ) (n : ℕ) → n ≤ length bytes → take n bytes ≡ doubled ds ++ quote ∷ [] → n ≤ size

abbrev pub Says : List ℕ → Literal → Type 0
Says bytes (Closed cs size) = IsRead bytes cs size
Says bytes Open = Unit {0}
Says bytes (BadByte at) = Unit {0}

abbrev quoted : List ℕ → List ℕ
quoted ds = doubled ds ++ quote ∷ []

no_quote : (b d : ℕ) → b ≡ d → (b == quote) ≡ true → (d == quote) ≡ false → ⊥
no_quote b d same h f = let never : true ≡ false = sym h ∙ ap (λ x. x == quote) same ∙ f in cc

-- ---- a single quote closes

second_of : (d : ℕ) (ds : List ℕ) (b : Bool) → (d == quote) ≡ b → slice_index (quoted (d ∷ ds)) 0 ≡ quote → slice_index (quoted (d ∷ ds)) 1 ≡ quote
second_of d ds true e h = ap (λ b. slice_index (cond b (quote ∷ quote ∷ doubled ds) (d ∷ doubled ds) ++ quote ∷ []) 1) e
second_of d ds false e h =
    let same : d ≡ quote = sym (ap (λ b. slice_index (cond b (quote ∷ quote ∷ doubled ds) (d ∷ doubled ds) ++ quote ∷ []) 0) e) ∙ h in
    absurd (no_quote quote d (sym same) refl e)

second : (ds : List ℕ) → 2 ≤ length (quoted ds) → slice_index (quoted ds) 0 ≡ quote → slice_index (quoted ds) 1 ≡ quote
second [] some h = absurd (omega arith)
second (d ∷ ds) some h = second_of d ds (d == quote) refl h

one_quote : (b : ℕ) (rest : List ℕ) → (b == quote) ≡ true → (slice_index rest 0 == quote) ≡ false → (ds : List ℕ) (n : ℕ) → n ≤ suc (length rest) → take n (b ∷ rest) ≡ quoted ds → n ≤ 1
one_quote b rest q nq ds zero h e = omega arith
one_quote b [] q nq ds (suc n) h e = omega arith
one_quote b (c ∷ rest) q nq ds (suc zero) h e = omega arith
one_quote b (c ∷ rest) q nq ds (suc (suc n)) h e =
    let long : 2 ≤ length (quoted ds) = omega (arith, ap length e) in
    let front : slice_index (quoted ds) 0 ≡ quote = sym (ap (λ t. slice_index t 0) e) ∙ eqb-true b quote q in
    let next : c ≡ quote = ap (λ t. slice_index t 1) e ∙ second ds long front in
    absurd (no_quote quote c (sym next) refl nq)

closed : (b : ℕ) (rest : List ℕ) → (b == quote) ≡ true → (slice_index rest 0 == quote) ≡ false → IsRead (b ∷ rest) [] 1
closed b rest q nq = record {
  ends = ap (λ x. x ∷ []) (eqb-true b quote q);
  each = refl;
  longest = λ ds n h e. one_quote b rest q nq ds n h e;
}

-- ---- one character more

quoted_two : (d : ℕ) (ds : List ℕ) → (d == quote) ≡ true → quoted (d ∷ ds) ≡ quote ∷ quote ∷ quoted ds
quoted_two d ds e = ap (λ b. cond b (quote ∷ quote ∷ doubled ds) (d ∷ doubled ds) ++ quote ∷ []) e

quoted_one : (d : ℕ) (ds : List ℕ) → (d == quote) ≡ false → quoted (d ∷ ds) ≡ d ∷ quoted ds
quoted_one d ds e = ap (λ b. cond b (quote ∷ quote ∷ doubled ds) (d ∷ doubled ds) ++ quote ∷ []) e

two_by : (b c : ℕ) (more : List ℕ) (size d : ℕ) (ds : List ℕ) (n : ℕ) → (b == quote) ≡ true → (take n more ≡ quoted ds → n ≤ size) → b ∷ c ∷ take n more ≡ quoted (d ∷ ds) → (t : Bool) → (d == quote) ≡ t → n ≤ size
two_by b c more size d ds n q ih e true f = ih (ap (drop 2) (e ∙ quoted_two d ds f))
two_by b c more size d ds n q ih e false f = absurd (no_quote b d (ap (λ t. slice_index t 0) (e ∙ quoted_one d ds f)) q f)

two_longest : (b c : ℕ) (more : List ℕ) (size : ℕ) → (b == quote) ≡ true → ((ds : List ℕ) (n : ℕ) → n ≤ length more → take n more ≡ quoted ds → n ≤ size)
    → (ds : List ℕ) (n : ℕ) → n ≤ suc (suc (length more)) → take n (b ∷ c ∷ more) ≡ quoted ds → n ≤ suc (suc size)
two_longest b c more size q ih ds zero h e = omega arith
two_longest b c more size q ih ds (suc zero) h e = omega arith
two_longest b c more size q ih [] (suc (suc n)) h e = let none : c ∷ take n more ≡ [] = ap (drop 1) e in cc
two_longest b c more size q ih (d ∷ ds) (suc (suc n)) h e =
    let within : n ≤ length more = omega arith in
    let least = two_by b c more size d ds n q (ih ds n within) e (d == quote) refl in
    omega (arith, least)

one_by : (b : ℕ) (rest : List ℕ) (size d : ℕ) (ds : List ℕ) (n : ℕ) → (b == quote) ≡ false → (take n rest ≡ quoted ds → n ≤ size) → b ∷ take n rest ≡ quoted (d ∷ ds) → (t : Bool) → (d == quote) ≡ t → n ≤ size
one_by b rest size d ds n nq ih e true f = absurd (no_quote quote b (sym (ap (λ t. slice_index t 0) (e ∙ quoted_two d ds f))) refl nq)
one_by b rest size d ds n nq ih e false f = ih (ap (drop 1) (e ∙ quoted_one d ds f))

one_longest : (b : ℕ) (rest : List ℕ) (size : ℕ) → (b == quote) ≡ false → ((ds : List ℕ) (n : ℕ) → n ≤ length rest → take n rest ≡ quoted ds → n ≤ size)
    → (ds : List ℕ) (n : ℕ) → n ≤ suc (length rest) → take n (b ∷ rest) ≡ quoted ds → n ≤ suc size
one_longest b rest size nq ih ds zero h e = omega arith
one_longest b rest size nq ih [] (suc n) h e = absurd (no_quote quote b (sym (ap (λ t. slice_index t 0) e)) refl nq)
one_longest b rest size nq ih (d ∷ ds) (suc n) h e =
    let within : n ≤ length rest = omega arith in
    let least = one_by b rest size d ds n nq (ih ds n within) e (d == quote) refl in
    omega (arith, least)

two_said : (b c : ℕ) (more : List ℕ) → (b == quote) ≡ true → (c == quote) ≡ true → (l : Literal) → Says more l → Says (b ∷ c ∷ more) (with_character quote 2 l)
two_said b c more q r (Closed cs size) read =
    let two : 2 + size ≡ suc (suc size) = omega arith in
    record {
      ends = ap (λ k. take k (b ∷ c ∷ more)) two ∙ (λ i. eqb-true b quote q i ∷ eqb-true c quote r i ∷ read.ends i);
      each = read.each;
      longest = λ ds n h e. let least = two_longest b c more size q read.longest ds n h e in omega (arith, least);
    }
two_said b c more q r Open read = tt {0}
two_said b c more q r (BadByte at) read = tt {0}

one_said : (b : ℕ) (rest : List ℕ) → (b == quote) ≡ false → is_printable b ≡ true → (l : Literal) → Says rest l → Says (b ∷ rest) (with_character b 1 l)
one_said b rest nq p (Closed cs size) read =
    let one : 1 + size ≡ suc size = omega arith in
    record {
      ends = ap (λ k. take k (b ∷ rest)) one ∙ ap (λ t. b ∷ t) read.ends ∙ sym (quoted_one b cs nq);
      each = ap (λ x. x && list_all is_printable cs) p ∙ read.each;
      longest = λ ds n h e. let least = one_longest b rest size nq read.longest ds n h e in omega (arith, least);
    }
one_said b rest nq p Open read = tt {0}
one_said b rest nq p (BadByte at) read = tt {0}

-- ---- a whole literal

plain_said : (b : ℕ) (rest : List ℕ) → (b == quote) ≡ false → Says rest (literal rest) → Says (b ∷ rest) (cond (is_line_end b) Open (cond (is_printable b) (with_character b 1 (literal rest)) (BadByte 0)))
plain_said b rest nq read =
    cond_both (is_line_end b) Open (cond (is_printable b) (with_character b 1 (literal rest)) (BadByte 0)) (Says (b ∷ rest)) (λ end. tt {0})
    (λ on. cond_both (is_printable b) (with_character b 1 (literal rest)) (BadByte 0) (Says (b ∷ rest)) (λ p. one_said b rest nq p (literal rest) read) (λ bad. tt {0}))

pub said : (bytes : List ℕ) → Says bytes (literal bytes)
said [] = tt {0}
said (b ∷ []) =
    cond_both (b == quote) (Closed [] 1) (cond (is_line_end b) Open (cond (is_printable b) (with_character b 1 (literal [])) (BadByte 0))) (Says (b ∷ []))
    (λ q. closed b [] q refl) (λ nq. plain_said b [] nq (tt {0}))
said (b ∷ c ∷ more) =
    cond_both (b == quote) (after_quote (c ∷ more)) (cond (is_line_end b) Open (cond (is_printable b) (with_character b 1 (literal (c ∷ more))) (BadByte 0))) (Says (b ∷ c ∷ more))
    (λ q. cond_both (c == quote) (with_character quote 2 (literal more)) (Closed [] 1) (Says (b ∷ c ∷ more)) (λ r. two_said b c more q r (literal more) (said more)) (λ nr. closed b (c ∷ more) q nr))
    (λ nq. plain_said b (c ∷ more) nq (said (c ∷ more)))

-- ---- the characters that are kept print

printed : (c : ℕ) → is_printable c ≡ true → IsPrintable c
printed c h = (grind (arith, nat_tests), grind (arith, nat_tests))

abbrev characters_of : Literal → List ℕ
characters_of (Closed cs size) = cs
characters_of Open = []
characters_of (BadByte at) = []

kept_print_of : (bytes : List ℕ) (l : Literal) → Says bytes l → All IsPrintable (characters_of (kept l))
kept_print_of bytes (Closed cs size) read = All-take IsPrintable 241 cs (λ k d within. printed _ (AllPass-from_list_all is_printable cs read.each k d within))
kept_print_of bytes Open read = λ k d within. absurd (omega (arith, within))
kept_print_of bytes (BadByte at) read = λ k d within. absurd (omega (arith, within))

pub kept_print : (bytes characters : List ℕ) (size : ℕ) → Closed characters size ≡ kept (literal bytes) → All IsPrintable characters
kept_print bytes characters size e = subst (All IsPrintable) (sym (ap characters_of e)) (kept_print_of bytes (literal bytes) (said bytes))
