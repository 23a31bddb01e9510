-- A literal, some of whose characters are read already.
use Rattle.std.proofs.Common.{◌≡◌, ℕ, zero, suc, ◌+◌, ◌-◌, ◌<◌, ◌≤◌, List, [], ◌∷◌, ◌++◌, length, take, refl, ap, sym, ◌∙◌, arith, append_assoc, add_assoc}
use Rattle.std.proofs.Common.{Bool, true, false, cond, get_or, drop, drop-cons, add-one}
use Rattle.std.proofs.lemmas.Bool.{lt-ltb, ltb-true, ltb-false, ne_eqb}
use Rattle.std.proofs.lemmas.List.{append-nil, length-append, length-take-le, take-append-le, get_or-drop}
use Rattle.std.proofs.Math.ListN.{drop_of_length-le}
use Rattle.std.proofs.Math.Nat.{add-zero}
use Rattle.std.specs.Prelude.{nat_lt}
use Rattle.sq_lex.specs.declared.fault.LexFaultKind.TheVariants as fault
use Rattle.sq_lex.specs.declared.lexeme.Lexeme.TheVariants as lexeme
use Rattle.sq_lex.specs.declared.piece.Piece.TheVariants as piece
use Rattle.sq_lex.specs.Piece.{piece_of_literal}
use Rattle.sq_lex.specs.declared.literal.Literal.{Literal}
use Rattle.sq_lex.specs.declared.literal.Literal.TheVariants.{Closed, Open, BadByte}
use Rattle.sq_lex.specs.Characters.{quote, is_line_end, is_printable}
use Rattle.sq_lex.specs.Literal.{literal, after_quote, with_character, kept, kept_characters}

-- characters, with their length in bytes, before the rest of a literal
abbrev pub joined : List ℕ → ℕ → Literal → Literal
joined characters spelled (Closed more size) = Closed (characters ++ more) (spelled + size)
joined characters spelled Open = Open
joined characters spelled (BadByte at) = BadByte (spelled + at)

pub joined-nil : (rest : Literal) → joined [] 0 rest ≡ rest
joined-nil (Closed more size) = search arith
joined-nil Open = refl
joined-nil (BadByte at) = search arith

pub joined_more : (characters : List ℕ) (spelled character size : ℕ) (rest : Literal) → joined characters spelled (with_character character size rest) ≡ joined (characters ++ character ∷ []) (spelled + size) rest
joined_more characters spelled character size (Closed more n) = λ i. Closed (sym (append_assoc characters (character ∷ []) more) i) (sym (add_assoc spelled size n) i)
joined_more characters spelled character size Open = refl
joined_more characters spelled character size (BadByte at) = ap BadByte (sym (add_assoc spelled size at))

-- ---- the characters that are kept

take-take : (n : ℕ) (xs ys : List ℕ) → take n (take n xs ++ ys) ≡ take n (xs ++ ys)
take-take zero xs ys = refl
take-take (suc n) [] ys = refl
take-take (suc n) (x ∷ xs) ys = ap (λ t. x ∷ t) (take-take n xs ys)

-- characters of which the first are kept, before the rest of a literal
kept-joined : (characters : List ℕ) (spelled : ℕ) (rest : Literal) → kept (joined (kept_characters characters) spelled rest) ≡ kept (joined characters spelled rest)
kept-joined characters spelled (Closed more size) = ap (λ cs. Closed cs (spelled + size)) (take-take 241 characters more)
kept-joined characters spelled Open = refl
kept-joined characters spelled (BadByte at) = refl

pub kept_more : (characters new : List ℕ) (spelled character size : ℕ) (rest : Literal) → new ≡ kept_characters (characters ++ character ∷ [])
    → kept (joined characters spelled (with_character character size rest)) ≡ kept (joined new (spelled + size) rest)
kept_more characters new spelled character size rest is =
    ap kept (joined_more characters spelled character size rest)
    ∙ sym (kept-joined (characters ++ character ∷ []) (spelled + size) rest)
    ∙ ap (λ cs. kept (joined cs (spelled + size) rest)) (sym is)

pub take-all : (n : ℕ) (xs : List ℕ) → length xs ≤ n → take n xs ≡ xs
take-all zero [] short = refl
take-all zero (x ∷ xs) short = absurd (omega (arith, short))
take-all (suc n) [] short = refl
take-all (suc n) (x ∷ xs) short = ap (λ t. x ∷ t) (take-all n xs (omega (arith, short)))

pub after_first : (bytes : List ℕ) → take (length bytes - 1) (drop 1 bytes) ≡ drop 1 bytes
after_first [] = refl
after_first (b ∷ bytes) = take-all (suc (length bytes) - 1) bytes (omega arith)

pub kept_short : (characters : List ℕ) (character : ℕ) → length characters < 241 → characters ++ character ∷ [] ≡ kept_characters (characters ++ character ∷ [])
kept_short characters character short = sym (take-all 241 (characters ++ character ∷ []) (omega (arith, length-append characters (character ∷ []), short)))

pub kept_full : (characters : List ℕ) (character : ℕ) → 241 ≤ length characters → length characters ≤ 241 → characters ≡ kept_characters (characters ++ character ∷ [])
kept_full characters character full short = sym (take-append-le 241 characters (character ∷ []) full ∙ take-all 241 characters short)

-- at the closing quote all that is kept is the literal's
pub kept_closed : (characters : List ℕ) (spelled size : ℕ) → length characters ≤ 241 → kept (joined characters spelled (Closed [] size)) ≡ Closed characters (spelled + size)
kept_closed characters spelled size short = ap (λ cs. Closed cs (spelled + size)) (ap (take 241) (append-nil characters) ∙ take-all 241 characters short)

-- what is kept tells the piece
longer : (characters : List ℕ) → 240 < length characters → 240 < length (kept_characters characters)
longer characters long = let size = length-take-le 241 characters (omega (arith, long)) in omega (arith, size)

piece_of_long : (characters : List ℕ) (size : ℕ) → nat_lt 240 (length characters) ≡ true → piece_of_literal (Closed characters size) ≡ piece.Fault 0 fault.LongText
piece_of_long characters size long = ap (λ b. cond b (piece.Fault 0 fault.LongText) (piece.Token (1 + size) (lexeme.Text characters))) long

piece_by : (characters : List ℕ) (size : ℕ) (long : Bool) → nat_lt 240 (length characters) ≡ long → piece_of_literal (kept (Closed characters size)) ≡ piece_of_literal (Closed characters size)
piece_by characters size true h =
    piece_of_long (kept_characters characters) size (lt-ltb 240 (length (kept_characters characters)) (longer characters (ltb-true 240 (length characters) h)))
    ∙ sym (piece_of_long characters size h)
piece_by characters size false h =
    let short = ltb-false 240 (length characters) h in
    ap (λ cs. piece_of_literal (Closed cs size)) (take-all 241 characters (omega (arith, short)))

pub piece_of_kept : (l : Literal) → piece_of_literal (kept l) ≡ piece_of_literal l
piece_of_kept (Closed characters size) = piece_by characters size (nat_lt 240 (length characters)) refl
piece_of_kept Open = refl
piece_of_kept (BadByte at) = refl

-- ---- a literal by its first bytes

literal-plain : (b : ℕ) (bytes : List ℕ) → (b ≡ quote → ⊥) → is_line_end b ≡ false → is_printable b ≡ true → literal (b ∷ bytes) ≡ with_character b 1 (literal bytes)
literal-plain b bytes nq nl p =
    ap (λ t. cond t (after_quote bytes) (cond (is_line_end b) Open (cond (is_printable b) (with_character b 1 (literal bytes)) (BadByte 0)))) (ne_eqb b quote nq)
    ∙ ap (λ t. cond t Open (cond (is_printable b) (with_character b 1 (literal bytes)) (BadByte 0))) nl
    ∙ ap (λ t. cond t (with_character b 1 (literal bytes)) (BadByte 0)) p

literal-two : (b c : ℕ) (bytes : List ℕ) → b ≡ quote → c ≡ quote → literal (b ∷ c ∷ bytes) ≡ with_character b 2 (literal bytes)
literal-two b c bytes is also = (λ i. literal (is i ∷ also i ∷ bytes)) ∙ ap (λ q. with_character q 2 (literal bytes)) (sym is)

closes : (bytes : List ℕ) → (get_or bytes 0 0 ≡ quote → ⊥) → after_quote bytes ≡ Closed [] 1
closes [] nq = refl
closes (b ∷ bytes) nq = ap (λ t. cond t (with_character quote 2 (literal bytes)) (Closed [] 1)) (ne_eqb b quote nq)

-- a character that is not a quote joins those that are kept
pub step_plain : (bytes characters new : List ℕ) (size after : ℕ) → size < length bytes → (get_or bytes size 0 ≡ quote → ⊥) → is_line_end (get_or bytes size 0) ≡ false → is_printable (get_or bytes size 0) ≡ true
    → new ≡ kept_characters (characters ++ get_or bytes size 0 ∷ []) → after ≡ suc size → kept (joined new after (literal (drop after bytes))) ≡ kept (joined characters size (literal (drop size bytes)))
step_plain bytes characters new size after lt nq nl p is at =
    ap (λ n. kept (joined new n (literal (drop n bytes)))) at
    ∙ ap (λ n. kept (joined new n (literal (drop (suc size) bytes)))) (sym (add-one size))
    ∙ sym (kept_more characters new size (get_or bytes size 0) 1 (literal (drop (suc size) bytes)) is)
    ∙ ap (λ l. kept (joined characters size l)) (sym (ap literal (drop-cons bytes size 0 lt) ∙ literal-plain (get_or bytes size 0) (drop (suc size) bytes) nq nl p))

-- two quotes are one character
pub step_two : (bytes characters new : List ℕ) (size after : ℕ) → size < length bytes → suc size < length bytes → get_or bytes size 0 ≡ quote → get_or bytes (suc size) 0 ≡ quote
    → new ≡ kept_characters (characters ++ get_or bytes size 0 ∷ []) → after ≡ suc (suc size) → kept (joined new after (literal (drop after bytes))) ≡ kept (joined characters size (literal (drop size bytes)))
step_two bytes characters new size after lt some one two is at =
    let both : drop size bytes ≡ get_or bytes size 0 ∷ get_or bytes (suc size) 0 ∷ drop (suc (suc size)) bytes = drop-cons bytes size 0 lt ∙ ap (λ t. get_or bytes size 0 ∷ t) (drop-cons bytes (suc size) 0 some) in
    let sum : size + 2 ≡ suc (suc size) = omega arith in
    ap (λ n. kept (joined new n (literal (drop n bytes)))) at
    ∙ ap (λ n. kept (joined new n (literal (drop (suc (suc size)) bytes)))) (sym sum)
    ∙ sym (kept_more characters new size (get_or bytes size 0) 2 (literal (drop (suc (suc size)) bytes)) is)
    ∙ ap (λ l. kept (joined characters size l)) (sym (ap literal both ∙ literal-two (get_or bytes size 0) (get_or bytes (suc size) 0) (drop (suc (suc size)) bytes) one two))

pub past_end : (bytes : List ℕ) (n : ℕ) → length bytes ≤ n → get_or bytes n 0 ≡ quote → ⊥
past_end bytes n past q =
    let none : get_or bytes n 0 ≡ 0 = ap (λ k. get_or bytes k 0) (sym (add-zero n)) ∙ sym (get_or-drop n bytes 0 0) ∙ ap (λ t. get_or t 0 0) (drop_of_length-le bytes past) in
    let zero_is : 0 ≡ 39 = sym none ∙ q in
    omega (arith, zero_is)

-- a quote with no second one behind it ends the literal
pub ends : (bytes characters : List ℕ) (size : ℕ) → size < length bytes → length characters ≤ 241 → get_or bytes size 0 ≡ quote → (get_or bytes (suc size) 0 ≡ quote → ⊥)
    → Closed characters (size + 1) ≡ kept (joined characters size (literal (drop size bytes)))
ends bytes characters size lt short one nq =
    let next : get_or (drop (suc size) bytes) 0 0 ≡ get_or bytes (suc size) 0 = get_or-drop (suc size) bytes 0 0 ∙ ap (λ n. get_or bytes n 0) (add-zero (suc size)) in
    let last : literal (drop size bytes) ≡ Closed [] 1 = ap literal (drop-cons bytes size 0 lt) ∙ (λ i. literal (one i ∷ drop (suc size) bytes)) ∙ closes (drop (suc size) bytes) (λ q. nq (sym next ∙ q)) in
    sym (kept_closed characters size 1 short) ∙ ap (λ l. kept (joined characters size l)) (sym last)
