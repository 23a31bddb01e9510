-- An item ends behind the first token of its text that is a semicolon.
use Rattle.std.proofs.Common.{◌≡◌, ℕ, zero, suc, ◌+◌, ◌-◌, ◌<◌, ◌==◌, ◌&&◌, ◌||◌, Bool, true, false, cond, List, [], ◌∷◌, ◌++◌, length, take, drop, refl, sym, ap, subst, ◌∙◌, arith, inl, inr, ◌⊎◌, Option, Some, None, Result, Ok, Err}
use Rattle.std.proofs.lemmas.Bool.{and_parts, cond_both, or_from, eqb-true}
use Rattle.std.specs.Prelude.{slice_index}
use Rattle.std.specs.List.{list_all, prefix_len}
use Rattle.std.specs.Option.{option_map}
use Rattle.std.specs.Char.{is_ascii_digit}
use Rattle.sq_lex.specs.Characters.{point, quote, minus, has, is_white, is_printable}
use Rattle.sq_lex.specs.Name.{IsWordSpelling}
use Rattle.sq_lex.specs.Number.{IsNumberSpelling}
use Rattle.sq_lex.specs.Piece.{begins_comment, comment, first_piece}
use Rattle.sq_lex.specs.Position.{next, start}
use Rattle.sq_lex.specs.Reading.{followed, reading, token_at, tokens_from, with_piece}
use Rattle.sq_lex.specs.Spelling.{IsComment, IsSpelled, IsSpelling, IsTextSpelling, doubled, symbol_codes}
use Rattle.sq_lex.specs.declared.characters.Class.TheVariants as class
use Rattle.sq_lex.specs.declared.fault.LexFault.{LexFault}
use Rattle.sq_lex.specs.declared.fault.LexFaultKind.TheVariants as fault
use Rattle.sq_lex.specs.declared.lexeme.Lexeme.{Lexeme}
use Rattle.sq_lex.specs.declared.lexeme.Lexeme.TheVariants as lexeme
use Rattle.sq_lex.specs.declared.piece.Piece.{Piece}
use Rattle.sq_lex.specs.declared.piece.Piece.TheVariants as piece
use Rattle.sq_lex.specs.declared.position.Position.{Position}
use Rattle.sq_lex.specs.declared.symbol.Symbol.{Symbol}
use Rattle.sq_lex.specs.declared.symbol.Symbol.TheVariants as symbol
use Rattle.sq_lex.specs.declared.token.Token.{Token}
use Rattle.sq_lex.proofs.Longest.{piece_is_spelled}
use Rattle.sq_show.specs.Item.{after, begun_by, ends, is_end, item_size, lexed_size, size_from}
use Rattle.sq_show.specs.declared.item.Inside.{Inside}
use Rattle.sq_show.specs.declared.item.Inside.TheVariants.{Neither, Minus, Text, Comment}

-- The first n bytes end apart item, and what is behind them is as if it stood outside of literals and comments.
abbrev Passes : ℕ → Inside → List ℕ → Type 0
Passes zero inside bytes = size_from inside bytes ≡ size_from Neither bytes
Passes (suc n) inside [] = Unit {0}
Passes (suc n) inside (b ∷ bytes) = (ends inside b ≡ false) × Passes n (after inside b) bytes

-- these bytes end apart item
abbrev Quiet : Inside → List ℕ → Type 0
Quiet inside [] = Unit {0}
Quiet inside (b ∷ bytes) = (ends inside b ≡ false) × Quiet (after inside b) bytes

-- where the byte behind these stands
abbrev state : Inside → List ℕ → Inside
state inside [] = inside
state inside (b ∷ bytes) = state (after inside b) bytes

passes_of : (n : ℕ) (inside : Inside) (bytes : List ℕ) → Quiet inside (take n bytes) → size_from (state inside (take n bytes)) (drop n bytes) ≡ size_from Neither (drop n bytes)
    → Passes n inside bytes
passes_of zero inside bytes quiet same = same
passes_of (suc n) inside [] quiet same = tt {0}
passes_of (suc n) inside (b ∷ bytes) (apart, quiet) same = (apart, passes_of n (after inside b) bytes quiet same)

-- ---- bytes of a class

differs_by : (p : ℕ → Bool) (c b : ℕ) (t : Bool) → p c ≡ false → p b ≡ true → (b == c) ≡ t → (b == c) ≡ false
differs_by p c b true apart holds e = let never : true ≡ false = sym holds ∙ ap p (eqb-true b c e) ∙ apart in cc
differs_by p c b false apart holds e = e

differs : (p : ℕ → Bool) (c b : ℕ) → p c ≡ false → p b ≡ true → (b == c) ≡ false
differs p c b apart holds = differs_by p c b (b == c) apart holds refl

no_and : (x : Bool) → (x && false) ≡ false
no_and true = refl
no_and false = refl

record Plain (b : ℕ) : Type 0 where
  no_end : ends Neither b ≡ false
  stays : after Neither b ≡ Neither

plain_by : (p : ℕ → Bool) → p 59 ≡ false → p 39 ≡ false → p 45 ≡ false → (b : ℕ) → p b ≡ true → Plain b
plain_by p s q m b holds = record {
  no_end = ap (λ t. t && true) (differs p 59 b s holds);
  stays = ap (λ t. cond t Text (cond (b == minus) Minus Neither)) (differs p 39 b q holds) ∙ ap (λ t. cond t Minus Neither) (differs p 45 b m holds);
}

passes_plain : (p : ℕ → Bool) → ((b : ℕ) → p b ≡ true → Plain b) → (n : ℕ) (bytes : List ℕ) → list_all p (take n bytes) ≡ true → Passes n Neither bytes
passes_plain p plain zero bytes all = refl
passes_plain p plain (suc n) [] all = tt {0}
passes_plain p plain (suc n) (b ∷ bytes) all =
    let both = and_parts (p b) (list_all p (take n bytes)) all in
    let here = plain b (both.0) in
    (here.no_end, subst (λ i. Passes n i bytes) (sym here.stays) (passes_plain p plain n bytes (both.1)))

-- ---- numbers

abbrev is_of_number : ℕ → Bool
is_of_number b = is_ascii_digit b || b == point

digits_are : (xs : List ℕ) → list_all (has class.Digit) xs ≡ true → list_all is_of_number xs ≡ true
digits_are [] all = refl
digits_are (x ∷ xs) all =
    let both = and_parts (has class.Digit x) (list_all (has class.Digit) xs) all in
    ap (λ t. (t || x == point) && list_all is_of_number xs) (both.0) ∙ digits_are xs (both.1)

joined : (w f : List ℕ) → list_all (has class.Digit) w ≡ true → list_all (has class.Digit) f ≡ true → list_all is_of_number (w ++ point ∷ f) ≡ true
joined [] f all others = digits_are f others
joined (x ∷ w) f all others =
    let both = and_parts (has class.Digit x) (list_all (has class.Digit) w) all in
    ap (λ t. (t || x == point) && list_all is_of_number (w ++ point ∷ f)) (both.0) ∙ joined w f (both.1) others

number_by : (bytes w f : List ℕ) → (bytes ≡ w ++ point ∷ f) ⊎ ((bytes ≡ w) × (f ≡ [])) → list_all (has class.Digit) w ≡ true → list_all (has class.Digit) f ≡ true
    → list_all is_of_number bytes ≡ true
number_by bytes w f (inl e) all others = ap (list_all is_of_number) e ∙ joined w f all others
number_by bytes w f (inr e) all others = ap (list_all is_of_number) (e.0) ∙ digits_are w all

number_passes : (n : ℕ) (bytes : List ℕ) → IsNumberSpelling (take n bytes) → Passes n Neither bytes
number_passes n bytes s =
    passes_plain is_of_number (plain_by is_of_number refl refl refl) n bytes (number_by (take n bytes) s.whole s.fraction s.spelled s.whole_digits s.fraction_digits)

-- ---- literals

abbrev InText : List ℕ → Type 0
InText bytes = Quiet Text bytes × (state Text bytes ≡ Neither)

text_more : (c : ℕ) (cs : List ℕ) (t : Bool) → (c == quote) ≡ t → is_printable c ≡ true → InText (doubled cs ++ quote ∷ []) → InText (doubled (c ∷ cs) ++ quote ∷ [])
text_more c cs true e printable rest =
    subst (λ t. InText (cond t (quote ∷ quote ∷ doubled cs) (c ∷ doubled cs) ++ quote ∷ [])) (sym e) ((refl, (refl, rest.0)), rest.1)
text_more c cs false e printable rest =
    let others = doubled cs ++ quote ∷ [] in
    let stays : after Text c ≡ Text =
    ap (λ t. cond t Neither Text) (or_from _ _ e (or_from _ _ (differs is_printable 13 c refl printable) (differs is_printable 10 c refl printable))) in
    subst (λ t. InText (cond t (quote ∷ quote ∷ doubled cs) (c ∷ doubled cs) ++ quote ∷ [])) (sym e)
    ((no_and (c == 59), subst (λ i. Quiet i others) (sym stays) (rest.0)), ap (λ i. state i others) stays ∙ rest.1)

in_text : (cs : List ℕ) → list_all is_printable cs ≡ true → InText (doubled cs ++ quote ∷ [])
in_text [] all = ((refl, tt {0}), refl)
in_text (c ∷ cs) all =
    let both = and_parts (is_printable c) (list_all is_printable cs) all in
    text_more c cs (c == quote) refl (both.0) (in_text cs (both.1))

text_passes : (n : ℕ) (bytes cs : List ℕ) → IsTextSpelling (take n bytes) cs → Passes n Neither bytes
text_passes n bytes cs s =
    let inside = in_text cs s.each in
    passes_of n Neither bytes (subst (Quiet Neither) (sym s.spelled) (refl, inside.0))
    (ap (λ i. size_from i (drop n bytes)) (ap (state Neither) s.spelled ∙ inside.1))

-- ---- symbols

symbol_passes : (pre : List ℕ) (n : ℕ) (bytes : List ℕ) → take n bytes ≡ pre → Quiet Neither pre → state Neither pre ≡ Neither → Passes n Neither bytes
symbol_passes pre n bytes e quiet back =
    passes_of n Neither bytes (subst (Quiet Neither) (sym e) quiet) (ap (λ i. size_from i (drop n bytes)) (ap (state Neither) e ∙ back))

behind_minus : (n : ℕ) (bytes : List ℕ) → take n bytes ≡ [] → (slice_index bytes 0 == minus) ≡ false → Passes n Minus bytes
behind_minus zero [] e apart = refl
behind_minus zero (c ∷ bytes) e apart = ap (λ t. cond (ends Neither c) (Some 1) (option_map (λ n. n + 1) (size_from (cond t Comment (begun_by c)) bytes))) apart
behind_minus (suc n) [] e apart = tt {0}
behind_minus (suc n) (c ∷ bytes) e apart = cc

minus_passes : (n : ℕ) (bytes : List ℕ) → take n bytes ≡ minus ∷ [] → begins_comment bytes ≡ false → Passes n Neither bytes
minus_passes zero bytes e apart = cc
minus_passes (suc n) [] e apart = tt {0}
minus_passes (suc n) (b ∷ bytes) e apart =
    let is : b ≡ minus = ap (λ t. slice_index t 0) e in
    let none : take n bytes ≡ [] = ap (drop 1) e in
    let other : (slice_index bytes 0 == minus) ≡ false = sym (ap (λ x. x == minus && slice_index bytes 0 == minus) is) ∙ apart in
    (ap (ends Neither) is, subst (λ i. Passes n i bytes) (sym (ap (after Neither) is)) (behind_minus n bytes none other))

symbol_law : (s : Symbol) (n : ℕ) (bytes : List ℕ) → take n bytes ≡ symbol_codes s → is_end (lexeme.Symbol s) ≡ false → begins_comment bytes ≡ false → Passes n Neither bytes
symbol_law symbol.Open n bytes e other apart = symbol_passes _ n bytes e (refl, tt {0}) refl
symbol_law symbol.Close n bytes e other apart = symbol_passes _ n bytes e (refl, tt {0}) refl
symbol_law symbol.Comma n bytes e other apart = symbol_passes _ n bytes e (refl, tt {0}) refl
symbol_law symbol.Semicolon n bytes e other apart = cc
symbol_law symbol.Dot n bytes e other apart = symbol_passes _ n bytes e (refl, tt {0}) refl
symbol_law symbol.Colon n bytes e other apart = symbol_passes _ n bytes e (refl, tt {0}) refl
symbol_law symbol.Star n bytes e other apart = symbol_passes _ n bytes e (refl, tt {0}) refl
symbol_law symbol.Plus n bytes e other apart = symbol_passes _ n bytes e (refl, tt {0}) refl
symbol_law symbol.Minus n bytes e other apart = minus_passes n bytes e apart
symbol_law symbol.Slash n bytes e other apart = symbol_passes _ n bytes e (refl, tt {0}) refl
symbol_law symbol.Equal n bytes e other apart = symbol_passes _ n bytes e (refl, tt {0}) refl
symbol_law symbol.NotEqual n bytes e other apart = symbol_passes _ n bytes e (refl, (refl, tt {0})) refl
symbol_law symbol.Less n bytes e other apart = symbol_passes _ n bytes e (refl, tt {0}) refl
symbol_law symbol.Greater n bytes e other apart = symbol_passes _ n bytes e (refl, tt {0}) refl
symbol_law symbol.LessOrEqual n bytes e other apart = symbol_passes _ n bytes e (refl, (refl, tt {0})) refl
symbol_law symbol.GreaterOrEqual n bytes e other apart = symbol_passes _ n bytes e (refl, (refl, tt {0})) refl

-- ---- comments

in_comment : (m : ℕ) (r : List ℕ) → list_all (has class.Comment) (take m r) ≡ true → (m ≡ length r) ⊎ (slice_index r m ≡ 10) → Passes m Comment r
in_comment zero [] all end = refl
in_comment zero (c ∷ r) all (inl e) = absurd (omega arith)
in_comment zero (c ∷ r) all (inr e) = subst (λ v. size_from Comment (v ∷ r) ≡ size_from Neither (v ∷ r)) (sym e) refl
in_comment (suc m) [] all end = tt {0}
in_comment (suc m) (c ∷ r) all end =
    let both = and_parts (has class.Comment c) (list_all (has class.Comment) (take m r)) all in
    let stays : after Comment c ≡ Comment = ap (λ t. cond t Neither Comment) (differs (has class.Comment) 10 c refl (both.0)) in
    (no_and (c == 59), subst (λ i. Passes m i r) (sym stays) (in_comment m r (both.1) (behind end)))
  where
    behind : (suc m ≡ length (c ∷ r)) ⊎ (slice_index (c ∷ r) (suc m) ≡ 10) → (m ≡ length r) ⊎ (slice_index r m ≡ 10)
    behind (inl e) = inl (omega arith)
    behind (inr e) = inr e

comment_passes : (m : ℕ) (r : List ℕ) → list_all (has class.Comment) (take m r) ≡ true → (m ≡ length r) ⊎ (slice_index r m ≡ 10) → Passes (suc (suc m)) Neither (45 ∷ 45 ∷ r)
comment_passes m r all end = (refl, (refl, in_comment m r all end))

or_either : (x y : Bool) → (x || y) ≡ true → (x ≡ true) ⊎ (y ≡ true)
or_either true y e = inl refl
or_either false y e = inr e

-- what is said of a comment of some bytes: it is no empty one, and it ends no item
comment_of : (n x y : ℕ) (r : List ℕ) → x ≡ 45 → y ≡ 45 → list_all (has class.Comment) (take n (x ∷ y ∷ r)) ≡ true
    → (n ≡ length (x ∷ y ∷ r)) ⊎ (slice_index (x ∷ y ∷ r) n ≡ 10) → (0 < n) × Passes n Neither (x ∷ y ∷ r)
comment_of zero x y r ex ey all (inl e) = absurd (omega arith)
comment_of zero x y r ex ey all (inr e) = let here : x ≡ 10 = e in absurd (omega arith)
comment_of (suc zero) x y r ex ey all (inl e) = absurd (omega arith)
comment_of (suc zero) x y r ex ey all (inr e) = let here : y ≡ 10 = e in absurd (omega arith)
comment_of (suc (suc m)) x y r ex ey all end =
    let both = and_parts (has class.Comment x) (has class.Comment y && list_all (has class.Comment) (take m r)) all in
    let others = and_parts (has class.Comment y) (list_all (has class.Comment) (take m r)) (both.1) in
    let concrete = comment_passes m r (others.1) (behind end) in
    (omega arith, subst (λ u. Passes (suc (suc m)) Neither (u ∷ y ∷ r)) (sym ex) (subst (λ v. Passes (suc (suc m)) Neither (45 ∷ v ∷ r)) (sym ey) concrete))
  where
    behind : (suc (suc m) ≡ length (x ∷ y ∷ r)) ⊎ (slice_index (x ∷ y ∷ r) (suc (suc m)) ≡ 10) → (m ≡ length r) ⊎ (slice_index r m ≡ 10)
    behind (inl e) = inl (omega arith)
    behind (inr e) = inr e

ended_by : (bytes : List ℕ) (n : ℕ) → (n == length bytes || slice_index bytes n == 10) ≡ true → (n ≡ length bytes) ⊎ (slice_index bytes n ≡ 10)
ended_by bytes n e = by (or_either (n == length bytes) (slice_index bytes n == 10) e)
  where
    by : ((n == length bytes) ≡ true) ⊎ ((slice_index bytes n == 10) ≡ true) → (n ≡ length bytes) ⊎ (slice_index bytes n ≡ 10)
    by (inl h) = inl (eqb-true n (length bytes) h)
    by (inr h) = inr (eqb-true (slice_index bytes n) 10 h)

comment_law : (bytes : List ℕ) (n : ℕ) → IsComment bytes n → (0 < n) × Passes n Neither bytes
comment_law [] n s = let never : false ≡ true = s.begun in cc
comment_law (x ∷ []) n s = let never : (x == 45 && false) ≡ true = s.begun in let other : true ≡ false = sym never ∙ no_and (x == 45) in cc
comment_law (x ∷ y ∷ r) n s =
    let both = and_parts (x == 45) (y == 45) s.begun in
    comment_of n x y r (eqb-true x 45 (both.0)) (eqb-true y 45 (both.1)) s.each (ended_by (x ∷ y ∷ r) n s.ended)

-- ---- tokens

word_passes : (n : ℕ) (bytes : List ℕ) → IsWordSpelling (take n bytes) → Passes n Neither bytes
word_passes n bytes s = passes_plain (has class.Word) (plain_by (has class.Word) refl refl refl) n bytes s.each

token_passes : (m : Lexeme) (n : ℕ) (bytes : List ℕ) → IsSpelling (take n bytes) m → is_end m ≡ false → begins_comment bytes ≡ false → Passes n Neither bytes
token_passes (lexeme.Word w) n bytes s other apart = word_passes n bytes (s.0)
token_passes (lexeme.Name w) n bytes s other apart = word_passes n bytes (s.0)
token_passes (lexeme.Number w) n bytes s other apart = number_passes n bytes (s.1)
token_passes (lexeme.Text cs) n bytes s other apart = text_passes n bytes cs s
token_passes (lexeme.Symbol t) n bytes s other apart = symbol_law t n bytes s other apart

-- no lexeme is spelled by nothing
nothing_number : (w f : List ℕ) → ([] ≡ w ++ point ∷ f) ⊎ (([] ≡ w) × (f ≡ [])) → 0 < length w + length f → ⊥
nothing_number [] f (inl e) some = cc
nothing_number (x ∷ w) f (inl e) some = cc
nothing_number w f (inr e) some = let a : 0 ≡ length w = ap length (e.0) in let b : length f ≡ 0 = ap length (e.1) in absurd (omega arith)

nothing_symbol : (t : Symbol) → [] ≡ symbol_codes t → ⊥
nothing_symbol symbol.Open e = cc
nothing_symbol symbol.Close e = cc
nothing_symbol symbol.Comma e = cc
nothing_symbol symbol.Semicolon e = cc
nothing_symbol symbol.Dot e = cc
nothing_symbol symbol.Colon e = cc
nothing_symbol symbol.Star e = cc
nothing_symbol symbol.Plus e = cc
nothing_symbol symbol.Minus e = cc
nothing_symbol symbol.Slash e = cc
nothing_symbol symbol.Equal e = cc
nothing_symbol symbol.NotEqual e = cc
nothing_symbol symbol.Less e = cc
nothing_symbol symbol.Greater e = cc
nothing_symbol symbol.LessOrEqual e = cc
nothing_symbol symbol.GreaterOrEqual e = cc

nothing : (m : Lexeme) → IsSpelling [] m → ⊥
nothing (lexeme.Word w) s = let never : false ≡ true = (s.0).letter in cc
nothing (lexeme.Name w) s = let never : false ≡ true = (s.0).letter in cc
nothing (lexeme.Number w) s = nothing_number (s.1).whole (s.1).fraction (s.1).spelled (s.1).some
nothing (lexeme.Text cs) s = let never = s.spelled in cc
nothing (lexeme.Symbol t) s = nothing_symbol t s

token_some : (m : Lexeme) (n : ℕ) (bytes : List ℕ) → IsSpelling (take n bytes) m → 0 < n
token_some m zero bytes s = absurd (nothing m s)
token_some m (suc n) bytes s = omega arith

-- the semicolon is the first byte of its token
end_first : (n b : ℕ) (bytes : List ℕ) → take n (b ∷ bytes) ≡ 59 ∷ [] → b ≡ 59
end_first zero b bytes e = cc
end_first (suc n) b bytes e = ap (λ t. slice_index t 0) e

end_symbol : (t : Symbol) (n b : ℕ) (bytes : List ℕ) → take n (b ∷ bytes) ≡ symbol_codes t → is_end (lexeme.Symbol t) ≡ true → b ≡ 59
end_symbol symbol.Open n b bytes e end = cc
end_symbol symbol.Close n b bytes e end = cc
end_symbol symbol.Comma n b bytes e end = cc
end_symbol symbol.Semicolon n b bytes e end = end_first n b bytes e
end_symbol symbol.Dot n b bytes e end = cc
end_symbol symbol.Colon n b bytes e end = cc
end_symbol symbol.Star n b bytes e end = cc
end_symbol symbol.Plus n b bytes e end = cc
end_symbol symbol.Minus n b bytes e end = cc
end_symbol symbol.Slash n b bytes e end = cc
end_symbol symbol.Equal n b bytes e end = cc
end_symbol symbol.NotEqual n b bytes e end = cc
end_symbol symbol.Less n b bytes e end = cc
end_symbol symbol.Greater n b bytes e end = cc
end_symbol symbol.LessOrEqual n b bytes e end = cc
end_symbol symbol.GreaterOrEqual n b bytes e end = cc

end_begins : (m : Lexeme) (n b : ℕ) (bytes : List ℕ) → IsSpelling (take n (b ∷ bytes)) m → is_end m ≡ true → b ≡ 59
end_begins (lexeme.Word w) n b bytes s end = cc
end_begins (lexeme.Name w) n b bytes s end = cc
end_begins (lexeme.Number w) n b bytes s end = cc
end_begins (lexeme.Text cs) n b bytes s end = cc
end_begins (lexeme.Symbol t) n b bytes s end = end_symbol t n b bytes s end

-- ---- a piece, and what is behind it

-- the size, counted from a byte on
abbrev from : ℕ → Option ℕ → Option ℕ
from at size = option_map (λ n. at + n) size

later : (at : ℕ) (size : Option ℕ) → from at (option_map (λ n. n + 1) size) ≡ from (at + 1) size
later at None = refl
later at (Some n) = let same : at + (n + 1) ≡ at + 1 + n = omega arith in ap Some same

moved : (at : ℕ) (inside : Inside) (b : ℕ) (bytes : List ℕ) → ends inside b ≡ false → from at (size_from inside (b ∷ bytes)) ≡ from (at + 1) (size_from (after inside b) bytes)
moved at inside b bytes apart =
    let rest = size_from (after inside b) bytes in
    ap (λ t. from at (cond t (Some 1) (option_map (λ n. n + 1) rest))) apart ∙ later at rest

-- what is to be shown of the bytes behind one
abbrev Behind : Position → ℕ → List ℕ → Type 0
Behind position b bytes = (n : ℕ) (inside : Inside) (tokens : List Token) → Passes n inside bytes → tokens_from (next position b) n bytes ≡ Ok tokens
    → from (position.byte + 1) (size_from inside bytes) ≡ lexed_size tokens

go_on : (position : Position) (b : ℕ) (bytes : List ℕ) (size : ℕ) (tokens : List Token) → (0 < size) × Passes size Neither (b ∷ bytes)
    → tokens_from (next position b) (size - 1) bytes ≡ Ok tokens → Behind position b bytes → from position.byte (size_from Neither (b ∷ bytes)) ≡ lexed_size tokens
go_on position b bytes zero tokens (some, passes) read behind = absurd (omega arith)
go_on position b bytes (suc k) tokens (some, (apart, passes)) read behind =
    let less : suc k - 1 ≡ k = omega arith in
    moved position.byte Neither b bytes apart
    ∙ behind k (after Neither b) tokens passes (sym (ap (λ n. tokens_from (next position b) n bytes) less) ∙ read)

-- the tokens behind one that was read
record Follows (token : Token) (rest : Result (List Token) LexFault) (tokens : List Token) : Type 0 where
  more : List Token
  read : rest ≡ Ok more
  all : tokens ≡ token ∷ more

followed_ok : (token : Token) (rest : Result (List Token) LexFault) (tokens : List Token) → followed (token ∷ []) rest ≡ Ok tokens → Follows token rest tokens
followed_ok token (Ok more) tokens e = record { more = more; read = refl; all = cc }
followed_ok token (Err fault) tokens e = cc

by_token : (position : Position) (b : ℕ) (bytes : List ℕ) (size : ℕ) (m : Lexeme) (tokens : List Token) (t : Bool) → is_end m ≡ t → IsSpelling (take size (b ∷ bytes)) m
    → begins_comment (b ∷ bytes) ≡ false → Follows (token_at position m) (tokens_from (next position b) (size - 1) bytes) tokens → Behind position b bytes
    → from position.byte (size_from Neither (b ∷ bytes)) ≡ lexed_size tokens
by_token position b bytes size m tokens true end s apart follows behind =
    ap (λ c. from position.byte (size_from Neither (c ∷ bytes))) (end_begins m size b bytes s end)
    ∙ sym (ap (λ t. cond t (Some (position.byte + 1)) (lexed_size follows.more)) end) ∙ sym (ap lexed_size follows.all)
by_token position b bytes size m tokens false end s apart follows behind =
    go_on position b bytes size follows.more (token_some m size (b ∷ bytes) s, token_passes m size (b ∷ bytes) s end apart) follows.read behind
    ∙ sym (ap (λ t. cond t (Some (position.byte + 1)) (lexed_size follows.more)) end) ∙ sym (ap lexed_size follows.all)

white_law : (b : ℕ) (bytes : List ℕ) (size : ℕ) → is_white b ≡ true → size ≡ 1 → (0 < size) × Passes size Neither (b ∷ bytes)
white_law b bytes size white e =
    let plain = plain_by is_white refl refl refl b white in
    let one : Passes 1 Neither (b ∷ bytes) = (plain.no_end, ap (λ i. size_from i bytes) plain.stays) in
    (omega arith, subst (λ n. Passes n Neither (b ∷ bytes)) (sym e) one)

-- no token begins as a comment does
abbrev IsToken : Piece → Type 0
IsToken (piece.Separator size) = ⊥
IsToken (piece.Token size m) = Unit {0}
IsToken (piece.Fault at kind) = ⊥

comment_none : (bytes : List ℕ) → IsToken (comment bytes) → ⊥
unfolding comment
comment_none bytes =
    let size = prefix_len (has class.Comment) bytes in
    cond_both (size == length bytes || slice_index bytes size == 10) (piece.Separator size) (piece.Fault size fault.BadByte) (λ p. IsToken p → ⊥) (λ e h. h) (λ e h. h)

minus_none : (bytes : List ℕ) → slice_index bytes 0 ≡ 45 → begins_comment bytes ≡ true → IsToken (first_piece bytes) → ⊥
unfolding first_piece
minus_none bytes head begun =
    let P : Piece → Type 0 = λ p. IsToken p → ⊥ in
    cond_both (is_white (slice_index bytes 0)) (piece.Separator 1) _ P (λ w h. h)
    (λ w. cond_both (begins_comment bytes) (comment bytes) _ P (λ c. comment_none bytes) (λ c h. let never : true ≡ false = sym begun ∙ c in cc))

comment_no_token : (b : ℕ) (bytes : List ℕ) (size : ℕ) (m : Lexeme) (t : Bool) → begins_comment (b ∷ bytes) ≡ t → first_piece (b ∷ bytes) ≡ piece.Token size m
    → begins_comment (b ∷ bytes) ≡ false
comment_no_token b bytes size m true e is =
    let both = and_parts (b == 45) (slice_index bytes 0 == 45) e in
    absurd (minus_none (b ∷ bytes) (eqb-true b 45 (both.0)) e (subst IsToken (sym is) (tt {0})))
comment_no_token b bytes size m false e is = e

by_piece : (position : Position) (b : ℕ) (bytes : List ℕ) (tokens : List Token) (p : Piece) → first_piece (b ∷ bytes) ≡ p
    → with_piece position (b ∷ bytes) p (λ size. tokens_from (next position b) (size - 1) bytes) ≡ Ok tokens → Behind position b bytes
    → from position.byte (size_from Neither (b ∷ bytes)) ≡ lexed_size tokens
by_piece position b bytes tokens (piece.Separator size) is read behind =
    go_on position b bytes size tokens (separated (subst (IsSpelled (b ∷ bytes)) is (piece_is_spelled (b ∷ bytes)))) read behind
  where
    separated : IsSpelled (b ∷ bytes) (piece.Separator size) → (0 < size) × Passes size Neither (b ∷ bytes)
    separated (inl w) = white_law b bytes size (w.0) (w.1)
    separated (inr c) = comment_law (b ∷ bytes) size c
by_piece position b bytes tokens (piece.Token size m) is read behind =
    let spelled = subst (IsSpelled (b ∷ bytes)) is (piece_is_spelled (b ∷ bytes)) in
    by_token position b bytes size m tokens (is_end m) refl spelled.spelled (comment_no_token b bytes size m (begins_comment (b ∷ bytes)) refl is)
    (followed_ok (token_at position m) (tokens_from (next position b) (size - 1) bytes) tokens read) behind
by_piece position b bytes tokens (piece.Fault at kind) is read behind = cc

ends_from : (bytes : List ℕ) (position : Position) (left : ℕ) (inside : Inside) (tokens : List Token) → Passes left inside bytes → tokens_from position left bytes ≡ Ok tokens
    → from position.byte (size_from inside bytes) ≡ lexed_size tokens
ends_from [] position zero inside tokens passes read = let same : [] ≡ tokens = cc in ap lexed_size same
ends_from [] position (suc left) inside tokens passes read = let same : [] ≡ tokens = cc in ap lexed_size same
ends_from (b ∷ bytes) position (suc left) inside tokens passes read =
    moved position.byte inside b bytes (passes.0) ∙ ends_from bytes (next position b) left (after inside b) tokens (passes.1) read
ends_from (b ∷ bytes) position zero inside tokens passes read =
    ap (from position.byte) passes
    ∙ by_piece position b bytes tokens (first_piece (b ∷ bytes)) refl read (λ n i ts p r. ends_from bytes (next position b) n i ts p r)

from_start : (size : Option ℕ) → from 0 size ≡ size
from_start None = refl
from_start (Some n) = let same : 0 + n ≡ n = omega arith in ap Some same

-- In a text that has tokens, the item's size is where the first semicolon among them ends.
pub ends_where_lexed : (text : List ℕ) (tokens : List Token) → reading text ≡ Ok tokens → item_size text ≡ lexed_size tokens
unfolding reading
ends_where_lexed text tokens read = sym (from_start (item_size text)) ∙ ends_from text start 0 Neither tokens refl read
