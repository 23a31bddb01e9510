-- The position of a byte, from that of another one.
use Rattle.std.proofs.Common.{◌≡◌, ◌∙◌, ◌==◌, ℕ, zero, suc, ◌+◌, ◌-◌, ◌<◌, ◌≤◌, ◌^◌, Bool, true, false, if◌then◌else◌, List, [], ◌∷◌, length, take, take_all, drop, ◌++◌, refl, ap, ap₂, sym, arith, length-drop}
use Rattle.std.proofs.Math.Seq.{take-add}
use Rattle.std.proofs.lemmas.Bool.{eqb-true}
use Rattle.sq_lex.specs.Characters.{line_feed}
use Rattle.sq_lex.specs.Position.{next, past, position, start}
use Rattle.sq_lex.specs.declared.position.Position.{Position}
use Rattle.sq_perform.specs.Checked.{further}

past_append : (p : Position) (xs ys : List ℕ) → past p (xs ++ ys) ≡ past (past p xs) ys
past_append p [] ys = refl
past_append p (x ∷ xs) ys = past_append (next p x) xs ys

-- the position behind further bytes
position_further : (text : List ℕ) (byte size : ℕ) → past (position text byte) (take size (drop byte text)) ≡ position text (byte + size)
position_further text byte size = sym (ap (past start) (take-add byte size text) ∙ past_append start (take byte text) (take size (drop byte text)))

lent : (text : List ℕ) (byte : ℕ) → take (length text - byte) (drop byte text) ≡ drop byte text
lent text byte = take_all (length text - byte) (drop byte text) (let n = length-drop byte text in omega (arith, n))

same_position : (p q : Position) → p.byte ≡ q.byte → p.line ≡ q.line → p.column ≡ q.column → p ≡ q
same_position p q b l c = λ i. record { byte = b i; line = l i; column = c i }

-- a column, where this is so of the line feed and of the first line
column_next : (from by : ℕ) (is_feed is_first : Bool) → 1 ≤ by
    → (if is_first then from + ((by + 1) - 1) else by + 1) ≡ (if is_first then from + (by - 1) else by) + 1
column_next from by is_feed true some = omega arith
column_next from by is_feed false some = refl

not_first : (n : ℕ) → 1 ≤ n → (n + 1 == 1) ≡ false
not_first n some = go (n + 1 == 1) refl
  where
    go : (b : Bool) → (n + 1 == 1) ≡ b → (n + 1 == 1) ≡ false
    go true e = let same : n + 1 ≡ 1 = eqb-true (n + 1) 1 e in absurd (omega (arith, same, some))
    go false e = e

further_next : (from by : Position) (byte : ℕ) → 1 ≤ by.line → 1 ≤ by.column → further from (next by byte) ≡ next (further from by) byte
further_next from by byte line column = go (byte == line_feed) refl
  where
    go : (is_feed : Bool) → (byte == line_feed) ≡ is_feed → further from (next by byte) ≡ next (further from by) byte
    go true is =
        let other = not_first by.line line in
        same_position _ _ (omega arith) (rw is (omega arith)) (rw is (ap (λ b. if b then from.column + (1 - 1) else 1) other))
    go false is = same_position _ _ (omega arith) (rw is refl) (rw is (column_next from.column by.column false (by.line == 1) column))

further_past : (from by : Position) (bytes : List ℕ) → 1 ≤ by.line → 1 ≤ by.column → further from (past by bytes) ≡ past (further from by) bytes
further_past from by [] line column = refl
further_past from by (b ∷ bytes) line column =
    let at = next_some by b line column in
    further_past from (next by b) bytes at.0 at.1 ∙ ap (λ p. past p bytes) (further_next from by b line column)
  where
    some_line : (is_feed : Bool) (n : ℕ) → 1 ≤ n → 1 ≤ (if is_feed then n + 1 else n)
    some_line true n some = omega arith
    some_line false n some = some

    some_column : (is_feed : Bool) (n : ℕ) → 1 ≤ (if is_feed then 1 else n + 1)
    some_column true n = omega arith
    some_column false n = omega arith

    next_some : (p : Position) (byte : ℕ) → 1 ≤ p.line → 1 ≤ p.column → (1 ≤ (next p byte).line) × (1 ≤ (next p byte).column)
    next_some p byte line column = (some_line (byte == line_feed) p.line line, some_column (byte == line_feed) p.column)

further_start : (from : Position) → further from start ≡ from
further_start from = same_position _ _ (omega arith) (omega arith) (omega arith)

moved_to : (text rest : List ℕ) (from to : ℕ) → from ≤ to → rest ≡ drop from text → further (position text from) (position rest (to - from)) ≡ position text to
moved_to text rest from to le lends =
    let whole : from + (to - from) ≡ to = omega arith in
    ap (λ r. further (position text from) (position r (to - from))) lends
    ∙ further_past (position text from) start (take (to - from) (drop from text)) (omega arith) (omega arith)
    ∙ ap (λ p. past p (take (to - from) (drop from text))) (further_start (position text from))
    ∙ position_further text from (to - from)
    ∙ ap (position text) whole

-- The rest of a text, as the code lends it.
pub moved_is : (text rest : List ℕ) (from to : ℕ) (place by : Position) → from ≤ to → rest ≡ take (length text - from) (drop from text) → place ≡ position text from → by ≡ position rest (to - from)
    → further place by ≡ position text to
moved_is text rest from to place by le lends at further_on =
    ap₂ further at further_on ∙ moved_to text rest from to le (lends ∙ lent text from)

-- ---- no number is too great

past_byte : (p : Position) (bytes : List ℕ) → (past p bytes).byte ≤ p.byte + length bytes
past_byte p [] = omega arith
past_byte p (b ∷ bytes) = let later = past_byte (next p b) bytes in omega (arith, later)

past_line : (p : Position) (bytes : List ℕ) → (past p bytes).line ≤ p.line + length bytes
past_line p [] = omega arith
past_line p (b ∷ bytes) = let later = past_line (next p b) bytes in let one = step (b == line_feed) p.line in omega (arith, later, one)
  where
    step : (is_feed : Bool) (n : ℕ) → (if is_feed then n + 1 else n) ≤ n + 1
    step true n = omega arith
    step false n = omega arith

past_column : (p : Position) (bytes : List ℕ) → 1 ≤ p.column → (past p bytes).column ≤ p.column + length bytes
past_column p [] some = omega arith
past_column p (b ∷ bytes) some =
    let one = step (b == line_feed) p.column some in
    let later = past_column (next p b) bytes one.1 in
    omega (arith, later, one.0)
  where
    step : (is_feed : Bool) (n : ℕ) → 1 ≤ n → ((if is_feed then 1 else n + 1) ≤ n + 1) × (1 ≤ (if is_feed then 1 else n + 1))
    step true n some = (omega (arith, some), omega arith)
    step false n some = (omega arith, omega arith)

taken : (text : List ℕ) (n : ℕ) → length (take n text) ≤ n
taken [] zero = omega arith
taken [] (suc n) = omega arith
taken (x ∷ text) zero = omega arith
taken (x ∷ text) (suc n) = let less = taken text n in omega (arith, less)

bounds : (text : List ℕ) (n : ℕ) → ((position text n).byte ≤ n) × ((position text n).line ≤ n + 1) × ((position text n).column ≤ n + 1)
bounds text n =
    let size = taken text n in
    let byte = past_byte start (take n text) in
    let line = past_line start (take n text) in
    let column = past_column start (take n text) (omega arith) in
    (omega (arith, size, byte), omega (arith, size, line), omega (arith, size, column))

-- Lines and columns fit, where the text is not the longest.
pub fits : (text rest : List ℕ) (from to : ℕ) (place by : Position) → from ≤ to → to + 1 < 2 ^ 64 → place ≡ position text from → by ≡ position rest (to - from)
    → (place.byte + by.byte < 2 ^ 64) × (place.line + (by.line - 1) < 2 ^ 64) × (place.column + (by.column - 1) < 2 ^ 64)
fits text rest from to place by le short at further_on =
    let here = bounds text from in
    let on = bounds rest (to - from) in
    let b = ap (λ (p : Position). p.byte) at in
    let l = ap (λ (p : Position). p.line) at in
    let c = ap (λ (p : Position). p.column) at in
    let bb = ap (λ (p : Position). p.byte) further_on in
    let ll = ap (λ (p : Position). p.line) further_on in
    let kk = ap (λ (p : Position). p.column) further_on in
    (omega (arith, here.0, on.0, b, bb, le, short), omega (arith, here.1, on.1, l, ll, le, short), omega (arith, here.2, on.2, c, kk, le, short))
