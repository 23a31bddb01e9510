-- Texts and the trees that they spell, one by one.
use Rattle.std.proofs.Common.{◌≡◌, ℕ, zero, suc, ◌+◌, ◌<◌, min, List, [], ◌∷◌, ◌++◌, length, get_or, slice_get, take, Some, Ok, refl, ap, ◌∙◌, sym, subst, arith, Vec}
use Rattle.std.proofs.lemmas.List.{length-map, take_more}
use Rattle.std.specs.Prelude.{IsOk}
use Rattle.std.specs.declared.alloc.Global.{Global}
use Rattle.sq_lex.specs.declared.lexeme.Lexeme.{Lexeme}
use Rattle.sq_lex.specs.declared.token.Token.{Token}
use Rattle.sq_lex.specs.Reading.{reading}
use Rattle.sq_lex.specs.Token.{lexemes}
use Rattle.sq_meaning.specs.Report.{Bytes}
use Rattle.sq_perform.specs.Fault.{IsPlaced}
use Rattle.sq_perform.specs.Read.{start_of}
use Rattle.sq_perform.specs.Refusal.{IsTokenOf, StandsAt, StandsAtByte}
use Rattle.sq_perform.specs.Texts.{AllSpell, Spells, SpellsTree, texts}
use Rattle.sq_perform.specs.declared.refusal.Refusal.{Refusal}

pub spelled_append : {T : Type 0} (tokens_of : T → List Lexeme) (depth_of : T → ℕ) (all : List Bytes) (trees : List T) (text : Bytes) (tree : T)
    → AllSpell tokens_of depth_of all trees → SpellsTree tokens_of depth_of text tree → AllSpell tokens_of depth_of (all ++ text ∷ []) (trees ++ tree ∷ [])
spelled_append tokens_of depth_of [] [] text tree all one = (one, tt)
spelled_append tokens_of depth_of [] (t ∷ ts) text tree all one = absurd all
spelled_append tokens_of depth_of (x ∷ xs) [] text tree all one = absurd all
spelled_append tokens_of depth_of (x ∷ xs) (t ∷ ts) text tree all one = (all.0, spelled_append tokens_of depth_of xs ts text tree all.1 one)

-- as many texts as trees
pub spelled_length : {T : Type 0} (tokens_of : T → List Lexeme) (depth_of : T → ℕ) (all : List Bytes) (trees : List T) → AllSpell tokens_of depth_of all trees → length all ≡ length trees
spelled_length tokens_of depth_of [] [] all = refl
spelled_length tokens_of depth_of [] (t ∷ ts) all = absurd all
spelled_length tokens_of depth_of (x ∷ xs) [] all = absurd all
spelled_length tokens_of depth_of (x ∷ xs) (t ∷ ts) all = ap suc (spelled_length tokens_of depth_of xs ts all.1)

-- ---- the bytes of each text

pub length_texts : (all : List (Vec ℕ Global)) → length (texts all) ≡ length all
length_texts [] = refl
length_texts (v ∷ vs) = ap suc (length_texts vs)

pub text_of : (all : List (Vec ℕ Global)) (i : ℕ) (text : Vec ℕ Global) → i < length all → text ≡ get_or all i text → get_or (texts all) i text.items ≡ text.items
text_of [] i text lt e = absurd (omega arith)
text_of (v ∷ vs) zero text lt e = ap (λ w. w.items) (sym e)
text_of (v ∷ vs) (suc n) text lt e = text_of vs n text (omega arith) e

-- one more text, and its tree
pub spelled_more : {T : Type 0} (tokens_of : T → List Lexeme) (depth_of : T → ℕ) (all : List (Vec ℕ Global)) (i : ℕ) (text : Vec ℕ Global) (trees : List T) (tree : T)
    → i < length all → text ≡ get_or all i text → AllSpell tokens_of depth_of (take i (texts all)) trees → SpellsTree tokens_of depth_of text.items tree
    → AllSpell tokens_of depth_of (take (i + 1) (texts all)) (trees ++ tree ∷ [])
spelled_more tokens_of depth_of all i text trees tree lt e before one =
    let within : i < length (texts all) = rw (length_texts all) lt in
    let more : take (i + 1) (texts all) ≡ take i (texts all) ++ text.items ∷ [] =
    take_more (texts all) i text.items within ∙ ap (λ t. take i (texts all) ++ t ∷ []) (text_of all i text lt e) in
    rw more (spelled_append tokens_of depth_of (take i (texts all)) trees text.items tree before one)

-- as many texts as trees
pub spelled_count : {T : Type 0} (tokens_of : T → List Lexeme) (depth_of : T → ℕ) (all : List (Vec ℕ Global)) (trees : List T) → AllSpell tokens_of depth_of (texts all) trees → length all ≡ length trees
spelled_count tokens_of depth_of all trees spelled = sym (length_texts all) ∙ spelled_length tokens_of depth_of (texts all) trees spelled

pub read_of : (text : Bytes) (lexed : List Lexeme) → Spells text lexed → IsOk (reading text)
read_of text lexed spells = subst (λ answer. IsOk answer) (sym spells.read) refl

-- a text that spells a tree has a reading
pub spelled_read : {T : Type 0} (tokens_of : T → List Lexeme) (depth_of : T → ℕ) (all : List (Vec ℕ Global)) (trees : List T) (i : ℕ) (text : Vec ℕ Global) → AllSpell tokens_of depth_of (texts all) trees
    → i < length all → text ≡ get_or all i text → IsOk (reading text.items)
spelled_read tokens_of depth_of [] trees i text spelled lt e = absurd (omega arith)
spelled_read tokens_of depth_of (v ∷ vs) [] i text spelled lt e = absurd spelled
spelled_read tokens_of depth_of (v ∷ vs) (t ∷ ts) zero text spelled lt e =
    let same : v.items ≡ text.items = ap (λ w. w.items) (sym e) in
    subst (λ bytes. IsOk (reading bytes)) same (read_of v.items (tokens_of t) spelled.0.spelled)
spelled_read tokens_of depth_of (v ∷ vs) (t ∷ ts) (suc n) text spelled lt e = spelled_read tokens_of depth_of vs ts n text spelled.1 (omega arith) e

-- a tree is spelled by the text of its number
pub spelled_there : {T : Type 0} (tokens_of : T → List Lexeme) (depth_of : T → ℕ) (all : List Bytes) (trees : List T) (n : ℕ) (tree : T) → AllSpell tokens_of depth_of all trees
    → slice_get trees n ≡ Some tree → (text : Bytes) × (slice_get all n ≡ Some text) × SpellsTree tokens_of depth_of text tree
spelled_there tokens_of depth_of all [] n tree spelled there = cc
spelled_there tokens_of depth_of [] (t ∷ ts) n tree spelled there = absurd spelled
spelled_there tokens_of depth_of (x ∷ xs) (t ∷ ts) zero tree spelled there =
    let same : t ≡ tree = cc in (x, refl, subst (SpellsTree tokens_of depth_of x) same spelled.0)
spelled_there tokens_of depth_of (x ∷ xs) (t ∷ ts) (suc n) tree spelled there = spelled_there tokens_of depth_of xs ts n tree spelled.1 there

-- ---- its tokens

-- those that a text is read as are those that it spells
pub as_many : (text : Bytes) (lexed : List Lexeme) (tokens : List Token) → Spells text lexed → reading text ≡ Ok tokens → length tokens ≡ length lexed
as_many text lexed tokens spells read =
    let same : tokens ≡ spells.tokens = cc (spells.read, read) in
    sym (length-map tokens (λ t. t.lexeme)) ∙ ap (λ ts. length (lexemes ts)) same ∙ ap length spells.same

pub is_there : {A : Type 0} (xs : List A) (i : ℕ) → i < length xs → (x : A) × (slice_get xs i ≡ Some x)
is_there [] i lt = absurd (omega arith)
is_there (x ∷ xs) zero lt = (x, refl)
is_there (x ∷ xs) (suc n) lt = is_there xs n (omega arith)

-- a refusal at a token that the text has is at the one of its number
pub token_there : (text : Bytes) (lexed : List Lexeme) (number start : ℕ) (refusal : Refusal) → Spells text lexed → number < length lexed
    → start ≡ min number 18446744073709551615 → IsPlaced text start refusal → (token : Token) × IsTokenOf text number token × StandsAt text token refusal
token_there text lexed number start refusal spells inside e placed =
    let count = as_many text lexed placed.tokens spells placed.read in
    let few = placed.few in
    let at : start ≡ number = omega (arith, e, inside, count, few) in
    let found = is_there placed.tokens start (omega (arith, at, inside, count)) in (
      found.0,
      record { tokens = placed.tokens; read = placed.read; there = subst (λ n. slice_get placed.tokens n ≡ Some found.0) at found.1 },
      subst (λ o. StandsAtByte text (start_of o) refusal) found.1 placed.stands,
    )
