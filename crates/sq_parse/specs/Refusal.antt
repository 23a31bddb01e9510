-- The answers of the parses: the tree, or the place where the text is refused, and the consequence for the trees of
-- the grammar.
use Rattle.std.specs.Prelude.{◌≡◌, ℕ, ◌-◌, ◌<◌, false, if◌then◌else◌, nat_lt, length, IsTrue, Result, Ok, Err}
use Rattle.sq_grammar.specs.declared.brackets.TheConstants.{MAX_DEPTH}
use Rattle.sq_grammar.specs.Reading.{Tokens, Outcome, Parser, whole}
use Rattle.sq_grammar.specs.Brackets.{is_too_deep}
use Rattle.sq_parse.specs.declared.error.ParseError.{ParseError}
use Rattle.sq_parse.specs.declared.error.ParseError.TheVariants.{NoMemory, Unexpected, TooDeep, EndOfText}
use Rattle.sq_grammar.specs.declared.stop.Stop.{Stop}
use Rattle.sq_grammar.specs.declared.stop.Stop.TheVariants as stop

-- The refusal at the token of this index. A bracket too many takes precedence over any other fault of its token.
abbrev pub refusal_at : Tokens → ℕ → ParseError
refusal_at ts index =
    if nat_lt index (length ts) then (if is_too_deep ts index then TooDeep index else Unexpected index)
    else EndOfText

-- The answer of a reading of a text's tokens: the tree, or the refusal at the token where the reading is stuck.
abbrev pub answer : {T : Type 0} → Tokens → Outcome T → Result T ParseError
answer ts (Ok read) = Ok read.0
answer ts (Err left) = Err (refusal_at ts (length ts - left))

-- The answer of reading all of the tokens by a rule of the grammar.
abbrev pub parsed : {T : Type 0} → Parser T → Tokens → Result T ParseError
parsed rule ts = answer ts (whole rule ts)

-- A parse answers a wanted tree or refusal: the same, unless memory ran out.
abbrev pub Answers : {T : Type 0} → Result T ParseError → Result T ParseError → Type 0
Answers wanted (Ok tree) = Ok tree ≡ wanted
Answers wanted (Err NoMemory) = Unit {0}
Answers wanted (Err fault) = Err fault ≡ wanted

-- This tree is the only one that these tokens spell.
abbrev pub IsOnlyTree : {T : Type 0} → (T → Tokens) → Tokens → T → Type 0
IsOnlyTree {T = T} tokens_of ts tree = (other : T) → tokens_of other ≡ ts → other ≡ tree

-- The fact about the tokens of the text that a refusal says.
abbrev pub IsRefusal : Tokens → ParseError → Type 0
IsRefusal ts NoMemory = Unit {0}
IsRefusal ts (Unexpected index) = (index < length ts) × (is_too_deep ts index ≡ false)
IsRefusal ts (TooDeep index) = IsTrue (is_too_deep ts index)
IsRefusal ts EndOfText = Unit {0}

-- The fact about the trees of the grammar that a refusal says. None has these tokens, or each tree that has them
-- nests brackets too deep.
abbrev pub HasNoTree : {T : Type 0} → (T → Tokens) → (T → ℕ) → Tokens → ParseError → Type 0
HasNoTree tokens_of depth_of ts NoMemory = Unit {0}
HasNoTree {T = T} tokens_of depth_of ts (Unexpected index) = (tree : T) → tokens_of tree ≡ ts → ⊥
HasNoTree {T = T} tokens_of depth_of ts (TooDeep index) =
    (tree : T) → tokens_of tree ≡ ts → MAX_DEPTH < depth_of tree
HasNoTree {T = T} tokens_of depth_of ts EndOfText = (tree : T) → tokens_of tree ≡ ts → ⊥

-- The refusal of a text at the token where reading stops.
abbrev pub refusal : Tokens → Stop → ParseError
refusal ts stop.NoMemory = NoMemory
refusal ts (stop.Unfit left) = refusal_at ts (length ts - left)
