-- LIKE (ISO/IEC 9075:1992, 8.5).
use Rattle.std.specs.Prelude.{ℕ, ◌≡◌, ⊤, ◌==◌, ◌&&◌, ◌||◌, Bool, true, false, IsTrue, Option, Some, None, Result, Ok, Err, if◌then◌else◌, List, [], ◌∷◌, ◌++◌, map}
use Rattle.std.specs.List.{list_any}
use Rattle.sq_value.specs.Characters.{percent, underscore}
use Rattle.sq_value.specs.Truth.{known}
use Rattle.sq_value.specs.declared.fault.LikeFault.{LikeFault}
use Rattle.sq_value.specs.declared.fault.LikeFault.TheVariants.{EscapeLength, EscapeSequence}
use Rattle.sq_value.specs.declared.pattern.Item.{Item}
use Rattle.sq_value.specs.declared.pattern.Item.TheVariants.{AnyRun, AnyOne, This}
use Rattle.sq_value.specs.declared.truth.Truth.{Truth}
use Rattle.sq_value.specs.declared.truth.Truth.TheVariants.{Unknown}
use Rattle.sq_value.specs.declared.value.Value.{Value}
use Rattle.sq_value.specs.declared.value.Value.TheVariants.{Null, Num, Chars}

-- ---- reading a pattern

-- a code of a pattern that is not escaped: `%` is any run, `_` any one code
abbrev pub plain : ℕ → Item
plain c = if c == percent then AnyRun else (if c == underscore then AnyOne else This c)

abbrev pub is_escape : Option ℕ → ℕ → Bool
is_escape None c = false
is_escape (Some e) c = c == e

-- only `%`, `_` and the escape character itself may be escaped
abbrev pub may_be_escaped : Option ℕ → ℕ → Bool
may_be_escaped e c = c == percent || c == underscore || is_escape e c

abbrev pub with_item : Item → Result (List Item) LikeFault → Result (List Item) LikeFault
with_item i (Ok items) = Ok (i ∷ items)
with_item i (Err fault) = Err fault

-- the items of a pattern; an escape character that escapes nothing is a fault
abbrev pub pattern_items : Option ℕ → List ℕ → Result (List Item) LikeFault
pattern_items e [] = Ok []
pattern_items e (c ∷ []) = if is_escape e c then Err EscapeSequence else Ok (plain c ∷ [])
pattern_items e (c ∷ d ∷ cs) =
    if is_escape e c then (if may_be_escaped e d then with_item (This d) (pattern_items e cs)
    else Err EscapeSequence)
    else with_item (plain c) (pattern_items e (d ∷ cs))

-- ---- cutting a text

-- a piece of a text fits an item
abbrev pub piece_fits : Item → List ℕ → Bool
piece_fits AnyRun piece = true
piece_fits AnyOne [] = false
piece_fits AnyOne (d ∷ []) = true
piece_fits AnyOne (d ∷ e ∷ ds) = false
piece_fits (This c) [] = false
piece_fits (This c) (d ∷ []) = d == c
piece_fits (This c) (d ∷ e ∷ ds) = false

-- every way to cut a text in two
abbrev pub splits : List ℕ → List (List ℕ × List ℕ)
splits [] = ([], []) ∷ []
splits (c ∷ cs) = ([], c ∷ cs) ∷ map (λ cut. (c ∷ cut.0, cut.1)) (splits cs)

-- the text can be cut into as many pieces as there are items, each fitting its item. Some first piece fits the first item, and
-- the rest can be cut for the other items
abbrev pub can_be_cut : List Item → List ℕ → Bool
can_be_cut [] [] = true
can_be_cut [] (c ∷ cs) = false
can_be_cut (i ∷ items) text = list_any (λ cut. piece_fits i (cut.0) && can_be_cut items (cut.1)) (splits text)

-- pieces put together, and pieces that fit their items: a text can be cut exactly if it is the joining of such pieces
abbrev pub joined : List (List ℕ) → List ℕ
joined [] = []
joined (piece ∷ pieces) = piece ++ joined pieces

abbrev pub AllFit : List Item → List (List ℕ) → Type 0
AllFit [] [] = ⊤
AllFit [] (piece ∷ pieces) = ⊥
AllFit (i ∷ items) [] = ⊥
AllFit (i ∷ items) (piece ∷ pieces) = IsTrue (piece_fits i piece) × AllFit items pieces

abbrev pub CanBeCut : List Item → List ℕ → Type 0
CanBeCut items text = (pieces : List (List ℕ)) × (joined pieces ≡ text) × AllFit items pieces

-- ---- the predicate

abbrev pub one_code : List ℕ → Result (Option ℕ) LikeFault
one_code [] = Err EscapeLength
one_code (c ∷ []) = Ok (Some c)
one_code (c ∷ d ∷ cs) = Err EscapeLength

abbrev pub cut_as_read : List ℕ → Result (List Item) LikeFault → Result Truth LikeFault
cut_as_read text (Ok items) = Ok (known (can_be_cut items text))
cut_as_read text (Err fault) = Err fault

abbrev pub cut_by : List ℕ → List ℕ → Result (Option ℕ) LikeFault → Result Truth LikeFault
cut_by text pattern (Ok e) = cut_as_read text (pattern_items e pattern)
cut_by text pattern (Err fault) = Err fault

-- the escape character, if there is one, is a text of one code. The answer is unknown if an operand is null, before any fault of
-- the escape character; LIKE is never asked of numbers
abbrev pub texts_liked : List ℕ → List ℕ → Option Value → Result Truth LikeFault
texts_liked text pattern None = cut_by text pattern (Ok None)
texts_liked text pattern (Some Null) = Ok Unknown
texts_liked text pattern (Some (Num n)) = Ok Unknown
texts_liked text pattern (Some (Chars e)) = cut_by text pattern (one_code e)

abbrev pub liked : Value → Value → Option Value → Result Truth LikeFault
liked (Chars text) (Chars pattern) escape = texts_liked text pattern escape
liked (Chars text) Null escape = Ok Unknown
liked (Chars text) (Num n) escape = Ok Unknown
liked Null pattern escape = Ok Unknown
liked (Num n) pattern escape = Ok Unknown
