-- A script text is spelled by what was read.
use Rattle.std.proofs.Common.{◌≡◌, ℕ, ◌≤◌, Bool, true, false, [], ◌∷◌, Option, Some, None, nat_eq, codes, cond, refl, sym, ap, arith}
use Rattle.std.specs.Cmp.Lexicographic.{pointwise, same_text}
use Rattle.sq_lex.specs.declared.lexeme.Lexeme.{Lexeme}
use Rattle.sq_lex.specs.declared.lexeme.Lexeme.TheVariants as lexeme
use Rattle.sq_lex.specs.declared.symbol.Symbol.TheVariants as symbol
use Rattle.sq_lex.specs.declared.word.Word.TheVariants as word
use Rattle.sq_tree.specs.declared.script.Arguments.TheVariants.{Unwritten, Empty, Listed}
use Rattle.sq_tree.specs.declared.script.Argument.TheVariants as value
use Rattle.sq_tree.specs.declared.script.ScriptItem.TheVariants.{Call, Table}
use Rattle.sq_tree.specs.Tree.{optional}
use Rattle.sq_tree.proofs.TreeDepth.{optional_depth}
use Rattle.sq_tree.specs.Script.{argument_tokens, arguments_tokens, ended_item_tokens, script_tokens, script_depth}
use Rattle.sq_tree.proofs.ScriptDepth.{arguments_depth, script_item_depth, script_text_depth}
use Rattle.sq_tree.proofs.ScriptNests.{script_depth-parts}
use Rattle.sq_grammar.specs.Reading.{name, one_if_any, text_of, comma_separated, all}
use Rattle.sq_grammar.specs.Names.{signed_number}
use Rattle.sq_grammar.specs.Script.{argument, arguments, two_names, call_word, item, script_text}
use Rattle.sq_grammar.proofs.Sound.Spells.{as_deep, Sound, sound, built, andthen, eaten, expected, maybe, names, a_text, lists, rows, one_maybe}
use Rattle.sq_grammar.proofs.Sound.NamesSound.{signed_numbers}

argument_sound : (left : ℕ) → Sound argument argument_tokens (λ _. 0) left
unfolding argument
argument_sound left = sound (eaten (lexeme.Symbol symbol.Star) _
    (built value.Null _ _ refl (λ h. omega arith))
    (maybe (one_if_any text_of) _ (a_text left)
    (andthen signed_number _ (signed_numbers left) (λ n. built (value.Number n) _ _ refl (λ h. omega arith)))
    (λ characters. built (value.Text characters) _ _ refl (λ h. omega arith))))

arguments_sound : (left : ℕ) → 1 ≤ left → Sound arguments arguments_tokens arguments_depth left
unfolding arguments
arguments_sound left room = sound (eaten (lexeme.Symbol symbol.Open) _
    (eaten (lexeme.Symbol symbol.Close) _
    (built Empty _ _ refl (λ h. room))
    (andthen (comma_separated argument) _ (lists argument left (argument_sound left)) (λ list.
    expected (lexeme.Symbol symbol.Close) _ (built (Listed list) _ _ refl (λ h. room)))))
    (built Unwritten _ _ refl (λ h. omega arith)))

two_names_sound : (left : ℕ) → Sound two_names (λ p. lexeme.Name p.0 ∷ lexeme.Symbol symbol.Dot ∷ lexeme.Name p.1 ∷ []) (λ _. 0) left
unfolding two_names
two_names_sound left = sound (andthen name _ (names left) (λ first. expected (lexeme.Symbol symbol.Dot) _ (andthen name _ (names left) (λ second. built (first, second) _ _ refl (λ h. omega arith)))))

call_is : (t : Lexeme) (x : Unit {0}) → call_word t ≡ Some x → t ≡ lexeme.Name (codes "CALL")
call_is (lexeme.Name n) x e = by (pointwise nat_eq n (codes "CALL")) refl e
  where
    by : (same : Bool) → pointwise nat_eq n (codes "CALL") ≡ same → (let o : Option (Unit {0}) = cond same (Some tt) None in o ≡ Some x) → lexeme.Name n ≡ lexeme.Name (codes "CALL")
    by true h f = ap (λ m. lexeme.Name m) (same_text n (codes "CALL") (sym h))
    by false h f = cc
call_is _ x e = cc

item_sound : (left : ℕ) → 1 ≤ left → Sound item (optional ended_item_tokens) (optional_depth script_item_depth) left
unfolding item
item_sound left room = sound (eaten (lexeme.Word word.Table) _
    (andthen two_names _ (two_names_sound left) (λ p. expected (lexeme.Symbol symbol.Semicolon) _ (built (Some (Table p.0 p.1)) _ _ refl (λ h. omega arith))))
    (maybe (one_if_any call_word) _ (one_maybe call_word (λ _. lexeme.Name (codes "CALL")) call_is left)
    (built None _ _ refl (λ h. omega arith))
    (λ x. andthen two_names _ (two_names_sound left) (λ p. andthen arguments _ (arguments_sound left room) (λ list. expected (lexeme.Symbol symbol.Semicolon) _
    (built (Some (Call p.0 p.1 list)) _ _ refl (λ h. omega arith)))))))

by_parts : (left : ℕ) → 1 ≤ left → Sound script_text script_tokens script_text_depth left
unfolding script_text
by_parts left room = sound (andthen (all item) _ (rows item ended_item_tokens script_item_depth left (item_sound left room)) (λ items. built (record { items = items }) _ _ refl (λ h. omega arith)))

pub script_sound : (left : ℕ) → 1 ≤ left → Sound script_text script_tokens script_depth left
script_sound left room = as_deep script_depth-parts (by_parts left room)
