-- The tokens of a script text are read as it.
use Rattle.std.proofs.Common.{◌≡◌, ℕ, suc, ◌≤◌, ◌<◌, false, [], ◌∷◌, ◌++◌, length, Option, Some, None, Ok, refl, arith, append_assoc, codes}
use Rattle.sq_lex.specs.declared.lexeme.Lexeme.TheVariants as lexeme
use Rattle.sq_lex.specs.declared.symbol.Symbol.TheVariants as symbol
use Rattle.sq_lex.specs.declared.word.Word.TheVariants as word
use Rattle.sq_lex.specs.declared.name.Name.{Name}
use Rattle.sq_lex.specs.declared.number.Number.{Number}
use Rattle.sq_tree.specs.Tree.{optional}
use Rattle.sq_tree.specs.List.{comma_tokens}
use Rattle.sq_tree.specs.Expr.{sign_tokens, signed_number_tokens}
use Rattle.sq_tree.specs.Script.{argument_tokens, arguments_tokens, ended_item_tokens, script_tokens}
use Rattle.sq_tree.proofs.ScriptDepth.{arguments_depth, script_item_depth, script_text_depth}
use Rattle.sq_tree.specs.declared.list.CommaList.{CommaList}
use Rattle.sq_tree.specs.declared.expr.Sign.{Sign}
use Rattle.sq_tree.specs.declared.expr.Sign.TheVariants.{Plus, Minus}
use Rattle.sq_tree.specs.declared.expr.SignedNumber.{SignedNumber}
use Rattle.sq_tree.specs.declared.script.ScriptText.{ScriptText}
use Rattle.sq_tree.specs.declared.script.ScriptItem.{ScriptItem}
use Rattle.sq_tree.specs.declared.script.ScriptItem.TheVariants.{Call, Table}
use Rattle.sq_tree.specs.declared.script.Arguments.{Arguments}
use Rattle.sq_tree.specs.declared.script.Arguments.TheVariants.{Unwritten, Empty, Listed}
use Rattle.sq_tree.specs.declared.script.Argument.{Argument}
use Rattle.sq_tree.specs.declared.script.Argument.TheVariants as value
use Rattle.sq_grammar.specs.Reading.{Tokens, sees, eat, one_if_any, text_of, comma_separated, all}
use Rattle.sq_grammar.specs.Names.{signed_number}
use Rattle.sq_grammar.specs.Script.{by_text, argument, arguments, two_names, call_word, by_call, item, script_text}
use Rattle.sq_grammar.proofs.Taken.Takes.{Takes, done, fits, plainly, mapped, word, mark, opening, closing, expected, eaten, uneaten, met, unmet, named, flat_commas, rows}
use Rattle.sq_grammar.proofs.Taken.NamesTakes.{a_dot, signed_takes}

-- ---- arguments

number_takes : (n : SignedNumber) {a left : ℕ} {rest : Tokens} → Takes argument (signed_number_tokens n) a a 0 left (value.Number n) rest
unfolding argument
number_takes n {a = a} {left = left} {rest = rest} = by n.sign n.number
  where
    by : (sign : Option Sign) (digits : Number) → Takes argument (optional sign_tokens sign ++ lexeme.Number digits ∷ []) a a 0 left (value.Number (record { sign = sign; number = digits })) rest
    by None digits = uneaten (lexeme.Symbol symbol.Star) _ refl (unmet text_of by_text refl (mapped signed_number _ (record { sign = None; number = digits }) (signed_takes _) refl))
    by (Some Plus) digits = uneaten (lexeme.Symbol symbol.Star) _ refl (unmet text_of by_text refl (mapped signed_number _ (record { sign = Some Plus; number = digits }) (signed_takes _) refl))
    by (Some Minus) digits = uneaten (lexeme.Symbol symbol.Star) _ refl (unmet text_of by_text refl (mapped signed_number _ (record { sign = Some Minus; number = digits }) (signed_takes _) refl))

pub argument_takes : (x : Argument) {a left : ℕ} {rest : Tokens} → Takes argument (argument_tokens x) a a 0 left x rest
unfolding argument
argument_takes (value.Number n) = number_takes n
argument_takes (value.Text characters) = uneaten (lexeme.Symbol symbol.Star) _ refl (met text_of (lexeme.Text characters) characters refl (λ k. refl) by_text done)
argument_takes value.Null = eaten (mark symbol.Star (λ k. refl)) _ done

-- the bracket of no arguments closes at once
number_no_close : (n : SignedNumber) (rest : Tokens) → sees (lexeme.Symbol symbol.Close) (signed_number_tokens n ++ rest) ≡ false
number_no_close n rest = by n.sign n.number
  where
    by : (sign : Option Sign) (digits : Number) → sees (lexeme.Symbol symbol.Close) ((optional sign_tokens sign ++ lexeme.Number digits ∷ []) ++ rest) ≡ false
    by None digits = refl
    by (Some Plus) digits = refl
    by (Some Minus) digits = refl

argument_no_close : (x : Argument) (rest : Tokens) → sees (lexeme.Symbol symbol.Close) (argument_tokens x ++ rest) ≡ false
argument_no_close (value.Number n) rest = number_no_close n rest
argument_no_close (value.Text characters) rest = refl
argument_no_close value.Null rest = refl

list_no_close : (list : CommaList Argument) (more rest : Tokens) → sees (lexeme.Symbol symbol.Close) ((comma_tokens argument_tokens list ++ more) ++ rest) ≡ false
list_no_close list more rest = rw (append_assoc (comma_tokens argument_tokens list) more rest, append_assoc) (argument_no_close list.first _)

-- [ "(" [ value { "," value } ] ")" ]
pub arguments_takes : (x : Arguments) {a left : ℕ} {rest : Tokens} → sees (lexeme.Symbol symbol.Open) rest ≡ false → Takes arguments (arguments_tokens x) a a 0 left x rest
unfolding arguments
arguments_takes Unwritten none = uneaten (lexeme.Symbol symbol.Open) _ none done
arguments_takes Empty none = eaten opening _ (eaten closing _ done)
arguments_takes (Listed list) {a = a} {left = left} none = eaten opening _ (uneaten (lexeme.Symbol symbol.Close) _ (list_no_close list _ _)
    (plainly (comma_separated argument) _ list (flat_commas argument argument_tokens (suc a) left (λ _. Unit {0}) (λ x r f. argument_takes x) (λ r. tt) list _ tt refl) (expected closing _ done)))

-- ---- items

two_names_takes : (first second : Name) {a left : ℕ} {rest : Tokens} → Takes two_names (lexeme.Name first ∷ lexeme.Symbol symbol.Dot ∷ lexeme.Name second ∷ []) a a 0 left (first, second) rest
unfolding two_names
two_names_takes first second = named first _ (expected a_dot _ (named second _ done))

call_met : call_word (lexeme.Name (codes "CALL")) ≡ Some tt
call_met = refl

-- item ";"
pub item_takes : (x : ScriptItem) {a left : ℕ} {rest : Tokens} → Takes item (ended_item_tokens x) a a 0 left (Some x) rest
unfolding item
item_takes (Table schema table) = eaten (word word.Table) _ (plainly two_names _ (schema, table) {tx = lexeme.Name schema ∷ lexeme.Symbol symbol.Dot ∷ lexeme.Name table ∷ []} {more = lexeme.Symbol symbol.Semicolon ∷ []} (two_names_takes schema table) (expected (mark symbol.Semicolon (λ k. refl)) _ done))
item_takes (Call «module» procedure list) = uneaten (lexeme.Word word.Table) _ refl (met call_word (lexeme.Name (codes "CALL")) tt call_met (λ k. refl) by_call
    (plainly two_names _ («module», procedure) {tx = lexeme.Name «module» ∷ lexeme.Symbol symbol.Dot ∷ lexeme.Name procedure ∷ []} {more = arguments_tokens list ++ lexeme.Symbol symbol.Semicolon ∷ []} (two_names_takes «module» procedure)
    (plainly arguments _ list (arguments_takes list refl) (expected (mark symbol.Semicolon (λ k. refl)) _ done))))

arguments_shallow : (x : Arguments) → arguments_depth x ≤ 1
arguments_shallow Unwritten = omega arith
arguments_shallow Empty = omega arith
arguments_shallow (Listed list) = omega arith

item_shallow : (x : ScriptItem) → script_item_depth x ≤ 1
item_shallow (Call «module» procedure list) = arguments_shallow list
item_shallow (Table schema table) = omega arith

item_long : (x : ScriptItem) → 0 < length (ended_item_tokens x)
item_long (Call «module» procedure list) = omega arith
item_long (Table schema table) = omega arith

none_left : item [] ≡ Ok (None, [])
unfolding item eat one_if_any
none_left = refl

-- script-text = { item ";" }
pub script_takes : (s : ScriptText) (left : ℕ) → 1 ≤ left → Takes script_text (script_tokens s) 0 0 (script_text_depth s) left s []
unfolding script_text
script_takes s left room = mapped (all item) _ s.items (rows item ended_item_tokens script_item_depth 0 left (λ _. Unit {0}) each (λ x r. tt) item_long s.items [] tt none_left) refl
  where
    each : (x : ScriptItem) (rest : Tokens) → Unit {0} → Takes item (ended_item_tokens x) 0 0 (script_item_depth x) left (Some x) rest
    each x rest f = let shallow = item_shallow x in fits (λ h. omega arith) (λ h. omega arith) (item_takes x)
