-- What a script text has been read up to where it is stuck is the beginning of one.
use Rattle.std.proofs.Common.{◌≡◌, [], None, Ok, refl, sym, ap, subst, inl, codes}
use Rattle.sq_lex.specs.declared.lexeme.Lexeme.{Lexeme}
use Rattle.sq_lex.specs.declared.lexeme.Lexeme.TheVariants as lexeme
use Rattle.sq_lex.specs.declared.symbol.Symbol.TheVariants as symbol
use Rattle.sq_lex.specs.declared.word.Word.TheVariants as word
use Rattle.sq_grammar.specs.Reading.{Tokens, first_of, text_of, name_of, number_of, name, comma, eat, one_if_any, comma_separated}
use Rattle.sq_grammar.specs.Names.{sign_if_any, signed_number}
use Rattle.sq_grammar.specs.Script.{by_text, by_star, argument, by_close, by_open, arguments, two_names, call_word, by_call, by_table, item, script_text}
use Rattle.sq_run.proofs.Tokens.ModuleViable.{End, not_ended}
use Rattle.sq_run.proofs.Tokens.Viable.{Any, Begins, Not, Starts, Viable, commas, comes_starts, done, done_starts, eats_expect, eats_first, eats_one, if_comes, if_one, mapped, mapped_starts, must, must_starts, not_begun, not_starts, one, one_of_starts, rows, rows_start, starts_with, then_part, then_some}

signs : {F : Tokens → Type 0} → Not F (lexeme.Symbol symbol.Plus) → Not F (lexeme.Symbol symbol.Minus) → Viable sign_if_any sign_if_any F
signs plus minus = if_comes _ _ _ (inl plus) done done_starts (if_comes _ _ _ (inl minus) done done_starts done)

one_digit : Lexeme
one_digit = lexeme.Number (codes "1")

signed : {F : Tokens → Type 0} → Viable signed_number signed_number F
unfolding signed_number one_digit
signed = then_some {G = Begins one_digit} _ _ (signs (not_begun one_digit (lexeme.Symbol symbol.Plus) (λ ts. refl)) (not_begun one_digit (lexeme.Symbol symbol.Minus) (λ ts. refl))) (λ sign. mapped _ (one number_of))
    (λ sign. starts_with {G = Any} _ (one_of_starts number_of one_digit (codes "1") refl) done_starts (λ other i. tt))
    (λ sign other i. (other, refl)) (λ sign. eats_first _ _ {F = Any} (eats_one number_of) (λ n. done))

-- the tokens that follow
star : Lexeme
star = lexeme.Symbol symbol.Star

close : Lexeme
close = lexeme.Symbol symbol.Close

no_text : (other : Tokens) → Begins (lexeme.Symbol symbol.Close) other → first_of text_of other ≡ None
no_text other i = ap (first_of text_of) i.1

one_argument : Viable argument argument (Begins (lexeme.Symbol symbol.Close))
unfolding argument
one_argument = if_comes (lexeme.Symbol symbol.Star) by_star by_star (inl (not_begun (lexeme.Symbol symbol.Close) (lexeme.Symbol symbol.Star) (λ ts. refl))) done done_starts
    (if_one text_of by_text by_text (inl no_text) (λ characters. done) (λ characters. done_starts) (mapped _ signed))

argument_starts : Starts argument (Begins (lexeme.Symbol symbol.Close))
unfolding argument
argument_starts = comes_starts (lexeme.Symbol symbol.Star) by_star refl done_starts

listed_arguments : Viable (comma_separated argument) (comma_separated argument) (Begins (lexeme.Symbol symbol.Close))
listed_arguments = commas one_argument argument_starts (not_begun (lexeme.Symbol symbol.Close) comma (λ ts. refl))

all_arguments : Viable arguments arguments (Begins (lexeme.Symbol symbol.Semicolon))
unfolding arguments
all_arguments = if_comes (lexeme.Symbol symbol.Open) by_open by_open (inl (not_begun (lexeme.Symbol symbol.Semicolon) (lexeme.Symbol symbol.Open) (λ ts. refl)))
    (if_comes (lexeme.Symbol symbol.Close) by_close by_close (inl (not_begun (lexeme.Symbol symbol.Semicolon) (lexeme.Symbol symbol.Close) (λ ts. refl))) done done_starts
    (then_some {G = Begins (lexeme.Symbol symbol.Close)} _ _ listed_arguments (λ xs. must (lexeme.Symbol symbol.Close) (λ ts. refl) done done_starts) (λ xs. must_starts (lexeme.Symbol symbol.Close) (λ ts. refl) done_starts)
    (λ xs other i. (other, refl)) (λ xs. eats_first _ _ {F = Any} (eats_expect (lexeme.Symbol symbol.Close)) (λ u. done))))
    (comes_starts (lexeme.Symbol symbol.Close) by_close refl done_starts)
    done

no_arguments : Starts arguments (Begins (lexeme.Symbol symbol.Semicolon))
unfolding arguments
no_arguments = not_starts (lexeme.Symbol symbol.Open) by_open done_starts (λ other i. not_begun (lexeme.Symbol symbol.Semicolon) (lexeme.Symbol symbol.Open) (λ ts. refl) other i)

a_name : Lexeme
a_name = lexeme.Name (codes "A")

name_starts : {F : Tokens → Type 0} → Starts name F
name_starts = one_of_starts name_of (lexeme.Name (codes "A")) (codes "A") refl

names : {F : Tokens → Type 0} → Viable two_names two_names F
unfolding two_names
names = then_part {G = Any} _ _ (one name_of)
    (λ first. must (lexeme.Symbol symbol.Dot) (λ ts. refl) (then_part {G = Any} _ _ (one name_of) (λ second. done) (λ second. done_starts) (λ x other i. tt) (λ other i. tt)) (starts_with {G = Any} _ name_starts done_starts (λ other i. tt)))
    (λ first. must_starts (lexeme.Symbol symbol.Dot) (λ ts. refl) (starts_with {G = Any} _ name_starts done_starts (λ other i. tt)))
    (λ x other i. tt) (λ other i. tt)

names_start : {F : Tokens → Type 0} → Starts two_names F
unfolding two_names
names_start = starts_with {G = Any} _ name_starts (must_starts (lexeme.Symbol symbol.Dot) (λ ts. refl) (starts_with {G = Any} _ name_starts done_starts (λ other i. tt))) (λ other i. tt)

items : Viable item item End
unfolding item
items = if_comes (lexeme.Word word.Table) by_table by_table (inl (not_ended (lexeme.Word word.Table)))
    (then_part {G = Any} _ _ names (λ ns. must (lexeme.Symbol symbol.Semicolon) (λ ts. refl) done done_starts) (λ ns. must_starts (lexeme.Symbol symbol.Semicolon) (λ ts. refl) done_starts) (λ ns other i. tt) (λ other i. tt))
    (starts_with {G = Any} _ names_start (must_starts (lexeme.Symbol symbol.Semicolon) (λ ts. refl) done_starts) (λ other i. tt))
    (if_one call_word by_call by_call (inl (λ other i. ap (first_of call_word) i))
    (λ u. then_part {G = Any} _ _ names
    (λ ns. then_some {G = Begins (lexeme.Symbol symbol.Semicolon)} _ _ all_arguments (λ a. must (lexeme.Symbol symbol.Semicolon) (λ ts. refl) done done_starts) (λ a. must_starts (lexeme.Symbol symbol.Semicolon) (λ ts. refl) done_starts)
    (λ a other i. (other, refl)) (λ a. eats_first _ _ {F = Any} (eats_expect (lexeme.Symbol symbol.Semicolon)) (λ v. done)))
    (λ ns. starts_with {G = Begins (lexeme.Symbol symbol.Semicolon)} _ no_arguments (must_starts (lexeme.Symbol symbol.Semicolon) (λ ts. refl) done_starts) (λ other i. (other, refl)))
    (λ ns other i. tt) (λ other i. tt))
    (λ u. starts_with {G = Any} _ names_start (starts_with {G = Begins (lexeme.Symbol symbol.Semicolon)} _ no_arguments (must_starts (lexeme.Symbol symbol.Semicolon) (λ ts. refl) done_starts) (λ other i. (other, refl))) (λ other i. tt))
    done)

none_there : item [] ≡ Ok (None, [])
unfolding item eat one_if_any
none_there = refl

no_item : (other : Tokens) → End other → item other ≡ Ok (None, other)
no_item other i = subst (λ ts. item ts ≡ Ok (None, ts)) (sym i) none_there

pub scripts : Viable script_text script_text End
unfolding script_text
scripts = mapped _ (rows items no_item)

pub script_starts : Starts script_text End
unfolding script_text
script_starts = mapped_starts _ (rows_start items no_item)
