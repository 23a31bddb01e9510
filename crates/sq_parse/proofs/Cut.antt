-- Whether a bracket is one too many, by the parts of the tokens before it and from it on.
use Rattle.std.proofs.Common.{◌≡◌, ℕ, ◌-◌, Bool, ◌&&◌, nat_eq, List, length, take, drop, sym, ◌∙◌, ap, arith}
use Rattle.std.proofs.lemmas.Grind.{common_steps}
use Rattle.std.proofs.lemmas.List.{take-map, drop-map}
use Rattle.sq_lex.specs.declared.lexeme.Lexeme.TheVariants as lexeme
use Rattle.sq_lex.specs.declared.symbol.Symbol.TheVariants as symbol
use Rattle.sq_lex.specs.declared.token.Token.{Token}
use Rattle.sq_lex.specs.Token.{lexemes}
use Rattle.sq_grammar.specs.Reading.{Tokens, sees}
use Rattle.sq_grammar.specs.Brackets.{open_brackets, is_too_deep}
use Rattle.sq_grammar.specs.declared.brackets.TheConstants.{MAX_DEPTH}

pub too_deep : (tokens : List Token) (index open_now : ℕ) (seen : Bool) (rest : Tokens) → rest ≡ lexemes (take (length tokens - index) (drop index tokens)) → seen ≡ sees (lexeme.Symbol symbol.Open) rest → open_now ≡ open_brackets (lexemes (take index tokens)) → (seen && nat_eq open_now MAX_DEPTH) ≡ is_too_deep (lexemes tokens) index
too_deep tokens index open_now seen rest r s o =
    let all : take (length tokens - index) (drop index tokens) ≡ drop index tokens = grind (arith, common_steps) in
    let behind : rest ≡ drop index (lexemes tokens) = r ∙ ap lexemes all ∙ sym (drop-map (λ t. t.lexeme) index tokens) in
    let before : lexemes (take index tokens) ≡ take index (lexemes tokens) = sym (take-map (λ t. t.lexeme) index tokens) in
    let a : seen ≡ sees (lexeme.Symbol symbol.Open) (drop index (lexemes tokens)) = s ∙ ap (sees (lexeme.Symbol symbol.Open)) behind in
    let b : open_now ≡ open_brackets (take index (lexemes tokens)) = o ∙ ap open_brackets before in
    ap (λ x. x && nat_eq open_now MAX_DEPTH) a ∙ ap (λ n. sees (lexeme.Symbol symbol.Open) (drop index (lexemes tokens)) && nat_eq n MAX_DEPTH) b
