-- Two trees with one list of tokens are one, since a parser takes each of them on that list.
use Rattle.std.proofs.Common.{◌≡◌, ℕ, ◌≤◌, ◌∷◌, ◌++◌, sym, ◌∙◌, ap}
use Rattle.sq_lex.specs.declared.lexeme.Lexeme.{Lexeme}
use Rattle.sq_grammar.specs.Reading.{Tokens, Parser}
use Rattle.sq_grammar.proofs.Sound.Spells.{ok_pair}
use Rattle.sq_grammar.proofs.Taken.Takes.{Takes}

pub one_tree : {A : Type 0} {p : Parser A} {s t rest : Tokens} {a b c d e left : ℕ} {x y : A} → Takes p s a b d left x rest → Takes p t a c e left y rest → d ≤ left → e ≤ left → s ≡ t → x ≡ y
one_tree {p = p} {rest = rest} {x = x} {y = y} first second h i same = (ok_pair x y rest rest (sym (first.taken h) ∙ ap (λ ts. p (ts ++ rest)) same ∙ second.taken i)).0

-- what stands behind the first token of one list
pub behind_first : {t u : Lexeme} {ss ts : Tokens} → t ∷ ss ≡ u ∷ ts → ss ≡ ts
behind_first same = cc
