-- Query expressions are spelled by what was read.
use Rattle.std.proofs.Common.{ℕ, zero, suc, ◌+◌, [], ◌∷◌, refl, arith}
use Rattle.sq_lex.specs.declared.lexeme.Lexeme.TheVariants as lexeme
use Rattle.sq_lex.specs.declared.symbol.Symbol.TheVariants as symbol
use Rattle.sq_lex.specs.declared.word.Word.TheVariants as word
use Rattle.sq_tree.specs.declared.query.Query.{Query, roll-Query}
use Rattle.sq_tree.specs.declared.query.QueryTerm.TheVariants as terms
use Rattle.sq_tree.specs.Tree as tree
use Rattle.sq_tree.specs.Query.{query_tokens, query_term_tokens, union_term_tokens}
use Rattle.sq_tree.proofs.QueryDepth.{query_depth, query_term_depth, union_term_depth}
use Rattle.sq_tree.proofs.QueryLaws as law
use Rattle.sq_grammar.specs.Reading.{Parser, eat, sees, behind, all}
use Rattle.sq_grammar.specs.Cond.{query_specification}
use Rattle.sq_grammar.specs.Query.{bracketed, bracketed_term, query_term, union_term, level, inside, query}
use Rattle.sq_grammar.proofs.Sound.Spells.{Sound, After, sound, unsound, built, andthen, eats, expected, openly, either, raised, rows, behinds_with}
use Rattle.sq_grammar.proofs.Sound.CondSound.{query_specification_sound}

module _ (left : ℕ) (inner : Parser Query) (s : Sound inner query_tokens (λ q. query_depth q + 1) left) where
  inner_sound : Sound (bracketed left inner) (λ q. tree.bracketed (query_tokens q)) (λ q. query_depth q + 1) left
  unfolding bracketed
  inner_sound = sound (openly left _ (λ room. andthen inner _ s (λ q. expected (lexeme.Symbol symbol.Close) _ (built q _ _ refl (λ h. omega arith)))))

  bracketed_sound : Sound (bracketed_term left inner) query_term_tokens query_term_depth left
  unfolding bracketed_term
  bracketed_sound = sound (andthen (bracketed left inner) _ inner_sound (λ q. built (terms.Bracketed q) _ _ (law.query_term_tokens-Bracketed q) (λ h. rw (law.query_term_depth-Bracketed q) (omega arith))))

  term_sound : Sound (query_term left inner) query_term_tokens query_term_depth left
  unfolding query_term
  term_sound = sound (either (sees (lexeme.Symbol symbol.Open)) _ _ (unsound bracketed_sound)
      (andthen (query_specification left) _ (query_specification_sound left) (λ q. built (terms.Specification q) _ _ (law.query_term_tokens-Specification q) (λ h. rw (law.query_term_depth-Specification q) (omega arith)))))

  -- UNION is read already
  union_sound : After (lexeme.Word word.Union ∷ []) 0 left (union_term left inner) union_term_tokens union_term_depth
  unfolding union_term
  union_sound = andthen (eat (lexeme.Word word.All)) _ (eats (lexeme.Word word.All) left) (λ every. andthen (query_term left inner) _ term_sound (λ t.
      built (record { all = every; term = t }) _ _ (law.union_term_tokens-out (record { all = every; term = t })) (λ h. rw (law.union_term_depth-out (record { all = every; term = t })) (omega arith))))

  pub level_sound : Sound (level left inner) query_tokens query_depth left
  unfolding level
  level_sound = sound (andthen (query_term left inner) _ term_sound (λ first. andthen (all (behind (lexeme.Word word.Union) (union_term left inner))) _ (rows (behind (lexeme.Word word.Union) (union_term left inner)) union_term_tokens union_term_depth left (behinds_with (lexeme.Word word.Union) (union_term left inner) left union_sound)) (λ more.
      built (roll-Query (record { first = first; rest = more })) _ _ (law.query_tokens-roll first more) (λ h. rw (law.query_depth-roll first more) (omega arith)))))

pub inside_sound : (left : ℕ) → Sound (inside left) query_tokens (λ q. query_depth q + 1) left
unfolding inside
inside_sound zero = record { spells = λ ts x rest e. cc }
inside_sound (suc left) = raised left (level_sound left (inside left) (inside_sound left))

pub query_sound : (left : ℕ) → Sound (query left) query_tokens query_depth left
query_sound left = level_sound left (inside left) (inside_sound left)
