use Rattle.std.proofs.Common.{◌≡◌, ◌≤◌, length}
use Rattle.sq_grammar.specs.Reading.{with_front, all, behind}
use Rattle.sq_grammar.specs.Cond as spec
use Rattle.sq_lex.specs.declared.lexeme.Lexeme.TheVariants as lexeme
use Rattle.sq_lex.specs.declared.word.Word.TheVariants as word
use Rattle.sq_phrase.proofs.condition.Grammar.more_tests.Given as goal

abbrev pub invariant-loop-tokens : goal.invariant-loop-tokens
invariant-loop-tokens g l = record {
  read : with_front l.items (all (behind (lexeme.Word word.And) (spec.must_be_test l.self.left (spec.inside l.self.left))) l.tokens) ≡ all (behind (lexeme.Word word.And) (spec.must_be_test l.self.left (spec.inside l.self.left))) l.fn.tokens;
  shorter : length l.tokens ≤ length l.fn.tokens;
}

abbrev pub decreases-loop-tokens : goal.decreases-loop-tokens
decreases-loop-tokens g l = length l.tokens
