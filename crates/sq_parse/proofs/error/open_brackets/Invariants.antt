use Rattle.std.proofs.Common.{◌≡◌, ◌≤◌, take}
use Rattle.sq_lex.specs.Token.{lexemes}
use Rattle.sq_grammar.specs.Brackets.{open_brackets}
use Rattle.sq_parse.proofs.error.open_brackets.Given as goal

abbrev pub invariant-loop-token : goal.invariant-loop-token
invariant-loop-token l = record {
  value : l.open ≡ open_brackets (lexemes (take l.token-index l.tokens));
  short : l.open ≤ l.token-index;
}
