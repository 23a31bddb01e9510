use Rattle.std.proofs.Common.{◌≡◌, take}
use Rattle.std.specs.List.{filter}
use Rattle.sq_lex.specs.Token.{lexemes}
use Rattle.sq_advice.specs.Expected.{may_follow}
use Rattle.sq_advice.proofs.expected.find_expected.Given as goal

abbrev pub invariant-loop-token : goal.invariant-loop-token
invariant-loop-token l = record {
  before : l.before.items ≡ l.initial.before.items;
  fit : lexemes l.fit.items ≡ filter (may_follow l.kind (lexemes l.initial.before.items)) (lexemes (take l.token-index l.tried));
}
