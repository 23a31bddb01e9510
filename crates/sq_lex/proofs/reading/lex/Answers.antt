-- Left open for lex: that the loop starts with its invariant; answered by ReadingLemmas and Rows.
use Rattle.std.proofs.Common.{rules}
use Rattle.sq_lex.specs.Reading.{reading}
use Rattle.sq_lex.proofs.ReadingLemmas.{followed-nil}
use Rattle.sq_lex.proofs.Rows.{row_start}
use Rattle.sq_lex.proofs.reading.lex.Goals as goal

pub loop-at-init : goal.loop-at-init
unfolding reading
loop-at-init c = record {
  whole = search (rules, followed-nil);
  row = row_start _ _ _ (search rules) (search rules);
  within = search rules;
}
