-- Left open for reserved: its result; answered by FirstLetters.
use Rattle.sq_lex.proofs.FirstLetters.{looked_up}
use Rattle.sq_lex.proofs.reserved.reserved.Goals as goal

pub returns : goal.returns
returns c = looked_up c.args.spelling.now _ _ _ c.in-len1-up.len_at_least c.if-letter-lt65.false c.if-letter-gt90.false c.start.ensures c.start-2.ensures c.lookup_between.ensures
