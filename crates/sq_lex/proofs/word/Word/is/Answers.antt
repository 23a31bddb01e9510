-- Left open for Word::is: the clause same; answered by WordLemmas.
use Rattle.sq_lex.proofs.WordLemmas.{same_ranks}
use Rattle.sq_lex.proofs.word.Word.is.Goals as goal

pub returns-clause-same : goal.returns-clause-same
returns-clause-same c = same_ranks _ _ c.args.self c.args.other c.rank.ensures c.rank-2.ensures
