-- Left open for Symbol::is: the clause same; answered by SymbolLemmas.
use Rattle.sq_lex.proofs.SymbolLemmas.{same_symbol_ranks}
use Rattle.sq_lex.proofs.symbol.Symbol.is.Goals as goal

pub returns-clause-same : goal.returns-clause-same
returns-clause-same c = same_symbol_ranks _ _ c.args.self c.args.other c.rank.ensures c.rank-2.ensures
