-- Left open: the call of refused_again, and the clauses refused and placed; answered by Refused and Spelled.
use Rattle.sq_perform.proofs.Refused.{named, one_of_meaning, placed_among}
use Rattle.sq_perform.proofs.Spelled.{spelled_read}
use Rattle.sq_perform.proofs.texts.refused_text.Goals as goal

pub refused_again-requires : goal.refused_again-requires
refused_again-requires g c =
    rw c.as_slice.ensures.value
    (spelled_read g.T.TextTree.tokens g.T.TextTree.depth c.args.all.now c.requires.spelled.0 c.args.number c.index-all-number.result c.requires.spelled.1 c.requires.there c.index-all-number.is)

pub returns-clause-refused : goal.returns-clause-refused
returns-clause-refused g c =
    one_of_meaning g.T.TextTree.rule g.T.TextTree.tokens g.T.TextTree.depth c.args.all.now c.args.number c.index-all-number.result c.refused_again.result c.requires.spelled.0
    c.requires.there c.index-all-number.is c.requires.spelled.1 (named c.args.number c.args.what c.refused_again.result c.requires.meaning c.refused_again.ensures.what)

pub returns-clause-placed : goal.returns-clause-placed
returns-clause-placed g c =
    placed_among c.args.all.now c.args.number c.index-all-number.result c.args.token c.refused_again.result c.requires.there c.index-all-number.is
    (rw c.as_slice.ensures.value at c.refused_again.ensures.placed)
