-- Left open for like: the clause cutting; answered by Pieces.
use Rattle.sq_value.proofs.Pieces.{cuts_are_pieces}
use Rattle.sq_value.proofs.pattern.like.Goals as goal

pub returns-clause-cutting : goal.returns-clause-cutting
returns-clause-cutting c = cuts_are_pieces
