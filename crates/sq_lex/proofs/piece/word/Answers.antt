-- Left open for word: what the call of folded asks for; answered by Longest.
use Rattle.sq_lex.proofs.Longest.{word_taken}
use Rattle.sq_lex.proofs.piece.word.Goals as goal

pub folded-name-requires : goal.folded-name-requires
folded-name-requires c = word_taken _ _ c.requires c.run-size.ensures.value c.if-size-gt18.false
