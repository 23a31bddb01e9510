-- Left open for row_numbers: the clauses given and limited; answered by Read.
use Rattle.std.proofs.Common.{◌∙◌}
use Rattle.std.specs.Str.Parse.{ExplainsUnsignedError, HasUnsignedDigitsIfOk, ParsesUnsigned}
use Rattle.clap.specs.Words.{found_of}
use Rattle.sq_words.proofs.Read.{row_numbers_read}
use Rattle.sq_words.proofs.reading.row_numbers.Goals as goal

pub returns-clause-given : goal.returns-clause-given
returns-clause-given c =
    let read = row_numbers_read
    (λ t r. ParsesUnsigned 64 10 t r × ExplainsUnsignedError 10 t r × HasUnsignedDigitsIfOk t r) (λ t r gives. gives.0)
    (found_of c.args.run.now) c.get_one.result c.get_one.ensures.none c.get_one.ensures.value c.requires in
    c.unwrap_or.ensures ∙ read.0

pub returns-clause-limited : goal.returns-clause-limited
returns-clause-limited c =
    let read = row_numbers_read
    (λ t r. ParsesUnsigned 64 10 t r × ExplainsUnsignedError 10 t r × HasUnsignedDigitsIfOk t r) (λ t r gives. gives.0)
    (found_of c.args.run.now) c.get_one.result c.get_one.ensures.none c.get_one.ensures.value c.requires in
    rw c.unwrap_or.ensures read.1
