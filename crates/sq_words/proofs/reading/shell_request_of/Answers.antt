-- Left open for shell_request_of: the clause made; answered without a law.
use Rattle.sq_words.proofs.reading.shell_request_of.Goals as goal

pub returns-clause-made : goal.returns-clause-made
returns-clause-made c = record { texts = c.in_ok-texts_request_of.ensures; row_numbers = c.row_numbers.ensures.given }
