-- Left open for texts_request_of: its result; answered without a law.
use Rattle.sq_words.proofs.reading.texts_request_of.Goals as goal

pub returns : goal.returns
returns c = record { schemas = c.in_ok-files.ensures; modules = c.in_ok-files-2.ensures }
