-- Left open for Name::codes: the clause printable; answered by Spelled.
use Rattle.std.proofs.Common.{subst}
use Rattle.sq_lex.specs.Name.{IsWordSpelling}
use Rattle.sq_lex.proofs.Spelled.{word_prints}
use Rattle.sq_lex.proofs.name.Name.codes.Goals as goal

pub returns-clause-printable : goal.returns-clause-printable
returns-clause-printable c = word_prints _ (subst IsWordSpelling c.self.view_is c.self.invariant.spelled)
