-- Left open for fetch_cursor: what the call of fetch_row asks for, and the clause read; answered by Metering.
use Rattle.sq_session.specs.Step.{ending}
use Rattle.sq_session.proofs.Calls.Metering.{however}
use Rattle.sq_session.proofs.fetch.fetch_cursor.Goals as goal

pub fetch_row-requires-clause-taken : goal.fetch_row-requires-clause-taken
fetch_row-requires-clause-taken g c = let finds = rw c.in-Rows.is at c.requires.finds in finds.taken

pub returns-in-Rows-clause-read : goal.returns-in-Rows-clause-read
returns-in-Rows-clause-read g c = rw c.in-Rows.is (however (ending c.fetch_row.result) c.requires.meter)
