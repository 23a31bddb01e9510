-- Left open for value_at: the clause there; answered without a law.
use Rattle.std.proofs.Common.{sym}
use Rattle.sq_catalog.proofs.catalog.value_at.Goals as goal

pub returns-clause-there : goal.returns-clause-there
returns-clause-there c = (c.in_ok-table.field-0-0.now, sym c.in_ok-table.ensures.entry)
