-- Left open for copy_sources: its result; answered by Left.
use Rattle.sqmod.proofs.Left.{sources_copied}
use Rattle.sqmod.proofs.judged.copy_sources.Goals as goal

pub returns-in-Ok : goal.returns-in-Ok
returns-in-Ok c =
    sources_copied c.args.sources.now (record { schemas = c.in_ok-schemas.schemas; modules = c.in-Ok.modules })
    (rw c.as_slice.ensures.value at c.in_ok-schemas.ensures)
    (rw c.as_slice-2.ensures.value at c.in-Ok.ensures)
