-- Left open for trace_texts: its result; answered without a law.
use Rattle.std.proofs.Common.{length}
use Rattle.sqmod.proofs.trace.trace_texts.Goals as goal

pub returns-in-Ok : goal.returns-in-Ok
returns-in-Ok g c = c.trace_script.ensures (length c.args.texts.now.schemas.items) (length c.args.texts.now.modules.items)
