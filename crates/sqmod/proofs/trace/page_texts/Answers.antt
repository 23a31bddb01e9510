-- Left open for page_texts: its result; answered without a law.
use Rattle.std.proofs.Common.{length}
use Rattle.sqmod.proofs.trace.page_texts.Goals as goal

pub returns-in-Ok : goal.returns-in-Ok
returns-in-Ok c = c.page_script.ensures (length c.args.texts.now.schemas.items) (length c.args.texts.now.modules.items)
