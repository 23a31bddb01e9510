-- Left open for Held::has: its result; answered by Grants.
use Rattle.std.proofs.Common.{◌∙◌}
use Rattle.sq_catalog.proofs.Rights.Grants.{any_equal}
use Rattle.sq_catalog.proofs.held.Held.has.Goals as goal

pub returns : goal.returns
returns c = c.contains.ensures ∙ any_equal c.args.grant.now c.args.self.now.grants.keys
