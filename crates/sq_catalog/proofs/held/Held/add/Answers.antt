-- Left open for Held::add: the clause added; answered by Grants.
use Rattle.std.proofs.Common.{ap, map, ◌∙◌}
use Rattle.sq_catalog.specs.Held.{grant_seen}
use Rattle.sq_catalog.proofs.Rights.Grants.{inserted}
use Rattle.sq_catalog.proofs.held.Held.add.Goals as goal

pub returns-in-Ok-clause-added : goal.returns-in-Ok-clause-added
returns-in-Ok-clause-added c = ap (map grant_seen) c.in-Ok.ensures.keys ∙ inserted c.args.grant.now c.args.self.now.grants.keys
