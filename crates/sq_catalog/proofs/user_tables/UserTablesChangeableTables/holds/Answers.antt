-- Left open for UserTablesChangeableTables::holds: its result; answered without a law.
use Rattle.std.proofs.Common.{ap, false, ◌∙◌}
use Rattle.sq_binding.specs.Catalog.{may}
use Rattle.sq_catalog.specs.Exact.{declared}
use Rattle.sq_catalog.proofs.user_tables.UserTablesChangeableTables.holds.Goals as goal

pub returns : goal.returns
returns c = c.may.ensures ∙ ap (may (declared c.args.self.now.catalog.now) false c.args.self.now.user (record { user = c.args.user; name = c.args.name })) c.privilege_needed-privilege.ensures
