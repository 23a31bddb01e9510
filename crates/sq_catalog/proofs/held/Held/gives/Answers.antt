-- Left open for Held::gives: its result; answered by Found and Grants.
use Rattle.std.proofs.Common.{sym, ◌∙◌}
use Rattle.sq_catalog.specs.Exact.{name_in}
use Rattle.sq_catalog.specs.Held.{grants_held, privilege_of}
use Rattle.sq_catalog.proofs.OneByOne.Found.{first_found, second_found}
use Rattle.sq_catalog.proofs.Rights.Grants.{given}
use Rattle.sq_catalog.proofs.held.Held.gives.Goals as goal

pub returns-then-has : goal.returns-then-has
returns-then-has c =
    first_found _ _ (sym c.if-has.true ∙ c.has.ensures) c.if-has.true ∙ given c.args.to_grant c.args.user (name_in c.args.table.now) (privilege_of c.args.privilege.now) (grants_held c.args.self.now)

pub returns-else-has : goal.returns-else-has
returns-else-has c =
    second_found _ _ (sym c.if-has.false ∙ c.has.ensures) c.has-else-has.ensures ∙ given c.args.to_grant c.args.user (name_in c.args.table.now) (privilege_of c.args.privilege.now) (grants_held c.args.self.now)
