-- Left open for UserTablesTables::table: its result; answered by UserNames.
use Rattle.std.proofs.Common.{ap}
use Rattle.std.specs.Option.{option_map}
use Rattle.sq_binding.specs.Catalog as definition
use Rattle.sq_catalog.specs.Exact.{declared}
use Rattle.sq_catalog.proofs.Meaning.UserNames.{lent}
use Rattle.sq_catalog.proofs.user_tables.UserTablesTables.table.Goals as goal

pub returns-in-None : goal.returns-in-None
returns-in-None c = ap (option_map (definition.named_table (declared c.args.self.now.catalog.now) c.args.self.now.user (record { user = c.args.user; name = c.args.name }))) c.in-None.ensures.exact

pub returns-in-Some : goal.returns-in-Some
returns-in-Some c =
    lent c.args.self.now.catalog.now c.args.self.now.user (record { user = c.args.user; name = c.args.name }) c.in-Some.table.now c.place.result c.as_slice.result.now c.may.result c.may-in-Some.result
    c.in-Some.ensures.of.stored c.in-Some.ensures.of.well_formed c.place.ensures c.as_slice.ensures c.may.ensures c.may-in-Some.ensures c.in-Some.ensures.exact
