-- Left open for Catalog::grants_of: its result; answered by Granting and ViewHeld.
use Rattle.std.proofs.Common.{map}
use Rattle.sq_catalog.specs.Exact.{declared, entry_declared, name_in, names_in}
use Rattle.sq_catalog.specs.Held.{grant_seen}
use Rattle.sq_catalog.proofs.Rights.Granting.{makes_there, none_there}
use Rattle.sq_catalog.proofs.CreateView.ViewHeld.{entry_names}
use Rattle.sq_catalog.proofs.catalog.Catalog.grants_of.Goals as goal

pub returns-in-Some : goal.returns-in-Some
returns-in-Some c =
    let name = c.full_name-name.result in
    let table = c.in-Some.table.now in
    makes_there (declared c.args.self.now) c.args.user c.args.statement.now (name_in name) c.full_name-name.ensures.exact (map grant_seen) c.grants_over.result (entry_declared name table) (names_in table.columns)
    c.in-Some.ensures.exact (entry_names name table c.args.self.now.bases table.body c.in-Some.ensures.of.stored.body) c.grants_over.ensures

pub returns-in-None : goal.returns-in-None
returns-in-None c = none_there (declared c.args.self.now) c.args.user c.args.statement.now (name_in c.full_name-name.result) c.full_name-name.ensures.exact c.in-None.ensures.exact
