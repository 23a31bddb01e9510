-- Left open for Catalog::check_place: the clause exact; answered by Entries.
use Rattle.sq_catalog.proofs.Meaning.Entries.{place_asked}
use Rattle.sq_catalog.specs.Exact.{declared, name_in}
use Rattle.sq_catalog.proofs.catalog.Catalog.check_place.Goals as goal

pub returns-clause-exact : goal.returns-clause-exact
returns-clause-exact c =
    place_asked (declared c.args.self.now) c.args.user (name_in c.args.full_name.now) c.ne.result c.is_full.result c.refused_if-2.result c.ne.ensures c.is_full.ensures c.in_ok-refused_if.ensures.exact c.refused_if-2.ensures.exact
