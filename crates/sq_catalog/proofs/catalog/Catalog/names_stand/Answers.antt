-- Left open for Catalog::names_stand: its result; answered by UserNames.
use Rattle.std.proofs.Common.{refl, subst}
use Rattle.sq_catalog.proofs.Meaning.UserNames.{Holds, names_stand}
use Rattle.sq_catalog.proofs.catalog.Catalog.names_stand.Goals as goal

pub returns : goal.returns
returns c =
    names_stand c.args.self.now
    (subst Holds c.self.view_is
    (record {
      tables = refl;
      columns = refl;
      view_names = refl;
      seen_views = refl;
      bases_stored = c.self.invariant.0;
      views_stored = c.self.invariant.1;
      bases_formed = c.self.invariant.2;
      views_formed = c.self.invariant.3;
      bases_stand = c.self.invariant.5;
      views_stand = c.self.invariant.6;
    }))
