-- Left open for Session::inside: the clause whole; answered without a law.
use Rattle.std.proofs.Common.{subst, sym}
use Rattle.sq_catalog.specs.Catalog.{column_kinds}
use Rattle.sq_session.specs.Cursors.{IsWhole}
use Rattle.sq_session.specs.Session.{SessionIsWhole}
use Rattle.sq_session.proofs.session.Session.inside.Goals as goal

-- The parts are read through a second reference, to what the first one leads to.
pub returns-clause-whole : goal.returns-clause-whole
returns-clause-whole g c =
    let inside = c.self.inside in
    let whole : SessionIsWhole (column_kinds inside.catalog) inside.catalog.bases inside.program c.args.self.now.state = record {
      fits = c.self.invariant.0;
      well_formed = c.self.invariant.1;
      whole = subst (λ s. IsWhole (column_kinds inside.catalog) inside.catalog.bases inside.program.cursors.items s.state) c.self.view_is c.self.invariant.2;
    } in
    subst (λ x. SessionIsWhole (column_kinds x.catalog) x.catalog.bases x.program c.args.self.now.state) (sym c.self-inside.view_is) whole
