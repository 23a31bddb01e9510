-- Left open for Catalog::next_base: the clauses place and exact; answered by Added and Entries.
use Rattle.std.proofs.Common.{ap, length, sym, ◌∙◌}
use Rattle.sq_catalog.specs.Catalog.{Catalog}
use Rattle.sq_catalog.specs.Exact.{declared}
use Rattle.sq_catalog.proofs.Growth.Added.{described_long}
use Rattle.sq_catalog.proofs.Meaning.Entries.{bases_counted}
use Rattle.sq_catalog.proofs.catalog.Catalog.next_base.Goals as goal

pub returns-clause-place : goal.returns-clause-place
returns-clause-place c = c.len.ensures.len ∙ sym (described_long c.self.inside.base_tables.items c.self.inside.bases.entries c.self.invariant.4) ∙ ap (λ (s : Catalog). length s.bases) c.self.view_is

pub returns-clause-exact : goal.returns-clause-exact
returns-clause-exact c = c.len.ensures.len ∙ sym (bases_counted 0 c.self.inside.bases.entries c.self.invariant.5) ∙ ap (λ (s : Catalog). length (declared s).bases) c.self.view_is
