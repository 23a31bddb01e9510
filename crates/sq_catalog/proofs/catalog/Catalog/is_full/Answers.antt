-- Left open for Catalog::is_full: its result; answered by Entries.
use Rattle.std.proofs.Common.{◌+◌, ap, length, sym, ◌∙◌}
use Rattle.std.specs.Prelude.{nat_le}
use Rattle.sq_catalog.specs.Catalog.{Catalog}
use Rattle.sq_catalog.specs.Exact.{declared}
use Rattle.sq_catalog.proofs.Meaning.Entries.{bases_counted, views_counted}
use Rattle.sq_catalog.proofs.catalog.Catalog.is_full.Goals as goal

pub returns : goal.returns
returns c =
    let bases = c.len.ensures.len ∙ sym (bases_counted 0 c.self.inside.bases.entries c.self.invariant.5) ∙ ap (λ (s : Catalog). length (declared s).bases) c.self.view_is in
    let views = c.len-2.ensures.len ∙ sym (views_counted 0 c.self.inside.views.entries c.self.invariant.6) ∙ ap (λ (s : Catalog). length (declared s).views) c.self.view_is in
    λ i. nat_le 1000 (bases i + views i)
