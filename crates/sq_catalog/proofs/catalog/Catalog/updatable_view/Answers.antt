-- Left open for Catalog::updatable_view: the clause over; answered without a law.
use Rattle.sq_catalog.proofs.catalog.Catalog.updatable_view.Goals as goal

pub returns-in-Ok-clause-over : goal.returns-in-Ok-clause-over
returns-in-Ok-clause-over c = c.view_of_parts.ensures.over c.args.check_option c.args.over c.view_parts-parts.ensures.over
