-- Left open for Catalog::plain_view: the clause next; answered without a law.
use Rattle.std.proofs.Common.{rules, refl, ap}
use Rattle.sq_bound.specs.declared.condition.TablePlace.TheVariants.{View}
use Rattle.sq_catalog.proofs.catalog.Catalog.plain_view.Goals as goal

pub returns-clause-next : goal.returns-clause-next
returns-clause-next c = record {
  named = (refl, refl);
  stored = record { over = tt; body = tt; itself = tt; places = tt };
  place = ap View c.next_view.ensures.place;
  leaf = tt;
  body = search rules;
}
