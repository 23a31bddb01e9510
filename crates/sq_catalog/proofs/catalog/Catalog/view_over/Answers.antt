-- Left open for Catalog::view_over: the invariant of its result; answered by Seen.
use Rattle.std.proofs.Common.{refl}
use Rattle.sq_catalog.proofs.Meaning.Seen.{columns_seen}
use Rattle.sq_catalog.proofs.catalog.Catalog.view_over.Goals as goal

pub invariant_of-result : goal.invariant_of-result
invariant_of-result c = record {
  leaf_columns = columns_seen c.args.leaf.table c.args.columns refl c.requires.columns.places;
  leaf_kinds = c.requires.columns.places;
}
