-- Left open for Catalog::draft_parts: the clause exact; answered by Turns.
use Rattle.std.proofs.Common.{List, map, subst}
use Rattle.std.specs.Borrow.{Bor}
use Rattle.sq_tree.specs.declared.schema.ColumnDefinition.{ColumnDefinition}
use Rattle.sq_meaning.specs.Schema.{has_name_twice}
use Rattle.sq_meaning.specs.declared.refusal.SchemaFault.TheVariants.{NameTwice}
use Rattle.sq_binding.specs.Column.{typed_column}
use Rattle.sq_binding.specs.ElementOutcome.{and_then, each, refused_if}
use Rattle.sq_catalog.specs.Draft.{written_names}
use Rattle.sq_catalog.specs.Exact.{declared, name_in}
use Rattle.sq_catalog.specs.Fault.{Makes}
use Rattle.sq_catalog.specs.Reference.{found_seen, reference_seen}
use Rattle.sq_catalog.specs.Table.{names_found, typed_seen}
use Rattle.sq_catalog.specs.Written.{definitions_lent}
use Rattle.sq_catalog.specs.declared.written.WrittenKey.{WrittenKey}
use Rattle.sq_catalog.proofs.OneByOne.Turns.{both_makes}
use Rattle.sq_catalog.proofs.catalog.Catalog.draft_parts.Goals as goal

pub returns-clause-exact : goal.returns-clause-exact
returns-clause-exact c =
    let w = c.args.written.now in
    both_makes (λ found. (found.0.columns, map found_seen found.1.items)) (λ columns. map typed_seen columns.items)
    (and_then (refused_if NameTwice (has_name_twice (written_names w))) (λ u. names_found (declared c.args.self.now) c.args.user (name_in c.args.name.now) (written_names w) (map (λ (key : WrittenKey). key.columns) w.keys.items) (map reference_seen w.references.items)))
    (each typed_column (definitions_lent w.columns.items)) c.found_in-found.result c.typed_columns-columns.result c.found_in-found.ensures.exact
    (subst (λ (ds : List (Bor ColumnDefinition)). Makes (λ columns. map typed_seen columns.items) (each typed_column (definitions_lent ds)) c.typed_columns-columns.result) c.as_slice.ensures.value c.typed_columns-columns.ensures.exact)
    c.pair_of.result c.pair_of.ensures.values c.pair_of.ensures.fault
