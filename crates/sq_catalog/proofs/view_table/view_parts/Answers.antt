-- Left open: what the call of placed_columns asks for, and the clauses columns and over; answered by Seen.
use Rattle.std.proofs.Common.{◌≡◌, ℕ, List, Some, ap, length, sym, subst, ◌∙◌}
use Rattle.std.specs.List.{AllZip, slice_get}
use Rattle.sq_bound.specs.WellFormed.{base_kinds, kinds_of_columns}
use Rattle.sq_catalog.proofs.Meaning.Seen.{parts_above, parts_over, zip_length}
use Rattle.sq_catalog.proofs.view_table.view_parts.Goals as goal

pub placed_columns-columns-requires : goal.placed_columns-columns-requires
placed_columns-columns-requires c = ap length c.as_slice.ensures ∙ zip_length (λ x. x.kind) (base_kinds c.args.over.target.leaf.table) c.args.over.columns c.args.columns.now c.requires

pub returns-clause-columns : goal.returns-clause-columns
returns-clause-columns c =
    parts_over c.pair_of.result c.placed_columns-columns.result c.view_leaf.result (base_kinds c.args.over.target.leaf.table) c.as_slice.result.now (kinds_of_columns c.args.columns.now) c.pair_of.ensures.values c.placed_columns-columns.ensures.columns
    (subst (λ (ps : List ℕ). AllZip (λ p k. slice_get (base_kinds c.args.over.target.leaf.table) p ≡ Some k) ps (kinds_of_columns c.args.columns.now)) (sym c.as_slice.ensures) c.requires)

pub returns-clause-over : goal.returns-clause-over
returns-clause-over c =
    parts_above c.pair_of.result c.placed_columns-columns.result c.view_leaf.result c.args.check_option c.args.over c.as_slice.result.now c.pair_of.ensures.values c.as_slice.ensures c.placed_columns-columns.ensures.places
    c.view_leaf.ensures.base c.view_leaf.ensures.conditions c.view_leaf.ensures.demanded
