-- Left open for columns_of: its result; answered by Queries.
use Rattle.std.proofs.Common.{map, sym, ap, subst, ◌∙◌}
use Rattle.sq_bound.specs.declared.query.BoundTerm.{BoundTerm}
use Rattle.sq_bound.specs.declared.query.BoundTerm.TheVariants as bound
use Rattle.sq_binding.specs.QueryExpression.{columns_of_query}
use Rattle.sq_binding.specs.Seen.{column_of}
use Rattle.sq_binding.specs.SeenQuery.{TermHasColumns, term_seen}
use Rattle.sq_binding.proofs.Standing.SeenQueries.{bracketed_has}
use Rattle.sq_binder.proofs.WholeQueries.Queries.{bracketed_columns, specification_columns}
use Rattle.sq_binder.proofs.query.columns_of.Goals as goal

pub returns-in-Specification : goal.returns-in-Specification
returns-in-Specification c =
    ap (map column_of) c.as_slice.ensures ∙ specification_columns c.in-Specification.query ∙ ap (λ (t : BoundTerm). columns_of_query (term_seen t)) (sym c.in-Specification.is)

pub returns-in-Bracketed : goal.returns-in-Bracketed
returns-in-Bracketed c =
    let q = c.get.result.now in
    let is = c.in-Bracketed.is ∙ ap bound.Bracketed (sym c.get.ensures) in
    ap (map column_of) c.as_slice-in-Bracketed.ensures ∙ bracketed_columns q (bracketed_has q (subst TermHasColumns is c.requires)) ∙ ap (λ (t : BoundTerm). columns_of_query (term_seen t)) (sym is)
