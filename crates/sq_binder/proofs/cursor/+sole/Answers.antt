-- Left open for the functions of +sole: the results; answered by Queries.
use Rattle.std.proofs.Common.{◌≡◌, true, false, sym, ap, ◌∙◌}
use Rattle.sq_tree.specs.declared.query.QueryTerm.{QueryTerm}
use Rattle.sq_tree.specs.declared.query.QueryTerm.TheVariants as term
use Rattle.sq_meaning.proofs.SpelledLevels.{query_term_of-Bracketed, query_term_of-Specification}
use Rattle.sq_meaning.specs.Spelled.{query_term_of}
use Rattle.sq_meaning.specs.WellFormedStatement.{only_specification}
use Rattle.sq_binder.proofs.WholeQueries.Queries.{query_alone, several_none}
use Rattle.sq_binder.proofs.cursor.+sole.Goals as goal

pub sole_specification-returns-then-is_empty : goal.sole_specification-returns-then-is_empty
sole_specification-returns-then-is_empty t c = λ own.
    c.sole_term.ensures own ∙ ap only_specification (sym (query_alone own c.args.query.now (c.is_empty.ensures.0 c.if-is_empty.true)))

pub sole_specification-returns-else-is_empty : goal.sole_specification-returns-else-is_empty
sole_specification-returns-else-is_empty t c = λ own.
    sym (several_none own c.args.query.now (λ none. let no : true ≡ false = sym (c.is_empty.ensures.1 none) ∙ c.if-is_empty.false in cc))

pub sole_term-returns-in-Specification : goal.sole_term-returns-in-Specification
sole_term-returns-in-Specification t c = λ own.
    sym (ap (λ (x : QueryTerm). only_specification (query_term_of own x)) c.in-Specification.is ∙ ap only_specification (query_term_of-Specification own c.in-Specification.query))

pub sole_term-returns-in-Bracketed : goal.sole_term-returns-in-Bracketed
sole_term-returns-in-Bracketed t c = λ own.
    let q = c.get.result.now in
    c.sole_specification.ensures own
    ∙ ap only_specification (sym (ap (query_term_of own) (c.in-Bracketed.is ∙ ap term.Bracketed (sym c.get.ensures)) ∙ query_term_of-Bracketed own q))
