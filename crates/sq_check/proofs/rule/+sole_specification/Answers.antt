-- Left open for the functions of +sole_specification: the results; answered by Sole.
use Rattle.std.proofs.Common.{◌∙◌, ap, sym, true≢false}
use Rattle.std.specs.Option.{option_map}
use Rattle.sq_tree.specs.declared.query.QueryTerm.TheVariants as term
use Rattle.sq_meaning.proofs.SpelledLevels.{query_term_of-Bracketed, query_term_of-Specification}
use Rattle.sq_meaning.specs.Spelled.{query_of, query_term_of}
use Rattle.sq_check.proofs.Sole.{same_sole, sole_alone, sole_union}
use Rattle.sq_check.proofs.rule.+sole_specification.Goals as goal

pub sole_specification-returns-then-is_empty : goal.sole_specification-returns-then-is_empty
sole_specification-returns-then-is_empty t c =
    sole_alone c.args.query.now (option_map (λ q. q.now) c.sole_term.result) (c.is_empty.ensures.0 c.if-is_empty.true) c.sole_term.ensures

pub sole_specification-returns-else-is_empty : goal.sole_specification-returns-else-is_empty
sole_specification-returns-else-is_empty t c =
    sole_union c.args.query.now (λ none. true≢false (sym (c.is_empty.ensures.1 none) ∙ c.if-is_empty.false))

pub sole_term-returns-in-Specification : goal.sole_term-returns-in-Specification
sole_term-returns-in-Specification t c = λ own. ap (query_term_of own) c.in-Specification.is ∙ query_term_of-Specification own c.in-Specification.query

pub sole_term-returns-in-Bracketed : goal.sole_term-returns-in-Bracketed
sole_term-returns-in-Bracketed t c =
    let q = c.get.result.now in
    same_sole (λ own. query_of own q) (λ own. query_term_of own c.args.term.now) (option_map (λ q. q.now) c.sole_specification.result)
    (λ own. ap (query_term_of own) (c.in-Bracketed.is ∙ ap term.Bracketed (sym c.get.ensures)) ∙ query_term_of-Bracketed own q) c.sole_specification.ensures
