-- Left open for specification_term: the clauses finds and columns; answered by Behind and Finds.
use Rattle.std.proofs.Common.{refl, subst}
use Rattle.sq_bound.specs.declared.query.BoundTerm.TheVariants as bound
use Rattle.sq_binding.specs.QueryExpression.{NumberedQuery}
use Rattle.sq_binding.specs.Seen.{select_seen}
use Rattle.sq_binder.specs.Found.{Finds}
use Rattle.sq_binder.proofs.OneByOne.Behind.{made}
use Rattle.sq_binder.proofs.OneByOne.Finds.{makes_found}
use Rattle.sq_binder.specs.Query.{as_query}
use Rattle.sq_binding.specs.SeenQuery.{term_seen}
use Rattle.sq_binding.proofs.Standing.SeenQueries.{specification_made, term_seen-Specification}
use Rattle.sq_binder.proofs.query.specification_term.Goals as goal

pub returns-clause-finds : goal.returns-clause-finds
returns-clause-finds c = λ b before found.
    let x = c.in_ok-part.field-0 in
    makes_found select_seen term_seen (as_query b) b (λ q. NumberedQuery.select q) (made b (λ q. NumberedQuery.select q)) before x (record { part = bound.Specification x.part; brought = x.brought })
    (subst (λ r. Finds select_seen b before r) c.in_ok-part.was found) refl (term_seen-Specification x.part)

pub returns-clause-columns : goal.returns-clause-columns
returns-clause-columns c = specification_made c.in_ok-part.field-0.part
