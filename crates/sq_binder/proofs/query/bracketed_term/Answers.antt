-- Left open for bracketed_term: the clauses finds and columns; answered by Behind and Finds.
use Rattle.std.proofs.Common.{refl, sym, ap, subst, ◌∙◌}
use Rattle.std.proofs.lemmas.Result.{IfOk-at_ok}
use Rattle.sq_bound.specs.declared.query.BoundQuery.{BoundQuery}
use Rattle.sq_bound.specs.declared.query.BoundTerm.TheVariants as bound
use Rattle.sq_binder.specs.Found.{Finds}
use Rattle.sq_binder.specs.declared.found.Found.{Found}
use Rattle.sq_binder.proofs.OneByOne.Behind.{itself}
use Rattle.sq_binder.proofs.OneByOne.Finds.{makes_found}
use Rattle.sq_binding.specs.SeenQuery.{HaveTheirColumns, query_seen, term_seen}
use Rattle.sq_binding.proofs.Standing.SeenQueries.{bracketed_made, term_seen-Bracketed}
use Rattle.sq_binder.proofs.query.bracketed_term.Goals as goal

pub returns-in-Ok-clause-finds : goal.returns-in-Ok-clause-finds
returns-in-Ok-clause-finds c = λ b before found.
    let x = c.in_ok-part.field-0 in
    makes_found query_seen term_seen b b (λ q. q) (itself b) before x (record { part = bound.Bracketed c.in-Ok.query; brought = x.brought })
    (subst (λ r. Finds query_seen b before r) c.in_ok-part.was found) refl (term_seen-Bracketed c.in-Ok.query ∙ ap query_seen c.in-Ok.ensures)

pub returns-in-Ok-clause-columns : goal.returns-in-Ok-clause-columns
returns-in-Ok-clause-columns c =
    bracketed_made c.in-Ok.query (subst HaveTheirColumns (sym c.in-Ok.ensures) (IfOk-at_ok (λ (f : Found BoundQuery). HaveTheirColumns f.part) c.in_ok-part.was c.requires))
