-- Left open for specification: its result; answered by Specified and Steps.
use Rattle.std.proofs.Common.{Ok, add-zero, sym, subst, ap, ◌∙◌}
use Rattle.sq_binding.specs.Found.{after}
use Rattle.sq_binder.specs.Found.{Finds, counts_of, found_of}
use Rattle.sq_binder.specs.Specification.{first, parts_seen, specification_of}
use Rattle.sq_binder.proofs.Clauses.Specified.{specified_fault, specified_found}
use Rattle.sq_binder.proofs.OneByOne.Steps.{stops_by}
use Rattle.sq_binder.proofs.specification.specification.Goals as goal

pub returns-in-Some : goal.returns-in-Some
returns-in-Some c = λ b found.
    let parts : Finds parts_seen b (first c.args.before) (Ok c.in_ok-parts.parts) = subst (λ r. Finds parts_seen b (first c.args.before) r) c.in_ok-parts.was found in
    stops_by (specification_of c.args.is_star c.args.distinct b (counts_of c.args.before)) c.broken.result _ c.broken.ensures
    (specified_fault c.args.is_star c.args.distinct b (counts_of c.args.before) (found_of parts_seen c.in_ok-parts.parts) parts.0 c.in-Some.fault (sym c.fault_of.ensures ∙ c.in-Some.is))

pub returns-in-None : goal.returns-in-None
returns-in-None c = λ b found.
    let parts : Finds parts_seen b (first c.args.before) (Ok c.in_ok-parts.parts) = subst (λ r. Finds parts_seen b (first c.args.before) r) c.in_ok-parts.was found in
    let x = found_of parts_seen c.in_ok-parts.parts in (
      specified_found c.args.is_star c.args.distinct b (counts_of c.args.before) x parts.0 (sym c.fault_of.ensures ∙ c.in-None.is) ∙ ap Ok (sym c.make_specification.ensures.0),
      (λ i. record { functions = (c.make_specification.ensures.1 ∙ sym (add-zero c.args.before.functions)) i; subqueries = (c.make_specification.ensures.0 i).subqueries }) ∙ ap (after (counts_of c.args.before)) (sym c.make_specification.ensures.0),
    )
