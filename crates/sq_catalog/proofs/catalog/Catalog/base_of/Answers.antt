-- Left open: the call of assemble_base, and the clauses checks and exact; answered by Stored and others.
use Rattle.std.proofs.Common.{◌≡◌, List, length, map, ap, Ok, IfOk, sym, subst, ◌∙◌}
use Rattle.sq_bound.specs.declared.condition.BoundCond.{BoundCond}
use Rattle.sq_binding.specs.Seen.{cond_seen}
use Rattle.sq_binding.specs.Reference.{bound_reference}
use Rattle.sq_catalog.specs.Exact.{declared}
use Rattle.sq_catalog.specs.Fault.{Makes}
use Rattle.sq_catalog.specs.Reference.{found_seen, keys_with, references_made}
use Rattle.sq_catalog.specs.Table.{AreChecksMade, held_declared}
use Rattle.sq_catalog.specs.Written.{conditions_lent}
use Rattle.sq_catalog.specs.declared.reference.FoundReference.{FoundReference}
use Rattle.sq_catalog.proofs.Growth.Stored.{by_keys_at}
use Rattle.sq_catalog.proofs.CreateTable.TablesMade.{base_is, base_stop, own_here, parts_here, references_here}
use Rattle.sq_catalog.proofs.OneByOne.Turns.{handed_on}
use Rattle.sq_catalog.proofs.catalog.Catalog.base_of.Goals as goal

pub assemble_base-requires-clause-references : goal.assemble_base-requires-clause-references
assemble_base-requires-clause-references c =
    let bound = rw c.in_ok-bound.ensures.values.0 at c.bound_references-bound.ensures.refer in
    let parts = rw c.in_ok-bound.ensures.values.1 at c.base_parts-parts.ensures.count in
    by_keys_at (keys_with c.bases.result.now c.args.draft.now.keys.columns) (length c.in_ok-bound.parts.columns) (length c.args.columns.now) c.in_ok-bound.bound.references
    (parts ∙ sym c.requires.columns.width) bound

pub returns-clause-checks : goal.returns-clause-checks
returns-clause-checks c =
    let parts = rw c.in_ok-bound.ensures.values.1 at c.base_parts-parts.ensures.checks in
    subst (λ (cs : List BoundCond). AreChecksMade c.args.user c.args.name.now c.args.columns.now (conditions_lent c.args.draft.now.written.checks.items) cs) (sym c.assemble_base.ensures.parts.checks) parts

pub returns-in_err-bound-clause-exact : goal.returns-in_err-bound-clause-exact
returns-in_err-bound-clause-exact c =
    let draft = c.args.draft.now in
    let catalog = declared c.args.self.now in
    let columns = c.args.columns.now in
    let before = c.bases.result.now in
    handed_on _ _ c.from_residual.result c.in_err-bound.field-0.0 c.from_residual.ensures.1
    (base_stop catalog c.args.user c.args.name.now draft columns before c.requires.draft.of c.requires.draft.named c.requires.columns.seen (ap length c.bases.ensures ∙ sym c.next_base-place.ensures.place ∙ c.next_base-place.ensures.exact)
    (λ bound. (bound.references, bound.are_permitted)) (λ parts. (map cond_seen parts.checks, held_declared draft.columns.items parts.columns)) c.bound_references-bound.result c.base_parts-parts.result
    (subst (λ (fs : List FoundReference). Makes (λ bound. (bound.references, bound.are_permitted)) (references_made (bound_reference catalog c.args.user (own_here catalog c.args.user c.args.name.now draft columns before)) (map found_seen fs)) c.bound_references-bound.result)
    c.as_slice.ensures.value c.bound_references-bound.ensures.exact)
    c.base_parts-parts.ensures.exact c.in_err-bound.field-0.0 c.in_err-bound.ensures.fault)

pub returns-clause-exact : goal.returns-clause-exact
returns-clause-exact c =
    let draft = c.args.draft.now in
    let catalog = declared c.args.self.now in
    let columns = c.args.columns.now in
    let before = c.bases.result.now in
    let bound = c.in_ok-bound.bound in
    let parts = c.in_ok-bound.parts in
    let references = subst (λ (fs : List FoundReference). Makes (λ bound. (bound.references, bound.are_permitted)) (references_made (bound_reference catalog c.args.user (own_here catalog c.args.user c.args.name.now draft columns before)) (map found_seen fs)) c.bound_references-bound.result)
    c.as_slice.ensures.value c.bound_references-bound.ensures.exact in
    base_is catalog c.args.user c.args.name.now draft columns before c.requires.draft.of c.requires.draft.named c.requires.columns.seen (ap length c.bases.ensures ∙ sym c.next_base-place.ensures.place ∙ c.next_base-place.ensures.exact)
    c.assemble_base.result.0 c.assemble_base.result.1 parts.columns parts.checks
    (subst (Makes (λ bound. (bound.references, bound.are_permitted)) (references_here catalog c.args.user c.args.name.now draft columns before)) c.in_ok-bound.ensures.values.0 references ∙ (λ i. Ok (sym c.assemble_base.ensures.references.0 i, sym c.assemble_base.ensures.references.1 i)))
    (subst (Makes (λ parts. (map cond_seen parts.checks, held_declared draft.columns.items parts.columns)) (parts_here catalog c.args.user c.args.name.now draft columns before)) c.in_ok-bound.ensures.values.1 c.base_parts-parts.ensures.exact)
    (c.assemble_base.ensures.place ∙ c.next_base-place.ensures.exact) c.assemble_base.ensures.parts.columns
    (c.assemble_base.ensures.parts.keys ∙ subst (λ r. IfOk r (λ parts. parts.keys ≡ draft.keys.columns)) c.in_ok-bound.ensures.values.1 c.base_parts-parts.ensures.keys) c.assemble_base.ensures.primary c.assemble_base.ensures.parts.checks
