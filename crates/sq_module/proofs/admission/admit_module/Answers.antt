-- Left open for admit_module: the clauses once, first and taken; answered by Apart and Refused.
use Rattle.std.proofs.Common.{◌≡◌, ◌∙◌, List, None, ap, map, refl, subst, sym}
use Rattle.std.specs.Prelude.{IfErr}
use Rattle.sq_tree.specs.declared.module.ModuleItem.{ModuleItem}
use Rattle.sq_meaning.specs.ModuleRefusal.{at_item, cursor_name, first_repeated, procedure_name}
use Rattle.sq_meaning.specs.declared.refusal.ModuleFault.TheVariants as fault
use Rattle.sq_module.specs.FirstRefusal.{IsFaultFor, item_refusal, procedure_refusal}
use Rattle.sq_module.proofs.Apart.{admitted_once}
use Rattle.sq_module.proofs.Refused.{first_is, handed, is_same, later_is, none_at, none_of}
use Rattle.sq_module.proofs.admission.admit_module.Goals as goal

pub returns-in-Ok-clause-once : goal.returns-in-Ok-clause-once
returns-in-Ok-clause-once c =
    admitted_once c.as_slice-items.result.now c.in-Ok.procedures.items c.in_ok-cursors.cursors.entries c.in-Ok.ensures.openings c.in-Ok.ensures.admissible.opened c.in_ok-cursors.ensures.written

pub returns-in_err-refused_at-clause-first : goal.returns-in_err-refused_at-clause-first
returns-in_err-refused_at-clause-first c =
    let items = c.as_slice-items.result.now in
    let two = at_item c.args.text fault.TwoProcedures (first_repeated (map procedure_name items)) in
    let f = c.in_err-refused_at.field-0.0 in
    subst (λ (l : List ModuleItem). IfErr c.from_residual-in_err-refused_at.result (IsFaultFor (item_refusal c.args.text l))) c.as_slice-items.ensures
    (handed (IsFaultFor (item_refusal c.args.text items)) c.from_residual-in_err-refused_at.result f c.from_residual-in_err-refused_at.ensures.1
    (first_is two _ f (is_same _ two f (ap (at_item c.args.text fault.TwoProcedures) c.in_ok-place.ensures.first) c.in_err-refused_at.ensures.first)))

pub returns-in_err-cursors-clause-first : goal.returns-in_err-cursors-clause-first
returns-in_err-cursors-clause-first c =
    let items = c.as_slice-items.result.now in
    let place = first_repeated (map procedure_name items) in
    let f = c.in_err-cursors.field-0.0 in
    subst (λ (l : List ModuleItem). IfErr c.from_residual-in_err-cursors.result (IsFaultFor (item_refusal c.args.text l))) c.as_slice-items.ensures
    (handed (IsFaultFor (item_refusal c.args.text items)) c.from_residual-in_err-cursors.result f c.from_residual-in_err-cursors.ensures.1
    (later_is (at_item c.args.text fault.TwoProcedures place) _ f (none_at c.args.text fault.TwoProcedures place (sym c.in_ok-place.ensures.first ∙ c.in_ok-refused_at.ensures.taken))
    (first_is (at_item c.args.text fault.TwoCursors (first_repeated (map cursor_name items))) _ f c.in_err-cursors.ensures.first)))

pub returns-in-Ok-clause-taken : goal.returns-in-Ok-clause-taken
returns-in-Ok-clause-taken c =
    let items = c.as_slice-items.result.now in
    let place = first_repeated (map procedure_name items) in
    let cursors = first_repeated (map cursor_name items) in
    subst (λ (l : List ModuleItem). item_refusal c.args.text l ≡ None) c.as_slice-items.ensures
    (none_of (at_item c.args.text fault.TwoProcedures place) _ (none_at c.args.text fault.TwoProcedures place (sym c.in_ok-place.ensures.first ∙ c.in_ok-refused_at.ensures.taken))
    (none_of (at_item c.args.text fault.TwoCursors cursors) _ (none_at c.args.text fault.TwoCursors cursors c.in_ok-cursors.ensures.taken)
    (none_of (procedure_refusal c.args.text items) None c.in-Ok.ensures.taken refl)))

pub returns-in-Err-clause-first : goal.returns-in-Err-clause-first
returns-in-Err-clause-first c =
    let items = c.as_slice-items.result.now in
    let place = first_repeated (map procedure_name items) in
    let cursors = first_repeated (map cursor_name items) in
    subst (λ (l : List ModuleItem). IsFaultFor (item_refusal c.args.text l) c.in-Err.fault) c.as_slice-items.ensures
    (later_is (at_item c.args.text fault.TwoProcedures place) _ c.in-Err.fault (none_at c.args.text fault.TwoProcedures place (sym c.in_ok-place.ensures.first ∙ c.in_ok-refused_at.ensures.taken))
    (later_is (at_item c.args.text fault.TwoCursors cursors) _ c.in-Err.fault (none_at c.args.text fault.TwoCursors cursors c.in_ok-cursors.ensures.taken)
    (first_is (procedure_refusal c.args.text items) None c.in-Err.fault c.in-Err.ensures.first)))
