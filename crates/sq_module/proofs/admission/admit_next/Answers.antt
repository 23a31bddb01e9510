-- Left open for admit_next: the clauses written, first and taken; answered by Refused and Repeats.
use Rattle.std.proofs.Common.{◌∙◌, sym}
use Rattle.sq_meaning.specs.ModuleRefusal.{module_refusal, name_refusal}
use Rattle.sq_module.specs.FirstRefusal.{IsFaultFor}
use Rattle.sq_module.proofs.Refused.{handed, is_same, later_is, module_refusal_is, name_taken, none_of}
use Rattle.sq_module.proofs.Repeats.{new_is}
use Rattle.sq_module.proofs.admission.admit_next.Goals as goal

pub returns-clause-written : goal.returns-clause-written
returns-clause-written c = (c.in_ok-one.one, c.in_ok-push.ensures.items, c.in_ok-one.ensures.written, c.in_ok-one.ensures.once)

pub returns-in_err-one-clause-first : goal.returns-in_err-one-clause-first
returns-in_err-one-clause-first c =
    let m = c.args.module.now in
    let earlier = c.args.names.now.keys in
    let f = c.in_err-one.field-0.0 in
    handed (IsFaultFor (module_refusal earlier c.args.text m)) c.from_residual-in_err-one.result f c.from_residual-in_err-one.ensures.1
    (is_same _ _ f (sym (module_refusal_is earlier c.args.text m))
    (later_is (name_refusal earlier c.args.text m) _ f (name_taken earlier c.args.text m (new_is _ _ c.in_ok-is_new.ensures.answer c.if-not-branch.false)) c.in_err-one.ensures.first))

pub returns-clause-taken : goal.returns-clause-taken
returns-clause-taken c =
    let m = c.args.module.now in
    let earlier = c.args.names.now.keys in
    module_refusal_is earlier c.args.text m
    ∙ none_of (name_refusal earlier c.args.text m) _ (name_taken earlier c.args.text m (new_is _ _ c.in_ok-is_new.ensures.answer c.if-not-branch.false)) c.in_ok-one.ensures.taken
