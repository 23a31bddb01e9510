-- Left open: the clause first, and that the loop keeps its invariant; answered by Apart, Names and others.
use Rattle.std.proofs.Common.{◌∙◌, [], ap, arith, map, refl, subst, sym}
use Rattle.sq_module.specs.Admitted.{AreAdmitted, admitted_procedures}
use Rattle.sq_module.specs.Written.{AreOfTexts}
use Rattle.sq_module.specs.declared.admission.AdmittedModule.{AdmittedModule}
use Rattle.sq_module.specs.Refusal.{IsAdmissible}
use Rattle.sq_module.proofs.Apart.{admitted_next}
use Rattle.sq_module.proofs.Names.{declared_next, modules_next}
use Rattle.sq_module.proofs.Places.{all_next}
use Rattle.sq_module.proofs.Refused.{all_taken, refused_first, taken_next}
use Rattle.sq_module.proofs.Written.{among_at, of_texts_next}
use Rattle.sq_module.proofs.admission.admit_all.Goals as goal

pub loop-text-init : goal.loop-text-init
loop-text-init c =
    let none = sym c.new-admitted.ensures.items in
    record {
      keys = c.requires;
      names = tt;
      declared = ap admitted_procedures (sym none);
      written = subst (AreOfTexts c.args.modules.now) none tt;
      named = c.requires ∙ ap (map (λ (a : AdmittedModule). a.name)) none;
      admitted = subst (AreAdmitted []) none tt;
      admissible = tt;
      taken = refl;
    }

pub loop-text-preserved : goal.loop-text-preserved
loop-text-preserved c =
    let next = modules_next c.args.modules.now c.loop-text.text c.index-modules-text.result c.loop-text.names.keys c.admit_next.new.names.keys
    c.loop-text-test.true c.index-modules-text.is c.loop-text.invariant.keys c.loop-text.invariant.names
    c.in_default.ensures.new.0 c.in_default.ensures.new.1 c.in_default.ensures.names in
    let one = c.in_default.ensures.written in
    let apart = admitted_next c.loop-text.admitted.items c.admit_next.new.admitted.items one.0 c.index-modules-text.result.name c.loop-text.names.keys c.admit_next.new.names.keys
    one.1 one.2.name one.3 c.loop-text.invariant.named c.in_default.ensures.new.0 c.in_default.ensures.new.1 c.loop-text.invariant.admitted in
    record {
      keys = next.0;
      names = next.1;
      declared = declared_next c.args.modules.now c.loop-text.text c.index-modules-text.result (admitted_procedures c.loop-text.admitted.items) (admitted_procedures c.admit_next.new.admitted.items)
          c.loop-text-test.true c.index-modules-text.is c.loop-text.invariant.declared c.in_default.ensures.declared;
      written = of_texts_next c.args.modules.now c.index-modules-text.result c.loop-text.admitted.items c.admit_next.new.admitted.items
          (among_at c.args.modules.now c.loop-text.text c.index-modules-text.result c.loop-text-test.true c.index-modules-text.is) c.in_default.ensures.written c.loop-text.invariant.written;
      named = apart.0;
      admitted = apart.1;
      admissible = all_next (λ m. IsAdmissible m.items) c.args.modules.now c.loop-text.text c.index-modules-text.result c.loop-text-test.true c.index-modules-text.is
          c.loop-text.invariant.admissible c.in_default.ensures.admissible;
      taken = taken_next c.args.modules.now c.loop-text.names.keys c.loop-text.text c.index-modules-text.result c.loop-text-test.true c.index-modules-text.is c.loop-text.invariant.keys
          c.loop-text.invariant.taken c.in_default.ensures.taken;
    }

pub returns-clause-first : goal.returns-clause-first
returns-clause-first c = all_taken c.args.modules.now c.loop-text.text (omega (arith, c.loop-text-test.false)) c.loop-text.invariant.taken

pub returns-in-Err-clause-first : goal.returns-in-Err-clause-first
returns-in-Err-clause-first c =
    refused_first c.args.modules.now c.loop-text.names.keys c.loop-text.text c.index-modules-text.result c.loop-text-test.true c.index-modules-text.is c.loop-text.invariant.keys
    c.loop-text.invariant.taken c.in-Err.fault c.in-Err.ensures.first
