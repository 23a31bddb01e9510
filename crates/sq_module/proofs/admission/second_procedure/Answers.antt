-- Left open: the clause first, and that the loop keeps its invariant; answered by Names and Repeats.
use Rattle.std.proofs.Common.{◌++◌, ◌∙◌, ap, arith}
use Rattle.sq_meaning.specs.ModuleRefusal.{procedure_name}
use Rattle.sq_module.proofs.Names.{names_next}
use Rattle.sq_module.proofs.Repeats.{before_next, none_repeated, not_so, not_used_next, procedure_is, repeated, so}
use Rattle.sq_module.proofs.admission.second_procedure.Goals as goal

pub loop-place-preserved : goal.loop-place-preserved
loop-place-preserved c =
    let yes = c.if-not-branch.false in
    let items = c.args.items.now in
    let keys = c.loop-place.names.keys in
    let item = c.index-items-place.result in
    let next = names_next items c.loop-place.place item keys c.is_new_procedure.new.names.keys
    c.loop-place-test.true c.index-items-place.is c.loop-place.invariant.keys c.loop-place.invariant.new
    (c.in_ok-is_new_procedure.ensures.last yes) (c.in_ok-is_new_procedure.ensures.new yes) in
    record {
      keys = next.0;
      new = next.1;
      before = before_next procedure_name items keys c.loop-place.place item c.loop-place-test.true c.index-items-place.is c.loop-place.invariant.before c.is_new_procedure.new.names.keys
          (c.in_ok-is_new_procedure.ensures.last yes ∙ ap (λ l. keys ++ l) (procedure_is item));
      unused = not_used_next procedure_name items keys c.loop-place.place item c.loop-place-test.true c.index-items-place.is c.loop-place.invariant.before c.loop-place.invariant.unused
          (not_so _ _ c.in_ok-is_new_procedure.ensures.repeated yes);
    }

pub returns-then-not-branch-clause-first : goal.returns-then-not-branch-clause-first
returns-then-not-branch-clause-first c =
    repeated procedure_name c.args.items.now c.loop-place.names.keys c.loop-place.place c.index-items-place.result c.loop-place-test.true c.index-items-place.is c.loop-place.invariant.before
    c.loop-place.invariant.unused (so _ _ c.in_ok-is_new_procedure.ensures.repeated c.if-not-branch.true)

pub returns-clause-first : goal.returns-clause-first
returns-clause-first c = none_repeated procedure_name c.args.items.now c.loop-place.place (omega (arith, c.loop-place-test.false)) c.loop-place.invariant.unused
