-- Left open: the clause bad, and that the loop keeps its invariant; answered by Parameters and others.
use Rattle.std.proofs.Common.{map, sym}
use Rattle.sq_module.specs.Written.{named_as, named_in}
use Rattle.sq_module.proofs.Parameters.{bad_there, good_next, keys_next}
use Rattle.sq_module.proofs.Repeats.{not_so, so}
use Rattle.sq_module.proofs.Written.{added_next}
use Rattle.sq_module.proofs.declared.are_added.Goals as goal

pub returns-then-not-branch-clause-bad : goal.returns-then-not-branch-clause-bad
returns-then-not-branch-clause-bad c =
    sym (bad_there c.args.declarations.now c.loop-declaration.declaration-index c.declaration-item.result c.loop-declaration-test.true c.declaration-item.is
    c.loop-declaration.names.keys c.is_taken.new.names.keys c.loop-declaration.invariant.names (so _ _ c.in_ok-is_taken.ensures.bad c.if-not-branch.true))

pub loop-declaration-preserved : goal.loop-declaration-preserved
loop-declaration-preserved c =
    let declarations = c.args.declarations.now in
    let i = c.loop-declaration.declaration-index in
    let item = c.declaration-item.result in
    let yes = c.if-not-branch.false in record {
      added = added_next named_in declarations i item (map named_as c.args.parameters.now) (map named_as c.loop-declaration.parameters) (map named_as c.is_taken.new.parameters)
          c.loop-declaration-test.true c.declaration-item.is c.loop-declaration.invariant.added (c.in_ok-is_taken.ensures.added yes);
      names = keys_next declarations i item c.loop-declaration-test.true c.declaration-item.is c.loop-declaration.names.keys c.is_taken.new.names.keys c.loop-declaration.invariant.names
          (c.in_ok-is_taken.ensures.names yes);
      good = good_next declarations i item c.loop-declaration-test.true c.declaration-item.is c.loop-declaration.names.keys c.is_taken.new.names.keys c.loop-declaration.invariant.names
          c.loop-declaration.invariant.good (not_so _ _ c.in_ok-is_taken.ensures.bad yes);
    }
