-- Left open: the call of add_module, and the loop's invariant; answered by Apart and Written.
use Rattle.std.proofs.Common.{[], arith, refl}
use Rattle.std.proofs.lemmas.Grind.{common_steps}
use Rattle.sq_module.proofs.Apart.{admitted_at, some_next}
use Rattle.sq_module.proofs.Written.{all_at}
use Rattle.sq_module.proofs.program.Program.add_modules.Goals as goal

pub add_module-requires-clause-others : goal.add_module-requires-clause-others
add_module-requires-clause-others c =
    c.loop-module.invariant.of_some c.module-item.result.name
    (admitted_at [] c.args.modules.now c.loop-module.module-index c.module-item.result c.requires.modules c.loop-module-test.true c.module-item.is).0

pub add_module-requires-clause-once : goal.add_module-requires-clause-once
add_module-requires-clause-once c = (admitted_at [] c.args.modules.now c.loop-module.module-index c.module-item.result c.requires.modules c.loop-module-test.true c.module-item.is).1

pub loop-module-init : goal.loop-module-init
loop-module-init c = record {
  procedures = refl;
  in_order = c.requires.in_order;
  of_some = λ n none. c.requires.others n;
  written = λ texts of before. before;
  computed = λ texts of before. before;
}

pub loop-module-preserved : goal.loop-module-preserved
loop-module-preserved c = record {
  procedures = grind (arith, common_steps);
  in_order = c.in_ok-add_module.ensures.in_order;
  of_some = some_next c.args.modules.now c.loop-module.module-index c.module-item.result c.loop-module.self.cursors.items _ c.loop-module-test.true c.module-item.is
      c.in_ok-add_module.ensures.others c.loop-module.invariant.of_some;
  written = λ texts of before.
      let one = all_at _ c.args.modules.now c.loop-module.module-index c.module-item.result c.loop-module-test.true c.module-item.is of in
      c.in_ok-add_module.ensures.written texts one.0 one.1 one.2 (c.loop-module.invariant.written texts of before);
  computed = λ texts of before.
      let one = all_at _ c.args.modules.now c.loop-module.module-index c.module-item.result c.loop-module-test.true c.module-item.is of in
      c.in_ok-add_module.ensures.computed texts one.0 one.1 one.2 (c.loop-module.invariant.computed texts of before);
}
