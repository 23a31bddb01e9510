-- Left open: the call of add_procedure, and the loop's invariant; answered by Written.
use Rattle.std.proofs.Common.{◌∙◌, arith, length, subst, sym}
use Rattle.std.proofs.lemmas.Grind.{common_steps}
use Rattle.sq_catalog.specs.Catalog.{column_kinds, known}
use Rattle.sq_catalog.specs.UserTables.{names_in}
use Rattle.sq_module.specs.Named.{AreNamedAs}
use Rattle.sq_module.specs.Opened.{AreThere, IsOpenable}
use Rattle.sq_module.specs.Written.{AreNumbers, IsProcedureOf}
use Rattle.sq_module.proofs.Written.{all_at}
use Rattle.sq_module.proofs.program.Program.add_procedures.Goals as goal

pub add_procedure-requires-clause-openable : goal.add_procedure-requires-clause-openable
add_procedure-requires-clause-openable c =
    let columns = column_kinds c.args.catalog.now in
    let numbers = c.args.numbers.now.entries in
    subst (λ cs. IsOpenable columns cs.items numbers c.admitted-item.result) (sym c.loop-admitted.invariant.cursors)
    (all_at (IsOpenable columns c.args.self.now.cursors.items numbers) c.args.«module».now.procedures.items c.loop-admitted.admitted-index c.admitted-item.result
    (rw c.as_slice-admitted-items.ensures.value at c.loop-admitted-test.true) (rw c.as_slice-admitted-items.ensures.value at c.admitted-item.is) c.requires.openable)

pub add_procedure-requires-clause-there : goal.add_procedure-requires-clause-there
add_procedure-requires-clause-there c = subst (λ cs. AreThere (length cs.items) c.args.numbers.now.entries) (sym c.loop-admitted.invariant.cursors) c.requires.there

pub loop-admitted-preserved : goal.loop-admitted-preserved
loop-admitted-preserved c =
    let index = c.loop-admitted.admitted-index in
    let procedures = c.args.«module».now.procedures.items in
    let numbers = c.args.numbers.now.entries in
    let below = rw c.as_slice-admitted-items.ensures.value at c.loop-admitted-test.true in
    let is = rw c.as_slice-admitted-items.ensures.value at c.admitted-item.is in
    record {
      procedures = grind (arith, common_steps);
      cursors = c.add_procedure.ensures.cursors ∙ c.loop-admitted.invariant.cursors;
      in_order = c.in_ok-add_procedure.ensures.in_order;
      written = λ texts m among of found before.
          c.in_ok-add_procedure.ensures.written texts m among of (all_at (IsProcedureOf m.items) procedures index c.admitted-item.result below is of.procedures)
          (subst (λ cs. AreNumbers (known c.args.catalog.now) m cs.items numbers) (sym c.loop-admitted.invariant.cursors) found)
          (c.loop-admitted.invariant.written texts m among of found before);
      computed = λ texts m among of named before.
          c.in_ok-add_procedure.ensures.computed texts m among of (all_at (IsProcedureOf m.items) procedures index c.admitted-item.result below is of.procedures)
          (subst (λ cs. AreNamedAs (names_in c.args.catalog.now m.authorization) m cs.items numbers) (sym c.loop-admitted.invariant.cursors) named)
          (c.loop-admitted.invariant.computed texts m among of named before);
    }
