-- Left open: the clause exact, and that the loop keeps its invariant; answered by Turns and Twice.
use Rattle.std.proofs.Common.{◌++◌, ◌∷◌, [], ap, arith, ◌∙◌}
use Rattle.sq_meaning.specs.Schema.{has_name_twice}
use Rattle.sq_catalog.specs.Written.{names_at}
use Rattle.sq_catalog.proofs.OneByOne.Turns.{handed_on}
use Rattle.sq_catalog.proofs.OneByOne.Twice.{added_new, names_next, names_stop, once_more}
use Rattle.sq_catalog.proofs.written.NamedColumns.add_all.Goals as goal

pub returns-in_err-add_name-clause-exact : goal.returns-in_err-add_name-clause-exact
returns-in_err-add_name-clause-exact c =
    handed_on _ _ c.from_residual.result c.in_err-add_name.field-0.0 c.from_residual.ensures.1
    (names_stop c.args.columns.now c.loop-column.column-index c.column-item.result c.loop-column-test.true c.column-item.is (names_at c.loop-column.self) c.in_err-add_name.field-0.0 c.loop-column.invariant.names
    c.in_err-add_name.ensures.exact)

pub loop-column-preserved : goal.loop-column-preserved
loop-column-preserved c =
    let before = c.loop-column.invariant in
    let old = names_at c.loop-column.self in
    let name = c.column-item.result.now.name in
    let added = c.in_ok-add_name.ensures.added in
    record {
      count = omega (arith, c.in_ok-add_name.ensures.count, before.count);
      names = added ∙ ap (λ l. l ++ name ∷ []) before.names ∙ names_next c.args.columns.now c.loop-column.column-index c.column-item.result c.loop-column-test.true c.column-item.is;
      once = ap has_name_twice added ∙ once_more old name before.once (added_new old c.add_name.new.names.keys name c.in_ok-add_name.ensures.exact);
    }
