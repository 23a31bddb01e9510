-- Left open for own_names: that the loop keeps its invariant; answered by ViewNames.
use Rattle.std.proofs.Common.{◌≡◌, ◌+◌, sym, subst, take, ◌∙◌}
use Rattle.std.specs.List.{filter_map}
use Rattle.sq_bound.specs.declared.condition.ResultColumn.{ResultColumn}
use Rattle.sq_catalog.proofs.CreateView.ViewNames.{none_found, one_found}
use Rattle.sq_catalog.proofs.view_names.own_names.Goals as goal
use Rattle.sq_catalog.proofs.view_names.own_names.Goals.{in-Some+in_ok-push, in_default}

pub loop-column-preserved : goal.loop-column-preserved
loop-column-preserved c =
    let columns = c.args.columns.now in
    let index = c.loop-column.column-index in
    let column = c.column-item.result in
    elim c.match-column.branch [
      | in-Some+in_ok-push w ↦
          one_found (λ (x : ResultColumn). x.name) columns index column w.in-Some.name c.loop-column.names c.match-column.names c.loop-column-test.true c.column-item.is w.in-Some.is
          (w.names-is ∙ w.in_ok-push.ensures.ok) c.loop-column.invariant
      | in_default w ↦
          subst (λ ns. ns ≡ filter_map (λ (x : ResultColumn). x.name) (take (index + 1) columns)) (sym w.names-is)
          (none_found (λ (x : ResultColumn). x.name) columns index column c.loop-column.names c.loop-column-test.true c.column-item.is w.in_default.is c.loop-column.invariant)
    ]
