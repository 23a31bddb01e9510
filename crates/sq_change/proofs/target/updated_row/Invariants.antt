use Rattle.std.proofs.Common.{◌≡◌, length, vec_len}
use Rattle.std.specs.List.{AllByRecursion}
use Rattle.sq_bound.specs.Fits.{IsColumnOf, IsRowIn}
use Rattle.sq_bound.specs.declared.names.BaseTable.{BaseTable}
use Rattle.sq_change.specs.Made.{seen_by}
use Rattle.sq_change.proofs.NewRows.UpdatedRows.{SetSoFar}
use Rattle.sq_change.proofs.target.updated_row.Given as goal

abbrev pub invariant-loop-assignment : goal.invariant-loop-assignment
invariant-loop-assignment g l = record {
  set : SetSoFar (seen_by (g.N.Names.view_queries l.setting.names.now) (g.S.Store.content_now l.setting.store.now) l.setting.user l.setting.parameters.now)
      l.assignments l.row l.assignment-index l.updated.items;
  wide : vec_len l.updated ≡ length l.row;
  in_domains : (t : BaseTable) → AllByRecursion (λ a. IsColumnOf t a.column) l.assignments → IsRowIn t.columns l.row → IsRowIn t.columns l.updated.items;
}
