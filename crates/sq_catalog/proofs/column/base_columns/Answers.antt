-- Left open: the clause exact, and that the loop keeps its invariant; answered by Columns, Listed and Turns.
use Rattle.std.proofs.Common.{◌≡◌, ◌+◌, [], ◌∷◌, ◌++◌, length, length-append, map, ap, take, ◌∙◌}
use Rattle.sq_value.specs.Domain.{kind_of}
use Rattle.sq_bound.specs.declared.names.BaseColumn.{BaseColumn}
use Rattle.sq_binding.specs.Column.{declared_column}
use Rattle.sq_catalog.specs.Exact.{column_declared}
use Rattle.sq_catalog.specs.Table.{held_declared, typed_seen}
use Rattle.sq_catalog.specs.Written.{is_written_not_null}
use Rattle.sq_catalog.proofs.CreateTable.Columns.{base_column_made, held_last}
use Rattle.sq_catalog.proofs.OneByOne.Listed.{copied_next}
use Rattle.sq_catalog.proofs.OneByOne.Turns.{handed_on, made_next, made_stops}
use Rattle.sq_catalog.proofs.column.base_columns.Goals as goal

pub returns-in_err-held-clause-exact : goal.returns-in_err-held-clause-exact
returns-in_err-held-clause-exact c =
    let typed = c.args.typed.now in
    let i = c.loop-column.column-index in
    let fault = c.in_err-held.field-0.0 in
    handed_on _ _ c.from_residual.result fault c.from_residual.ensures.1
    (made_stops declared_column typed_seen typed i c.column-item.result (held_declared (take i typed) c.loop-column.columns) fault c.loop-column-test.true c.column-item.is c.loop-column.invariant.exact
    c.in_err-held.ensures.exact)

pub loop-column-preserved : goal.loop-column-preserved
loop-column-preserved c =
    let columns = c.loop-column.columns in
    let one = c.in_ok-held.held in
    let typed = c.args.typed.now in
    let here = c.loop-column.column-index in
    let before = c.loop-column.invariant in
    let added = c.in_ok-push.ensures.ok in
    let more : length (columns ++ one ∷ []) ≡ length columns + 1 = length-append columns (one ∷ []) in
    record {
      count = ap length added ∙ more ∙ ap (λ n. n + 1) before.count;
      kinds =
          ap (map (λ (x : BaseColumn). kind_of x.domain)) added
          ∙ copied_next (λ (x : BaseColumn). kind_of x.domain) (λ t. kind_of t.domain) columns one typed here c.column-item.result c.loop-column-test.true c.column-item.is before.kinds
          (ap kind_of c.in_ok-held.ensures.domain);
      not_null =
          ap (map (λ (x : BaseColumn). x.not_null)) added
          ∙ copied_next (λ (x : BaseColumn). x.not_null) (λ t. is_written_not_null t.definition.now) columns one typed here c.column-item.result c.loop-column-test.true c.column-item.is before.not_null
          c.in_ok-held.ensures.not_null;
      written =
          base_column_made typed columns c.push.new.self here c.column-item.result one c.loop-column-test.true c.column-item.is added c.in_ok-held.ensures.domain c.in_ok-held.ensures.not_null
          c.in_ok-held.ensures.default before.written;
      exact =
          made_next declared_column typed_seen typed here c.column-item.result (held_declared (take here typed) columns) (held_declared (take (here + 1) typed) c.push.new.self)
          (column_declared (c.column-item.result.definition.now.name, one)) c.loop-column-test.true c.column-item.is
          (held_last typed here c.column-item.result columns c.push.new.self one c.loop-column-test.true c.column-item.is added before.count) before.exact c.in_ok-held.ensures.exact;
    }
