-- Left open for no_base_rows: its result; answered by LeftOut.
use Rattle.std.specs.Prelude.{⊤, Ok}
use Rattle.std.specs.Borrow.{Bor}
use Rattle.sq_expression.specs.declared.table.BaseRows.{BaseRows}
use Rattle.sq_expression.specs.Frame.{lent}
use Rattle.sq_expression.specs.Table.{base_there}
use Rattle.sq_expression.proofs.LeftOut.{but_none, but_failed}
use Rattle.sq_expression.proofs.table.no_base_rows.Goals as goal

pub returns : goal.returns
returns c = but_none (base_there c.args.context.now c.args.place) (λ base. lent base.rows.items) _ c.new.result c.in_ok-base_at.ensures c.new.ensures.items

pub returns-in_err-base_at : goal.returns-in_err-base_at
returns-in_err-base_at c =
    but_failed (λ row. ⊤) (λ (base : Bor BaseRows). base.now) c.in_err-base_at.field-0.0 (base_there c.args.context.now c.args.place) (λ base. Ok (lent base.rows.items)) c.in_err-base_at.ensures c.from_residual.result c.from_residual.ensures.1
