-- Left open for write_table: its result; answered by Written.
use Rattle.std.proofs.Common.{◌++◌, ◌∙◌, List, ap, length}
use Rattle.std.proofs.lemmas.Result.{on_ok_weaker}
use Rattle.std.specs.List.{flat_map}
use Rattle.sq_store.specs.Content.{table_at}
use Rattle.sq_store.specs.declared.table.Numbered.{Numbered}
use Rattle.sq_meaning.specs.Report.{row_line}
use Rattle.sq_perform.specs.Action.{shown_name}
use Rattle.sq_perform.proofs.Written.{table_written}
use Rattle.sq_perform.proofs.report.write_table.Goals as goal

pub returns : goal.returns
returns g c =
    let name = shown_name c.args.session.now.tables c.args.shown.now in
    let headed = c.write_heading.new.line.items in
    let rows = (table_at c.args.session.now.state.tables c.args.shown.now.table).rows in
    on_ok_weaker c.write_rows.result
    (λ shows. table_written c.args.lines.now.items headed c.write_rows.new.lines.items name.user name.name c.len.result rows (rw c.name-name.ensures at c.in_ok-write_heading.ensures)
    (shows ∙ ap (λ (found : List Numbered). headed ++ flat_map row_line found) c.rows_shown-rows.ensures) (c.len.ensures ∙ ap length c.rows_shown-rows.ensures)) c.write_rows.ensures
