-- Left open for write_call: its result; answered by Written.
use Rattle.std.proofs.Common.{◌++◌, ◌∙◌, List, ap, map}
use Rattle.std.specs.List.{flat_map}
use Rattle.sq_meaning.specs.Report.{output_codes, status_codes}
use Rattle.sq_session.specs.declared.reply.Output.{Output}
use Rattle.sq_perform.specs.Action.{name_of}
use Rattle.sq_perform.specs.Steps.{told_output}
use Rattle.sq_perform.proofs.Written.{line_written}
use Rattle.sq_perform.proofs.report.write_call.Goals as goal

pub returns : goal.returns
returns g c =
    let name = name_of c.args.session.now.procedures c.args.call.now in
    let reply = c.args.reply.now in
    let stated = c.write_status.new.line.items in
    line_written c.args.line.now.items c.write_names.new.line.items stated c.write_outputs.new.line.items c.push.new.self.items
    name.«module» name.name (status_codes reply.status) (flat_map output_codes (map told_output reply.outputs))
    (rw c.name-name.ensures at c.in_ok-write_names.ensures) c.in_ok-write_status.ensures
    (c.in_ok-write_outputs.ensures ∙ ap (λ (outputs : List Output). stated ++ flat_map output_codes (map told_output outputs)) c.as_slice.ensures)
    c.in_ok-push.ensures.items
