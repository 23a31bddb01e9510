-- Left open for add_opener: its result; answered by Cursors.
use Rattle.std.proofs.Common.{◌∙◌, ap, subst, sym}
use Rattle.std.specs.List.{IsAmong}
use Rattle.sq_check.specs.Remark.{IsOpener, procedure_of}
use Rattle.sq_check.proofs.Cursors.{on_ok_weaker, opener_added}
use Rattle.sq_check.proofs.opener.add_opener.Goals as goal

pub returns-in-Some : goal.returns-in-Some
returns-in-Some c =
    λ m named among are.
    let p = c.args.program.now in
    let procedure = c.in-Procedure.procedure in
    let opens : IsOpener p m c.in-Open.cursor c.in-Some.bound.now = record {
      procedure = procedure;
      is_item = subst (IsAmong m.items) c.in-Procedure.is among;
      opens = c.in-Open.is;
      is_bound = ap (λ n. procedure_of p n procedure.name) named ∙ sym c.in-Some.ensures.value;
    } in
    on_ok_weaker c.insert.result _ _ (λ entered. opener_added p m c.args.openers.now.entries c.insert.new.openers.entries c.in-Open.cursor c.in-Some.bound entered opens are) c.insert.ensures
