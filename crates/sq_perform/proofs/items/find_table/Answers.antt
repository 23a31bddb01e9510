-- Left open for find_table: the clauses action and prepared; answered by Taken.
use Rattle.std.proofs.Common.{sym, ◌∙◌}
use Rattle.sq_perform.specs.declared.action.ShowAction.{ShowAction}
use Rattle.sq_perform.proofs.Taken.{show_asked, show_prepared}
use Rattle.sq_perform.proofs.items.find_table.Goals as goal

pub returns-in-Some-clause-action : goal.returns-in-Some-clause-action
returns-in-Some-clause-action g c =
    let shown : ShowAction = record { table = c.in-Some.table } in
    show_asked c.args.session.now.procedures c.args.session.now.tables c.args.user c.args.name shown (sym c.table.ensures ∙ c.in-Some.is)

pub returns-in-Some-clause-prepared : goal.returns-in-Some-clause-prepared
returns-in-Some-clause-prepared g c =
    let shown : ShowAction = record { table = c.in-Some.table } in
    show_prepared c.args.session.now c.args.user c.args.name shown (sym c.table.ensures ∙ c.in-Some.is)
