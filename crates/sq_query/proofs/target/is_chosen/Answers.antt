-- Left open for is_chosen: the clauses meant and right; answered by Fitting, ReadRows and TargetRows.
use Rattle.std.specs.Prelude.{⊤}
use Rattle.sq_meaning.specs.WellFormed.{Answers}
use Rattle.sq_meaning.proofs.AnswerLaws.{all_weaker}
use Rattle.sq_query.specs.Row.{IsOnRow, truth_on_row}
use Rattle.sq_query.specs.Target.{conditions_of}
use Rattle.sq_query.proofs.Needs.Fitting.{ends_right}
use Rattle.sq_query.proofs.Needs.ReadRows.{truth_answers}
use Rattle.sq_query.proofs.Targets.TargetRows.{all_true_answers, conditions_on_row}
use Rattle.sq_query.proofs.target.is_chosen.Goals as goal

pub returns-clause-meant : goal.returns-clause-meant
returns-clause-meant g c = λ parameters tables may well is_row.
    c.meets_target.ensures.meant parameters tables may (conditions_on_row (g.N.Names.column_kinds c.args.names.now) parameters c.args.target.now c.args.row.now well is_row)

pub returns-clause-right : goal.returns-clause-right
returns-clause-right g c = λ parameters tables may well is_row.
    let names = c.args.names.now in
    let columns = g.N.Names.column_kinds names in
    let row = c.args.row.now in
    let test = truth_on_row tables c.args.inputs.parameters.now c.args.inputs.user row in
    let conditions = conditions_of c.args.target.now in
    let on = conditions_on_row columns parameters c.args.target.now row well is_row in
    ends_right c.meets_target.result (λ b. ⊤) _
    (all_true_answers test conditions (all_weaker (IsOnRow columns parameters row) (λ d. Answers (λ t. ⊤) (test d))
    (truth_answers (g.N.Names.base_tables names) (g.N.Names.view_queries names) columns (g.S.Store.content_now c.args.store.now) c.args.inputs.user c.args.inputs.parameters.now
    (g.met.N.Names.kinds_of_bases names) (g.met.N.Names.kinds_of_views names) parameters tables may row) conditions on))
    (c.meets_target.ensures.meant parameters tables may on)
