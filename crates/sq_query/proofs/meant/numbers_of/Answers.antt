-- Left open: the clauses meant, there and right; answered by ChosenNumbers, Fitting and others.
use Rattle.std.proofs.Common.{◌∙◌, ℕ, List, Bor, map, ap, sym, subst, Ok}
use Rattle.std.specs.Prelude.{⊤}
use Rattle.sq_store.specs.Content.{table_at}
use Rattle.sq_store.specs.declared.table.Numbered.{Numbered}
use Rattle.sq_meaning.specs.Environment.{Row}
use Rattle.sq_meaning.specs.Status.{Outcome, and_then}
use Rattle.sq_expression.proofs.Groups.{meets_as_same}
use Rattle.sq_expression.proofs.Views.{failed_as, handed_on_as}
use Rattle.sq_query.specs.FewRows.{few_numbered}
use Rattle.sq_query.specs.Table.{numbered_row, stored_numbered}
use Rattle.sq_query.specs.Target.{AreRowsThere, conditions_of, is_true_of, numbers_chosen, numbers_in, rows_of_target}
use Rattle.sq_query.proofs.Targets.ChosenNumbers.{numbers_after, numbers_fail}
use Rattle.sq_query.proofs.Needs.Fitting.{never_ends}
use Rattle.sq_query.proofs.Targets.KnownConditions.{ends_so}
use Rattle.sq_query.proofs.Targets.NumbersThere.{numbers_there}
use Rattle.sq_query.proofs.meant.numbers_of.Goals as goal

pub returns-clause-meant : goal.returns-clause-meant
returns-clause-meant g c = λ parameters tables may well.
    let content = g.S.Store.content_now c.args.store.now in
    let t = c.args.target.now in
    let test = is_true_of tables c.args.inputs.parameters.now c.args.inputs.user in
    let stored = stored_numbered content t.base in
    meets_as_same numbers_in c.numbers.result (and_then stored (numbers_chosen test (conditions_of t))) (Ok (map (λ (r : Numbered). r.number) (map numbered_row c.as_slice.result.now)))
    (numbers_after test (conditions_of t) stored
    ∙ ap (λ (o : Outcome (List Numbered)). and_then o (λ found. Ok (map (λ (r : Numbered). r.number) found))) (c.in_ok-rows.ensures.meant parameters tables may well)
    ∙ ap (λ (items : List (ℕ × Bor Row)). let o : Outcome (List ℕ) = Ok (map (λ (r : Numbered). r.number) (map numbered_row items)) in o) (sym c.as_slice.ensures))
    c.numbers.ensures

pub returns-in_err-rows-clause-meant : goal.returns-in_err-rows-clause-meant
returns-in_err-rows-clause-meant g c = λ parameters tables may well.
    let content = g.S.Store.content_now c.args.store.now in
    let t = c.args.target.now in
    let values = c.args.inputs.parameters.now in
    let user = c.args.inputs.user in
    let e = c.in_err-rows.field-0.0 in
    handed_on_as numbers_in c.from_residual.result e _ c.from_residual.ensures.1
    (numbers_fail (is_true_of tables values user) (conditions_of t) (stored_numbered content t.base) e
    (failed_as few_numbered e (rows_of_target tables content values user t) (c.in_err-rows.ensures.meant parameters tables may well)))

pub returns-clause-there : goal.returns-clause-there
returns-clause-there g c = λ parameters tables may well.
    let table = table_at (g.S.Store.content_now c.args.store.now) c.args.target.now.base in
    numbers_there c.numbers.result table (map numbered_row c.as_slice.result.now)
    (subst (λ (items : List (ℕ × Bor Row)). AreRowsThere table (map numbered_row items)) (sym c.as_slice.ensures) (c.in_ok-rows.ensures.there parameters tables may well))
    c.numbers.ensures

pub returns-clause-right : goal.returns-clause-right
returns-clause-right g c = λ parameters tables may well. never_ends numbers_in c.numbers.result (λ ns. ⊤) (Ok (map (λ (r : Numbered). r.number) (map numbered_row c.as_slice.result.now))) tt c.numbers.ensures

pub returns-in_err-rows-clause-right : goal.returns-in_err-rows-clause-right
returns-in_err-rows-clause-right g c = λ parameters tables may well. ends_so c.from_residual.result c.in_err-rows.field-0.0 c.from_residual.ensures.1 (c.in_err-rows.ensures.right parameters tables may well)
