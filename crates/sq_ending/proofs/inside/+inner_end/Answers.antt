-- Left open: what the call of inner_end asks for, and the results; answered by InnerEnds and ViewRows.
use Rattle.std.proofs.Common.{[], Option, arith, rules, subst}
use Rattle.sq_query.proofs.Needs.Finds.{select_finds}
use Rattle.sq_ending.specs.Ending.{Ends}
use Rattle.sq_ending.specs.Inside.{EndsInside}
use Rattle.sq_ending.specs.Read.{known_by}
use Rattle.sq_ending.specs.declared.ends.QueryEnd.{QueryEnd}
use Rattle.sq_ending.specs.declared.inside.InnerEnd.{InnerEnd}
use Rattle.sq_ending.proofs.InnerEnds.{ends_over, ends_through, views_go_down}
use Rattle.sq_ending.proofs.ViewRows.{select_wide}
use Rattle.sq_ending.proofs.inside.+inner_end.Goals as goal

pub inner_end-returns-in-Ok-Some : goal.inner_end-returns-in-Ok-Some
inner_end-returns-in-Ok-Some g t c =
    let names = c.args.names.now in
    let bases = g.N.Names.base_tables names in
    let queries = g.N.Names.view_queries names in
    let columns = g.N.Names.column_kinds names in
    let content = g.S.Store.content_now c.args.store.now in
    let user = c.args.inputs.user in
    let values = c.args.inputs.parameters.now in
    let query = c.args.query.now in
    ends_over (known_by bases queries columns) content user values query c.in-Ok-Some.end c.end_within.result
    (subst (λ (found : Option QueryEnd). Ends bases queries columns content user values query found) c.in-Ok-Some.field-0-is c.in-Ok-Some.ensures)
    (c.end_within.ensures values)

pub inner_end-returns-in-Ok-None : goal.inner_end-returns-in-Ok-None
inner_end-returns-in-Ok-None g t c =
    let names = c.args.names.now in
    subst (λ (found : Option QueryEnd). Ends (g.N.Names.base_tables names) (g.N.Names.view_queries names) (g.N.Names.column_kinds names) (g.S.Store.content_now c.args.store.now) c.args.inputs.user c.args.inputs.parameters.now c.args.query.now found)
    c.in-Ok-None.field-0-is c.in-Ok-None.ensures

pub end_within-inner_end-requires : goal.end_within-inner_end-requires
end_within-inner_end-requires g t c = λ κs lives.
    let names = c.args.names.now in
    let columns = g.N.Names.column_kinds names in
    let view = c.in-Some.view.now in
    let known = known_by (g.N.Names.base_tables names) (g.N.Names.view_queries names) columns in
    let less = views_go_down known c.args.query.now c.args.end.end.clause view c.in-Some.ensures in (
      omega (arith, less, c.decreases),
      (search rules, (search rules, (select_finds (g.N.Names.base_tables names) columns c.requires.there [] view.query (select_wide columns view.place view.query c.in-Some.ensures.well_formed), (c.requires.keys, c.requires.not_null)))),
    )

pub end_within-returns-in-Ok-Some : goal.end_within-returns-in-Ok-Some
end_within-returns-in-Ok-Some g t c = λ values.
    let names = c.args.names.now in
    let known = known_by (g.N.Names.base_tables names) (g.N.Names.view_queries names) (g.N.Names.column_kinds names) in
    let content = g.S.Store.content_now c.args.store.now in
    let view = c.in-Some.view.now in
    ends_through known content c.args.user values c.args.query.now c.args.end view c.in-Some.ensures c.in-Ok-Some.inner
    (subst (λ (found : Option InnerEnd). EndsInside known content c.args.user [] view.query found) c.in-Ok-Some.field-0-is c.in-Ok-Some.ensures) c.through.result c.through.ensures
