-- Left open for base_under: what its call of itself asks for, and its result; answered by ViewPaths.
use Rattle.std.proofs.Common.{◌<◌, arith, refl, rules, subst}
use Rattle.sq_bound.specs.declared.condition.TablePlace.TheVariants.{View}
use Rattle.sq_query.specs.Asked.{IsUnderneath}
use Rattle.sq_query.specs.Shown.{IsPlainOver}
use Rattle.sq_query.specs.Specification.{IsOver}
use Rattle.sq_query.proofs.Keys.KeyTests.{if_some}
use Rattle.sq_query.proofs.PlainViews.ViewPaths.{base_beneath, beneath_so, under_earlier, under_known}
use Rattle.sq_query.proofs.plain_view.+base_under.Goals as goal

pub base_under-requires : goal.base_under-requires
base_under-requires g t c κs within =
    let columns = g.N.Names.column_kinds c.args.names.now in
    let query = c.view_at.result.now.query in
    let over = subst (IsOver query) c.in-Some-View.field-0-is c.in-Some-View.ensures.over in
    let earlier : c.in-Some-View.under < c.args.view = under_earlier columns c.args.view c.in-Some-View.under query c.view_at.ensures.is.0 over in
    let known = under_known columns c.args.view query (View c.in-Some-View.under) c.view_at.ensures.is.0 over in
    (omega (arith, earlier, c.decreases), (search rules, (c.requires.there, known)))

pub returns-in_ok-columns-in-Some-Base : goal.returns-in_ok-columns-in-Some-Base
returns-in_ok-columns-in-Some-Base g t c =
    let names = c.args.names.now in
    let v = c.view_at.result.now in
    base_beneath (g.N.Names.column_kinds names) (g.N.Names.view_queries names) c.args.view v c.view_at.ensures.among c.view_at.ensures.is c.in-Some-Base.base c.itself.result.through _
    (subst (IsPlainOver v.query) c.in-Some-Base.field-0-is c.in-Some-Base.ensures) refl c.itself.ensures.through c.in_ok-columns-in-Some-Base.ensures

pub returns-in-Some : goal.returns-in-Some
returns-in-Some g t c =
    let names = c.args.names.now in
    let columns = g.N.Names.column_kinds names in
    let queries = g.N.Names.view_queries names in
    let v = c.view_at.result.now in
    let under = c.in-Some-View.under in
    beneath_so columns queries c.args.view v c.view_at.ensures.among c.view_at.ensures.is under c.in-Some.next c.beneath.result (subst (IsPlainOver v.query) c.in-Some-View.field-0-is c.in-Some-View.ensures)
    (if_some (IsUnderneath columns queries under) c.in_ok-next-in-Some-View.field-0 c.in-Some.next c.in_ok-next-in-Some-View.ensures c.in-Some.is) c.beneath.ensures
