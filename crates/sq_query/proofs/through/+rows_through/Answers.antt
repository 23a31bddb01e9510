-- Left open: what the call of rows_through asks for, and the clause rows; answered by KeyTests and others.
use Rattle.std.proofs.Common.{◌≡◌, ◌∙◌, rules, List, ℕ, [], ◌∷◌, arith, ◌<◌, refl, subst, sym, Ok}
use Rattle.sq_meaning.specs.Environment.{Row}
use Rattle.sq_meaning.specs.Status.{Outcome}
use Rattle.sq_bound.specs.declared.condition.TablePlace.TheVariants.{Base, View}
use Rattle.sq_expression.specs.Frame.{lent}
use Rattle.sq_query.specs.Specification.{IsOver}
use Rattle.sq_query.specs.Shown.{AreRight, IsPath, shown_of}
use Rattle.sq_query.specs.Table.{rows_among}
use Rattle.sq_query.proofs.Keys.KeyTests.{if_some}
use Rattle.sq_query.proofs.Keys.KnownKeys.{not_none}
use Rattle.sq_query.proofs.Keys.Searched.{own_first, view_first, with_own}
use Rattle.sq_query.proofs.PlainViews.ViewPaths.{IsShownOf, few_of, next_view, no_view_next, rows_shown_of, under_earlier, under_known}
use Rattle.sq_query.proofs.through.+rows_through.Goals as goal

pub rows_through-requires : goal.rows_through-requires
rows_through-requires g t c κs within =
    let columns = g.N.Names.column_kinds c.args.names.now in
    let query = c.view_at.result.now.query in
    let over = if_some (λ (u : ℕ). IsOver query (View u)) c.view_under.result c.in-Some.under c.view_under.ensures.over c.in-Some.is in
    let earlier : c.in-Some.under < c.args.view = under_earlier columns c.args.view c.in-Some.under query c.view_at.ensures.is.0 over in
    let known = under_known columns c.args.view query (View c.in-Some.under) c.view_at.ensures.is.0 over in
    (omega (arith, earlier, c.decreases), (search rules, (c.requires.there, known)))

pub returns-in_ok-between-in-Some-clause-rows : goal.returns-in_ok-between-in-Some-clause-rows
returns-in_ok-between-in-Some-clause-rows g t c = λ tables views path right.
    let columns = g.N.Names.column_kinds c.args.names.now in
    let queries = g.N.Names.view_queries c.args.names.now in
    let user = c.args.call.now.user in
    let own = lent c.args.own.now.rows.items in
    let base = c.args.own.now.place in
    let view = c.args.view in
    let under = c.in-Some.under in
    let query = c.view_at.result.now.query in
    let over = if_some (λ (u : ℕ). IsOver query (View u)) c.view_under.result under c.view_under.ensures.over c.in-Some.is in
    let next = next_view columns queries view base query c.view_at.ensures.among under over views path in
    let others = next.0 in
    let along = subst (λ (vs : List ℕ). IsPath columns queries (view ∷ vs) base) next.1 path in
    let answer = subst (λ (vs : List ℕ). AreRight own tables user queries base (view ∷ vs)) next.1 right in
    let shown = shown_of own tables user queries base (under ∷ others) in
    let few = few_of own tables user columns queries base (under ∷ others) in
    let at : rows_among [] c.from_ref.result.now (View under) ≡ few (View under) =
    (λ i. rows_among [] (c.from_ref.ensures.value i) (View under)) ∙ view_first c.in_ok-between-in-Some.between [] [] under shown c.in_ok-between-in-Some.ensures.place (c.in_ok-between-in-Some.ensures.rows tables others along.1 answer.1)
    ∙ sym (with_own (View under) shown tables) in
    subst (λ (vs : List ℕ). IsShownOf own tables user columns queries base c.rows_over-shown.result (shown_of own tables user queries base (view ∷ vs))) (sym next.1)
    (rows_shown_of own tables user columns queries base view (under ∷ others) c.rows_over-shown.result along answer (λ q is plain well. c.rows_over-shown.ensures.rows few (View under) at q is plain well))

pub returns-in-None-clause-rows : goal.returns-in-None-clause-rows
returns-in-None-clause-rows g t c = λ tables views path right.
    let columns = g.N.Names.column_kinds c.args.names.now in
    let queries = g.N.Names.view_queries c.args.names.now in
    let user = c.args.call.now.user in
    let own = lent c.args.own.now.rows.items in
    let base = c.args.own.now.place in
    let view = c.args.view in
    let query = c.view_at.result.now.query in
    let last = no_view_next columns queries view base query c.view_at.ensures.among (λ under over. not_none c.view_under.result c.in-None.is (c.view_under.ensures.found under over)) views path in
    let along = subst (λ (vs : List ℕ). IsPath columns queries (view ∷ vs) base) last path in
    let answer = subst (λ (vs : List ℕ). AreRight own tables user queries base (view ∷ vs)) last right in
    let found : Outcome (List Row) = Ok own in
    let few = few_of own tables user columns queries base [] in
    let at : rows_among c.from_ref-in-None.result.now [] (Base base) ≡ few (Base base) =
    (λ i. rows_among (c.from_ref-in-None.ensures.value i) [] (Base base)) ∙ own_first c.args.own.now [] [] base own refl refl
    ∙ sym (with_own (Base base) found tables) in
    subst (λ (vs : List ℕ). IsShownOf own tables user columns queries base c.rows_over.result (shown_of own tables user queries base (view ∷ vs))) (sym last)
    (rows_shown_of own tables user columns queries base view [] c.rows_over.result along answer (λ q is plain well. c.rows_over.ensures.rows few (Base base) at q is plain well))
