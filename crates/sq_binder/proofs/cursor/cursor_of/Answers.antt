-- Left open for cursor_of: the clauses binds and under; answered by CursorTrees.
use Rattle.std.proofs.Common.{Option, Bor, None, sym, ap, subst, ◌∙◌}
use Rattle.std.proofs.lemmas.Result.{IfOk-weaker}
use Rattle.std.specs.Option.{option_map}
use Rattle.sq_tree.specs.declared.cond.QuerySpecification.{QuerySpecification}
use Rattle.sq_meaning.specs.Spelled.{Named, query_of, select_of}
use Rattle.sq_meaning.specs.Syntax.{Select}
use Rattle.sq_bound.specs.declared.query.BoundCursor.{BoundCursor}
use Rattle.sq_binding.specs.Cursor.{cursor_of}
use Rattle.sq_binder.specs.Binds.{Binds}
use Rattle.sq_binder.specs.Surroundings.{surroundings}
use Rattle.sq_binder.specs.Cursor.{IsOver, IsOverPart}
use Rattle.sq_binder.specs.Names.{names_at}
use Rattle.sq_binder.proofs.WholeQueries.CursorTrees.{over_as}
use Rattle.sq_binding.specs.SeenQuery.{cursor_seen}
use Rattle.sq_binder.proofs.cursor.cursor_of.Goals as goal

pub returns-in-Some-clause-binds : goal.returns-in-Some-clause-binds
returns-in-Some-clause-binds g c =
    let a = surroundings g.T.Tables.named c.args.at.now in
    let names = names_at g.T.Tables.named g.T.ChangeableTables.changes c.args.at.now in
    let own = c.args.at.now.environment.now.user in
    let cursor = c.args.cursor.now in
    subst (λ (q : Option (Select Named)). Binds cursor_seen (cursor_of names a cursor (query_of own cursor.query) q) c.specification_cursor.result)
    (sym (ap (option_map (λ (q : Bor QuerySpecification). select_of own q.now)) c.in-Some.is) ∙ c.plain_specification.ensures own) c.specification_cursor.ensures.binds

pub returns-in-None-clause-binds : goal.returns-in-None-clause-binds
returns-in-None-clause-binds g c =
    let a = surroundings g.T.Tables.named c.args.at.now in
    let names = names_at g.T.Tables.named g.T.ChangeableTables.changes c.args.at.now in
    let own = c.args.at.now.environment.now.user in
    let cursor = c.args.cursor.now in
    subst (λ (q : Option (Select Named)). Binds cursor_seen (cursor_of names a cursor (query_of own cursor.query) q) c.query_cursor.result)
    (sym (ap (option_map (λ (q : Bor QuerySpecification). select_of own q.now)) c.in-None.is) ∙ c.plain_specification.ensures own) c.query_cursor.ensures.binds

pub returns-in-None-clause-under : goal.returns-in-None-clause-under
returns-in-None-clause-under g c =
    let changes = g.T.ChangeableTables.changes c.args.at.now.tables.now in
    IfOk-weaker c.query_cursor.result (λ (x : BoundCursor). IsOverPart None x.table x.body) (λ (x : BoundCursor). IsOver changes x.table x.body) (λ x is. over_as changes None x.table x.body is tt) c.query_cursor.ensures.body
