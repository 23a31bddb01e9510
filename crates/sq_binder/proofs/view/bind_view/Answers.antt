-- Left open for bind_view: the clause binds; answered by CursorTrees.
use Rattle.std.proofs.Common.{[]}
use Rattle.sq_lex.specs.declared.name.Name.{Name}
use Rattle.sq_meaning.specs.Spelled.{select_of}
use Rattle.sq_binding.specs.Select.{Surroundings}
use Rattle.sq_binding.specs.View.{view_over}
use Rattle.sq_binder.specs.Binds.{Binds}
use Rattle.sq_binder.specs.Names.{user_names}
use Rattle.sq_binder.specs.View.{view_seen}
use Rattle.sq_binder.proofs.WholeQueries.CursorTrees.{in_none}
use Rattle.sq_binder.proofs.view.bind_view.Goals as goal

pub returns-clause-binds : goal.returns-clause-binds
returns-clause-binds g c =
    let tables = g.T.Tables.named c.args.tables.now in
    let changes = g.T.ChangeableTables.changes c.args.tables.now in
    in_none (λ (u : Name) (s : Surroundings). Binds view_seen (view_over (user_names u tables changes) s (select_of u c.args.query.now)) c.view_over.result) tables c.new-environment.result c.args.user []
    c.new-environment.ensures.scopes c.new-environment.ensures.parameters c.new-environment.ensures.user c.view_over.ensures.binds
