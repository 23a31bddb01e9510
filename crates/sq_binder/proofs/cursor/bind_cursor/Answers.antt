-- Left open for bind_cursor: the clause binds; answered by CursorTrees.
use Rattle.std.proofs.Common.{map}
use Rattle.sq_lex.specs.declared.name.Name.{Name}
use Rattle.sq_binding.specs.Select.{Surroundings}
use Rattle.sq_binder.specs.Binds.{Binds}
use Rattle.sq_binder.specs.Scope.{declared_of}
use Rattle.sq_binder.specs.Cursor.{cursor_at}
use Rattle.sq_binder.specs.Names.{user_names}
use Rattle.sq_binder.proofs.WholeQueries.CursorTrees.{in_none}
use Rattle.sq_binding.specs.SeenQuery.{cursor_seen}
use Rattle.sq_binder.proofs.cursor.bind_cursor.Goals as goal

pub returns-clause-binds : goal.returns-clause-binds
returns-clause-binds g c =
    let tables = g.T.Tables.named c.args.tables.now in
    let changes = g.T.ChangeableTables.changes c.args.tables.now in
    in_none (λ (u : Name) (s : Surroundings). Binds cursor_seen (cursor_at (user_names u tables changes) s c.args.cursor.now) c.cursor_of.result) tables c.new-environment.result c.args.user
    (map declared_of c.args.parameters.now) c.new-environment.ensures.scopes c.new-environment.ensures.parameters c.new-environment.ensures.user c.cursor_of.ensures.binds
