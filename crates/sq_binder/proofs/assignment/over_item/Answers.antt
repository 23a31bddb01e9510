-- Left open for over_item: the clause finds; answered by Inside.
use Rattle.std.proofs.Common.{List, [], ◌∷◌, None, map, ap, ◌∙◌}
use Rattle.sq_tree.specs.declared.statement.Assignment.{Assignment}
use Rattle.sq_meaning.specs.Spelled.{listed}
use Rattle.sq_binder.specs.Found.{Finds}
use Rattle.sq_binder.specs.Scope.{scope_over}
use Rattle.sq_binder.specs.Surroundings.{surroundings}
use Rattle.sq_binder.specs.declared.scope.FromItem.{FromItem}
use Rattle.sq_binder.proofs.Clauses.Inside.{inside_lines}
use Rattle.sq_binder.specs.Changeable.{table_name}
use Rattle.sq_binder.specs.Receiver.{columns_made, receiver_seen}
use Rattle.sq_binder.specs.Update.{assignment_in}
use Rattle.sq_binding.specs.SeenQuery.{assignment_seen}
use Rattle.sq_binder.proofs.assignment.over_item.Goals as goal

pub returns-clause-finds : goal.returns-clause-finds
returns-clause-finds g c =
    let a = surroundings g.T.Tables.named c.args.at.now in
    let own = c.args.at.now.environment.now.user in
    let inner = c.within-environment.result in
    let holds = (g.T.ChangeableTables.changes c.args.at.now.tables.now).holds (table_name c.args.table.now) in
    inside_lines
    (λ s u. Finds (map assignment_seen) (columns_made (map receiver_seen c.args.receivers.now) (λ (s : Assignment). s.column) (assignment_in holds s) (listed c.args.list.now)) c.args.before c.in_turn.result)
    a inner own (c.args.item.now ∷ []) c.within-environment.ensures.parameters c.within-environment.ensures.user
    (c.within-environment.ensures.scopes ∙ c.scope_over.ensures ∙ ap (λ (items : List FromItem). scope_over items None ∷ a.scopes) c.from_ref.ensures.value)
    c.in_turn.ensures.finds
