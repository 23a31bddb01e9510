-- Left open for bind_check: its result; answered by CursorTrees.
use Rattle.std.proofs.Common.{[], ◌∷◌, false, None, map, subst}
use Rattle.sq_lex.specs.declared.name.Name.{Name}
use Rattle.sq_meaning.specs.Environment.{TableName}
use Rattle.sq_meaning.specs.Spelled.{cond_of}
use Rattle.sq_binding.specs.Condition.{cond_bound}
use Rattle.sq_binding.specs.From.{NamedTables}
use Rattle.sq_binding.specs.Scope.{FromItem}
use Rattle.sq_binding.specs.Seen.{cond_seen}
use Rattle.sq_binding.specs.Select.{Surroundings, of_lines}
use Rattle.sq_binding.specs.View.{beside_columns}
use Rattle.sq_binder.specs.Found.{Finds}
use Rattle.sq_binder.specs.Scope.{item_of}
use Rattle.sq_binder.specs.Surroundings.{descriptor_of}
use Rattle.sq_binder.specs.declared.found.Counts.{Counts}
use Rattle.sq_binder.proofs.WholeQueries.CursorTrees.{in_none}
use Rattle.sq_binder.proofs.check.bind_check.Goals as goal

pub returns : goal.returns
returns c =
    let user = c.args.user in
    let t : TableName = record { user = c.args.table.0; name = c.args.table.1 } in
    let columns = map descriptor_of c.args.columns.now in
    let none : NamedTables = λ t. None in
    let plain : Surroundings = record { names = none; parameters = []; scopes = []; functions_allowed = false } in
    let first : Counts = record { functions = 0; subqueries = 0 } in
    let bound = c.condition_over-condition.result in
    c.check_condition.ensures (cond_bound (beside_columns t columns) (cond_of user c.args.cond.now))
    (subst (λ (item : FromItem). Finds cond_seen (cond_bound (of_lines (item ∷ []) plain) (cond_of user c.args.cond.now)) first bound) c.in-Ok.ensures
    (in_none (λ (u : Name) (s : Surroundings). Finds cond_seen (cond_bound (of_lines (item_of c.in-Ok.item ∷ []) s) (cond_of u c.args.cond.now)) first bound) none c.new-environment.result user []
    c.new-environment.ensures.scopes c.new-environment.ensures.parameters c.new-environment.ensures.user c.condition_over-condition.ensures))
