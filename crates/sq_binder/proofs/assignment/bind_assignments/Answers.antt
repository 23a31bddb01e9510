-- Left open: what the call of with_columns asks for, and the clause finds; answered by Finds and others.
use Rattle.std.proofs.Common.{[], length, map, sym, ap, subst, ◌∙◌}
use Rattle.sq_tree.specs.declared.statement.Assignment.{Assignment}
use Rattle.sq_meaning.specs.Spelled.{listed}
use Rattle.sq_binding.specs.Change.{assignment_bound, each_column, receivers_of}
use Rattle.sq_binder.specs.Found.{Finds, counts_of}
use Rattle.sq_binder.specs.Surroundings.{surroundings}
use Rattle.sq_binder.proofs.OneByOne.Finds.{finds_as}
use Rattle.sq_binder.specs.Changeable.{changed_of}
use Rattle.sq_binder.specs.Names.{names_at}
use Rattle.sq_binder.specs.Receiver.{AreWithin, columns_made, receiver_seen}
use Rattle.sq_binding.specs.SeenQuery.{assignment_seen}
use Rattle.sq_binder.proofs.OneByOne.ColumnsInTurn.{in_turn}
use Rattle.sq_binder.proofs.Changes.Receivers.{table_within}
use Rattle.sq_binder.proofs.assignment.bind_assignments.Goals as goal

pub returns-clause-finds : goal.returns-clause-finds
returns-clause-finds g c =
    let t = changed_of c.args.table.now in
    let make = assignment_bound (names_at g.T.Tables.named g.T.ChangeableTables.changes c.args.at.now) (surroundings g.T.Tables.named c.args.at.now) t in
    let list = listed c.args.list.now in
    let r = c.with_columns-bound.result in
    finds_as (map assignment_seen) (each_column t (λ (s : Assignment). s.column) make [] list) (columns_made (receivers_of t) (λ (s : Assignment). s.column) make list) c.args.before r
    (in_turn t (λ (s : Assignment). s.column) make [] list (counts_of c.args.before))
    (subst (λ all. Finds (map assignment_seen) (columns_made all (λ (s : Assignment). s.column) make list) c.args.before r) (ap (map receiver_seen) c.as_slice.ensures ∙ c.in_ok-receivers.ensures) c.with_columns-bound.ensures.finds)

pub with_columns-bound-requires : goal.with_columns-bound-requires
with_columns-bound-requires g c =
    subst (AreWithin (length c.args.table.now.under.leaf.now.table.columns)) (sym (ap (map receiver_seen) c.as_slice.ensures ∙ c.in_ok-receivers.ensures)) (table_within c.args.table.now)
