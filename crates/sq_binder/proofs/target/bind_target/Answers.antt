-- Left open for bind_target: the clause finds; answered without a law.
use Rattle.std.proofs.Common.{[], ◌∷◌, Bor, subst}
use Rattle.std.specs.Option.{option_map}
use Rattle.sq_tree.specs.declared.cond.Cond.{Cond}
use Rattle.sq_meaning.specs.Spelled.{clause, cond_of}
use Rattle.sq_binding.specs.Condition.{clause_bound}
use Rattle.sq_binding.specs.Found.{from_first}
use Rattle.sq_binding.specs.Scope.{FromItem}
use Rattle.sq_binding.specs.Select.{of_lines}
use Rattle.sq_binder.specs.Found.{Finds}
use Rattle.sq_binder.specs.Scope.{item_of}
use Rattle.sq_binder.specs.Surroundings.{surroundings}
use Rattle.sq_binder.specs.Changeable.{changed_of, target_made}
use Rattle.sq_binding.specs.SeenQuery.{target_seen}
use Rattle.sq_binder.proofs.target.bind_target.Goals as goal

pub returns-clause-finds : goal.returns-clause-finds
returns-clause-finds g c =
    let a = surroundings g.T.Tables.named c.args.at.now in
    let t = changed_of c.args.table.now in
    let cond = clause (option_map (λ (x : Bor Cond). cond_of c.args.at.now.environment.now.user x.now) c.args.cond) in
    subst (λ (item : FromItem). Finds target_seen (target_made t (from_first (clause_bound (of_lines (item ∷ []) a) cond))) c.args.before c.found_target.result) c.in_ok-item.ensures
    (c.found_target.ensures.target (from_first (clause_bound (of_lines (item_of c.in_ok-item.item ∷ []) a) cond)) c.args.before c.condition_over-condition.ensures)
