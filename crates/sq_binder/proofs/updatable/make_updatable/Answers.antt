-- Left open for make_updatable: the clause finds; answered by Targets.
use Rattle.std.proofs.Common.{subst}
use Rattle.std.specs.Option.{option_map}
use Rattle.sq_binder.specs.Found.{Finds}
use Rattle.sq_binder.specs.Changeable.{changed_of, target_made}
use Rattle.sq_binding.specs.SeenQuery.{target_seen, updatable_seen}
use Rattle.sq_binder.proofs.Changes.Targets.{updatable_found}
use Rattle.sq_binder.proofs.updatable.make_updatable.Goals as goal

pub returns-in-Ok-clause-finds : goal.returns-in-Ok-clause-finds
returns-in-Ok-clause-finds c = λ b before found.
    let t = changed_of c.args.table.now in
    updatable_found t c.args.columns target_seen (option_map updatable_seen) b before c.in-Ok.target c.updatable_where.result
    (subst (λ r. Finds target_seen (target_made t b) before r) c.in-Ok.is found) c.updatable_where.ensures.brought c.updatable_where.ensures.part
