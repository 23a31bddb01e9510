-- Left open for clause_value: its result; answered without a law.
use Rattle.std.proofs.Common.{Option, Bor, subst, sym}
use Rattle.std.specs.Option.{option_map}
use Rattle.sq_tree.specs.declared.cond.Cond.{Cond}
use Rattle.sq_meaning.specs.Spelled.{clause, cond_of}
use Rattle.sq_binding.specs.Condition.{clause_bound, cond_bound}
use Rattle.sq_binder.specs.Found.{Finds}
use Rattle.sq_binder.specs.Specification.{clause_seen}
use Rattle.sq_binder.specs.Surroundings.{surroundings}
use Rattle.sq_binder.proofs.target.clause_value.Goals as goal

pub returns-in-Some : goal.returns-in-Some
returns-in-Some g c =
    let a = surroundings g.T.Tables.named c.args.at.now in
    let own = c.args.at.now.environment.now.user in
    subst (λ (o : Option (Bor Cond)). Finds clause_seen (clause_bound a (clause (option_map (λ (x : Bor Cond). cond_of own x.now) o))) c.args.before c.make_present.result) (sym c.in-Some.is)
    (c.make_present.ensures (cond_bound a (cond_of own c.in-Some.cond.now)) c.args.before c.bind_cond.ensures)
