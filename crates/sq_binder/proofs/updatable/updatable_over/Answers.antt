-- Left open for updatable_over: the clause finds; answered by Updatables.
use Rattle.std.proofs.Common.{ℕ, List, Option, Bor, map, sym, ap, subst, ◌∙◌}
use Rattle.std.specs.Option.{option_map}
use Rattle.sq_tree.specs.declared.cond.QuerySpecification.{out-QuerySpecification}
use Rattle.sq_tree.specs.declared.cond.TableExpression.{out-TableExpression}
use Rattle.sq_tree.specs.declared.cond.Cond.{Cond}
use Rattle.sq_meaning.specs.Spelled.{Named, clause, cond_of}
use Rattle.sq_meaning.specs.Syntax.{Clause}
use Rattle.sq_binding.specs.Changeable.{columns_shown, condition_bound}
use Rattle.sq_binding.specs.Seen.{numbered_of}
use Rattle.sq_binder.specs.Found.{Finds}
use Rattle.sq_binder.specs.Surroundings.{surroundings}
use Rattle.sq_binder.specs.Changeable.{changed_of}
use Rattle.sq_binder.specs.Names.{beneath_of, under_table}
use Rattle.sq_binder.specs.Updatable.{updatable_made}
use Rattle.sq_binder.proofs.Changes.Updatables.{clause_lent, filter_is, list_is, shown_is}
use Rattle.sq_binding.specs.SeenQuery.{updatable_seen}
use Rattle.sq_binder.proofs.updatable.updatable_over.Goals as goal

pub returns-clause-finds : goal.returns-clause-finds
returns-clause-finds g c =
    let a = surroundings g.T.Tables.named c.args.at.now in
    let own = c.args.at.now.environment.now.user in
    let q = c.args.query.now in
    let t = changed_of c.args.table.now in
    let u = under_table (beneath_of c.args.table.now.under) in
    let filter = clause_lent own c.as_ref.result (out-TableExpression (out-QuerySpecification q).table).where_clause c.as_ref.ensures.value ∙ sym (filter_is own q) in
    let columns =
    c.in_ok-columns.ensures
    ∙ (λ i. columns_shown u (sym (list_is own q) i) ((ap (map numbered_of) c.as_slice.ensures ∙ sym (shown_is c.args.bound.now)) i)) in
    subst (λ (z : Option (List ℕ) × Clause Named). Finds (option_map updatable_seen) (updatable_made t z.0 (condition_bound a t z.1)) c.args.before c.make_updatable.result) (λ i. (columns i, filter i))
    (c.make_updatable.ensures.finds (condition_bound a t (clause (option_map (λ (x : Bor Cond). cond_of own x.now) c.as_ref.result))) c.args.before c.bind_target-target.ensures.finds)
