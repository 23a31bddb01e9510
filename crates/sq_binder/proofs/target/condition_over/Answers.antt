-- Left open for condition_over: its result; answered by Inside.
use Rattle.std.proofs.Common.{List, [], ◌∷◌, Bor, None, false, subst, ap, ◌∙◌}
use Rattle.std.specs.Option.{option_map}
use Rattle.sq_lex.specs.declared.name.Name.{Name}
use Rattle.sq_tree.specs.declared.cond.Cond.{Cond}
use Rattle.sq_meaning.specs.Spelled.{Named, clause, cond_of}
use Rattle.sq_meaning.specs.Syntax.{Clause}
use Rattle.sq_binding.specs.Condition.{clause_bound}
use Rattle.sq_binding.specs.Select.{of_lines}
use Rattle.sq_binder.specs.Found.{Finds}
use Rattle.sq_binder.specs.Scope.{item_of, scope_over}
use Rattle.sq_binder.specs.Specification.{clause_seen, first}
use Rattle.sq_binder.specs.Surroundings.{surroundings}
use Rattle.sq_binder.specs.declared.scope.FromItem.{FromItem}
use Rattle.sq_binder.proofs.Clauses.Inside.{at, inside_lines}
use Rattle.sq_binder.proofs.target.condition_over.Goals as goal

pub returns : goal.returns
returns g c =
    let a = surroundings g.T.Tables.named c.args.at.now in
    let own = c.args.at.now.environment.now.user in
    let inner = c.within-environment.result in
    let spelled : Name → Clause Named = λ (u : Name). clause (option_map (λ (x : Bor Cond). cond_of u x.now) c.args.cond) in
    c.count_functions.ensures (clause_bound (of_lines (item_of c.args.item.now ∷ []) a) (spelled own))
    (inside_lines (λ s u. Finds clause_seen (clause_bound s (spelled u)) (first c.args.before) c.clause_value-condition.result) a inner own (c.args.item.now ∷ [])
    c.within-environment.ensures.parameters c.within-environment.ensures.user
    (c.within-environment.ensures.scopes ∙ c.scope_over.ensures ∙ ap (λ (items : List FromItem). scope_over items None ∷ a.scopes) c.from_ref.ensures.value)
    (subst (λ n. Finds clause_seen (clause_bound (at a.names inner false) (spelled inner.user)) n c.clause_value-condition.result) c.first.ensures c.clause_value-condition.ensures))
