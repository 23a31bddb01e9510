-- Left open for target_over: the invariant of its result; answered by Targets.
use Rattle.std.proofs.Common.{◌≡◌, true, subst, sym}
use Rattle.sq_bound.specs.Keyed.{is_named_by, is_shortest_of}
use Rattle.sq_bound.specs.Names.{option_all}
use Rattle.sq_bound.specs.declared.names.Leaf.{Leaf}
use Rattle.sq_binder.proofs.Changes.Targets.{noted_named, noted_shortest}
use Rattle.sq_binder.proofs.target.target_over.Goals as goal

pub invariant_of-result-clause-keyed : goal.invariant_of-result-clause-keyed
invariant_of-result-clause-keyed c =
    let under = c.args.table.now.under in
    subst (λ (leaf : Leaf). option_all (is_named_by leaf c.args.condition) c.key_of-key.result ≡ true) (sym c.in-Ok.ensures)
    (noted_named under.leaf.now under.is_base c.args.has_subquery c.args.condition c.key_of-key.result under.plain c.key_of-key.ensures)

pub invariant_of-result-clause-shortest : goal.invariant_of-result-clause-shortest
invariant_of-result-clause-shortest c =
    let under = c.args.table.now.under in
    subst (λ (leaf : Leaf). option_all (is_shortest_of leaf c.args.condition) c.key_of-key.result ≡ true) (sym c.in-Ok.ensures)
    (noted_shortest under.leaf.now under.is_base c.args.has_subquery c.args.condition c.key_of-key.result c.key_of-key.ensures)
