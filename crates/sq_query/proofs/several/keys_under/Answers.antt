-- Left open for keys_under: the clause known; answered by KeysSearch.
use Rattle.std.proofs.Common.{◌≡◌, ◌∙◌, true, ap, sym}
use Rattle.sq_bound.specs.declared.names.Leaf.{Leaf}
use Rattle.sq_query.proofs.Keys.KeysSearch.{keys_through_views}
use Rattle.sq_query.proofs.several.keys_under.Goals as goal

pub returns-then-get-clause-known : goal.returns-then-get-clause-known
returns-then-get-clause-known g c =
    let store = c.args.store.now in
    let call = c.args.call.now in
    let quiet : c.args.target.now.leaf.is_quiet ≡ true = sym (ap (λ (l : Leaf). l.is_quiet) c.get.ensures) ∙ c.if-get.true in
    keys_through_views c.args.target.now (g.S.Store.content_now store) (g.S.Store.key_columns store) call.parameters.now call.user c.in-Some.own c.keys_of_condition.result c.in-Some.is quiet
    c.keys_of_condition.ensures.known
