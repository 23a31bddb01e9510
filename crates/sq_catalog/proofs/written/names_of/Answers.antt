-- Left open for names_of: the clause names, and that the loop keeps its invariant; answered by Zips.
use Rattle.std.proofs.Common.{[], ◌∷◌, ◌++◌, ap, sym, ◌∙◌}
use Rattle.sq_catalog.proofs.OneByOne.Zips.{list_next, list_whole}
use Rattle.sq_catalog.proofs.written.names_of.Goals as goal

pub loop-name-preserved : goal.loop-name-preserved
loop-name-preserved c =
    c.in_ok-push-2.ensures.ok ∙ ap (λ l. l ++ c.name-item.result ∷ []) c.loop-name.invariant
    ∙ sym (list_next c.args.list.now.first c.as_slice-name-items.result.now c.loop-name.name-index c.name-item.result c.loop-name-test.true (sym c.name-item.is))

pub returns-clause-names : goal.returns-clause-names
returns-clause-names c =
    c.loop-name.invariant ∙ list_whole c.args.list.now.first c.as_slice-name-items.result.now c.args.list.now.rest c.loop-name.name-index c.as_slice-name-items.ensures c.loop-name-test.false
