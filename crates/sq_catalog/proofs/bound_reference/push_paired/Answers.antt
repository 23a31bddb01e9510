-- Left open for push_paired: the clause pair; answered by References.
use Rattle.std.proofs.Common.{◌<◌, ◌++◌, ◌∷◌, [], length, get_or, ap, arith, ◌∙◌}
use Rattle.sq_catalog.proofs.CreateTable.References.{pair_added}
use Rattle.sq_catalog.proofs.bound_reference.push_paired.Goals as goal

pub returns-then-other-key_column-clause-pair : goal.returns-then-other-key_column-clause-pair
returns-then-other-key_column-clause-pair c =
    let listed = c.args.listed.now in
    let columns = c.args.columns.now in
    let within : c.loop-pair.pair < length columns = omega arith in
    pair_added listed columns c.args.key_column c.loop-pair.pair c.args.ordered.now c.push.new.self c.loop-pair-test.true within c.loop-pair.invariant.passed c.if-other-key_column.true
    (c.in_ok-push.ensures.ok ∙ ap (λ l. l ++ get_or columns c.loop-pair.pair 0 ∷ []) c.loop-pair.invariant.kept)
