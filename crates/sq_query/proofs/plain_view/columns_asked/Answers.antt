-- Left open for columns_asked: that the loop keeps its invariant; answered by AskedColumns.
use Rattle.std.proofs.Common.{◌∙◌, ◌+◌, ℕ, ap, subst, sym}
use Rattle.std.specs.Prelude.{IfSome, length}
use Rattle.sq_query.specs.Asked.{AreThrough, IsThrough}
use Rattle.sq_query.proofs.FoundByKey.AskedColumns.{columns_more, one_longer}
use Rattle.sq_query.proofs.plain_view.columns_asked.Goals as goal

pub loop-column-preserved : goal.loop-column-preserved
loop-column-preserved c =
    let through = c.args.asked.now.through in
    let query = c.args.query.now in
    let before = c.loop-column.columns.items in
    let grown = c.in_ok-push.ensures.items in
    let long = c.loop-column.invariant.0 in (
      ap length grown ∙ one_longer before c.own_asked.result ∙ ap (λ n. n + 1) long,
      subst (AreThrough query through) (sym grown)
          (columns_more (IsThrough query through) before c.own_asked.result c.loop-column.invariant.1 (subst (λ (n : ℕ). IfSome c.own_asked.result (λ own. IsThrough query through own n)) (sym long) c.own_asked.ensures)),
    )
