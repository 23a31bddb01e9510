-- Left open for put_before: its result; answered by Cutting.
use Rattle.std.proofs.Common.{◌≡◌, ◌-◌, ◌∷◌, false, length, get_or, sym, subst, ap, ◌∙◌, arith}
use Rattle.sq_value.specs.private.Pattern.{AreCuts}
use Rattle.sq_value.proofs.Cutting.{run_put, one_put, not_a_run}
use Rattle.sq_value.proofs.pattern.put_before.Goals as goal

pub returns-in-AnyRun : goal.returns-in-AnyRun
returns-in-AnyRun c = λ items are.
    let new = c.put_any_run.new.cuts in
    let end : length c.args.cuts.now - 1 ≡ length c.args.text.now = omega arith in
    let same = ap (λ n. get_or new n false) (sym end) ∙ c.put_any_run.ensures.same_end ∙ ap (λ n. get_or c.args.cuts.now n false) end in
    subst (λ i. AreCuts (i ∷ items) c.args.text.now new) (sym c.in-AnyRun.is)
    (run_put items c.args.text.now c.args.cuts.now new (c.put_any_run.auto.cuts ∙ c.requires) are same (λ k h. c.put_any_run.ensures.each k (omega arith)))

pub returns-in_default : goal.returns-in_default
returns-in_default c = λ items are.
    one_put c.args.item (not_a_run c.args.item c.in_default.not-AnyRun) items c.args.text.now c.args.cuts.now c.put_one_code.new.cuts
    (c.put_one_code.auto.cuts ∙ c.requires) are c.put_one_code.ensures.no_end c.put_one_code.ensures.each
