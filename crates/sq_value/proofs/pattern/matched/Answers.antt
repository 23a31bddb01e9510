-- Left open for matched: its result; answered by Patterns.
use Rattle.std.proofs.Common.{◌∙◌}
use Rattle.sq_value.specs.Pattern.{cut_as_read, pattern_items}
use Rattle.sq_value.proofs.Patterns.{cut_is}
use Rattle.sq_value.proofs.pattern.matched.Goals as goal

pub returns : goal.returns
returns c =
    cut_is (pattern_items c.args.escape c.codes.result.now) c.codes-text.result.now c.cut_by_items.new.cuts c.from.result c.in_ok-cut_by_items.ensures c.from.ensures
    ∙ (λ i. cut_as_read (c.codes-text.ensures.value i) (pattern_items c.args.escape (c.codes.ensures.value i)))
