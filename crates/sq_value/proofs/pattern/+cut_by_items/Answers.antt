-- Left open for cut_by_items: its result; answered by Patterns.
use Rattle.std.proofs.Common.{◌∷◌, sym, subst, ap, ◌∙◌}
use Rattle.sq_value.specs.Pattern.{pattern_items, with_item}
use Rattle.sq_value.specs.private.Pattern.{AreCutsAsRead}
use Rattle.sq_value.specs.declared.pattern.Item.TheVariants.{This}
use Rattle.sq_value.proofs.Patterns.{plain_read, escaped_read, read_put}
use Rattle.sq_value.proofs.pattern.+cut_by_items.Goals as goal

pub returns-then-not-is_escape : goal.returns-then-not-is_escape
returns-then-not-is_escape t c =
    let e = c.args.escape in
    let code = c.in-Some.code.now in
    let rest = c.in-Some.rest.now in
    let read =
    ap (pattern_items e) (c.in-Some.ensures.cases.0)
    ∙ plain_read e code rest (sym c.is_escape.ensures ∙ c.if-not-is_escape.true)
    ∙ ap (λ i. with_item i (pattern_items e rest)) (sym c.plain.ensures) in
    subst (λ r. AreCutsAsRead r c.args.text.now c.put_before.new.cuts) (sym read)
    (read_put (pattern_items e rest) c.plain.result c.args.text.now c.cut_by_items.new.cuts c.put_before.new.cuts c.in_ok-cut_by_items.ensures c.put_before.ensures)

pub returns-in_ok-cut_by_items-in-Some-split_first : goal.returns-in_ok-cut_by_items-in-Some-split_first
returns-in_ok-cut_by_items-in-Some-split_first t c =
    let e = c.args.escape in
    let code = c.in-Some.code.now in
    let escaped = c.in-Some-split_first.escaped.now in
    let rest = c.in-Some-split_first.rest.now in
    let new = c.put_before-in-Some-split_first.new.cuts in
    let read =
    ap (pattern_items e) (c.in-Some.ensures.cases.0 ∙ ap (λ cs. code ∷ cs) (c.in-Some-split_first.ensures.cases.0))
    ∙ escaped_read e code escaped rest (sym c.is_escape.ensures ∙ c.if-not-is_escape.false) (sym c.may_be_escaped.ensures ∙ c.if-may_be_escaped.true) in
    subst (λ r. AreCutsAsRead r c.args.text.now new) (sym read)
    (read_put (pattern_items e rest) (This escaped) c.args.text.now c.cut_by_items-in-Some-split_first.new.cuts new c.in_ok-cut_by_items-in-Some-split_first.ensures c.put_before-in-Some-split_first.ensures)
