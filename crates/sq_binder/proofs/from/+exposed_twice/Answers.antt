-- Left open for exposed_twice: its result; answered by FromItems.
use Rattle.std.proofs.Common.{Bool, map, sym, ap, ◌∙◌, arith}
use Rattle.std.specs.Prelude.{◌||◌}
use Rattle.sq_meaning.specs.Binding.{has_item_twice}
use Rattle.sq_binder.specs.From.{exposed}
use Rattle.sq_binder.proofs.Clauses.FromItems.{later, twice_split}
use Rattle.sq_binder.proofs.from.+exposed_twice.Goals as goal

pub returns-then-is_exposed : goal.returns-then-is_exposed
returns-then-is_exposed t c =
    let items = c.args.items.now in
    ap (λ (b : Bool). b || has_item_twice (map exposed (later items))) (sym c.if-is_exposed.true ∙ c.is_exposed.ensures)
    ∙ sym (twice_split items c.item-item.result (omega (arith, c.in-len1-up.len_at_least)) c.item-item.is)

pub returns-else-is_exposed : goal.returns-else-is_exposed
returns-else-is_exposed t c =
    let items = c.args.items.now in
    c.exposed_twice.ensures ∙ ap (λ (b : Bool). b || has_item_twice (map exposed (later items))) (sym c.if-is_exposed.false ∙ c.is_exposed.ensures)
    ∙ sym (twice_split items c.item-item.result (omega (arith, c.in-len1-up.len_at_least)) c.item-item.is)
