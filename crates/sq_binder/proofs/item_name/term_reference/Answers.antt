-- Left open for term_reference: its result; answered by ItemNames.
use Rattle.sq_binder.proofs.Expressions.ItemNames as names
use Rattle.std.proofs.Common.{◌≡◌, true, false, ap, sym, ◌∙◌}
use Rattle.sq_meaning.specs.SortKeys.{item_name}
use Rattle.sq_binder.proofs.item_name.term_reference.Goals as goal

pub returns-then-is_empty : goal.returns-then-is_empty
returns-then-is_empty c = ap item_name (names.factor_alone c.args.term.now (c.is_empty.ensures.0 c.if-is_empty.true)) ∙ c.factor_reference.ensures

pub returns-else-is_empty : goal.returns-else-is_empty
returns-else-is_empty c =
    names.product_unnamed c.args.term.now
    (λ none. let no : false ≡ true = sym c.if-is_empty.false ∙ c.is_empty.ensures.1 none in cc)
