-- Left open for factor_reference: its result; answered by ItemNames.
use Rattle.sq_binder.proofs.Expressions.ItemNames as names
use Rattle.std.proofs.Common.{sym, ◌∙◌}
use Rattle.sq_binder.proofs.item_name.factor_reference.Goals as goal

pub returns-then-is_some : goal.returns-then-is_some
returns-then-is_some c = names.signed_unnamed c.args.factor.now (sym c.is_some.ensures ∙ c.if-is_some.true)

pub returns-in-Column : goal.returns-in-Column
returns-in-Column c = names.column_named c.args.factor.now c.in-Column.reference (sym c.is_some.ensures ∙ c.if-is_some.false) c.in-Column.is

pub returns-in_default : goal.returns-in_default
returns-in_default c = names.other_unnamed c.args.factor.now (sym c.is_some.ensures ∙ c.if-is_some.false) c.in_default.not-Column
