-- Left open for starts_with_key: its result; answered by Keys.
use Rattle.std.proofs.Common.{sym, ◌∙◌}
use Rattle.sq_bound.proofs.Keys.{starts_named, starts_unnamed}
use Rattle.sq_bound.proofs.keyed.starts_with_key.Goals as goal

pub returns-then-name_columns_of : goal.returns-then-name_columns_of
returns-then-name_columns_of c =
    c.are_named.ensures ∙ sym (starts_named c.args.key.now c.args.tests.now c.if-tests-key.false (sym c.name_columns_of.ensures ∙ c.if-name_columns_of.true))

pub returns-else-name_columns_of : goal.returns-else-name_columns_of
returns-else-name_columns_of c =
    c.if-name_columns_of.false ∙ sym (starts_unnamed c.args.key.now c.args.tests.now c.if-tests-key.false (sym c.name_columns_of.ensures ∙ c.if-name_columns_of.false))
