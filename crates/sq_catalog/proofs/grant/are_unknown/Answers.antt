-- Left open for are_unknown: its result; answered by Found.
use Rattle.std.proofs.Common.{ap, not, sym, ◌∙◌}
use Rattle.std.specs.List.{list_any}
use Rattle.sq_tree.specs.declared.schema.Action.{Action}
use Rattle.sq_meaning.specs.Spelled.{listed}
use Rattle.sq_meaning.specs.Schema.{is_among}
use Rattle.sq_meaning.specs.SchemaRefusal.{action_columns, has_unknown}
use Rattle.sq_catalog.proofs.OneByOne.Found.{any_flat, first_found, second_found}
use Rattle.sq_catalog.proofs.grant.are_unknown.Goals as goal

pub returns-then-names_unknown : goal.returns-then-names_unknown
returns-then-names_unknown c =
    first_found _ _ (sym c.if-names_unknown.true ∙ c.names_unknown.ensures) c.if-names_unknown.true ∙ sym (any_flat (λ n. not (is_among c.args.columns.now n)) action_columns (listed c.args.actions.now))

pub returns-else-names_unknown : goal.returns-else-names_unknown
returns-else-names_unknown c =
    second_found _ _ (sym c.if-names_unknown.false ∙ c.names_unknown.ensures) (c.any_unknown.ensures ∙ ap (list_any (λ (a : Action). has_unknown c.args.columns.now (action_columns a))) c.as_slice.ensures) ∙ sym (any_flat (λ n. not (is_among c.args.columns.now n)) action_columns (listed c.args.actions.now))
