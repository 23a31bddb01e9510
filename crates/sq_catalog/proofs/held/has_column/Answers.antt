-- Left open for has_column: its result; answered by Found.
use Rattle.std.proofs.Common.{ap, sym, ◌∙◌}
use Rattle.std.specs.List.{list_any}
use Rattle.sq_meaning.specs.Environment.{same_name}
use Rattle.sq_bound.specs.declared.names.Column.{Column}
use Rattle.sq_catalog.proofs.OneByOne.Found.{any_map}
use Rattle.sq_catalog.proofs.held.has_column.Goals as goal

pub returns : goal.returns
returns c =
    c.is_named.ensures ∙ ap (list_any (λ (x : Column). same_name c.args.name x.name)) c.as_slice.ensures
    ∙ sym (any_map (same_name c.args.name) (λ (x : Column). x.name) c.args.table.now.columns)
