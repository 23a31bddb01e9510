-- Left open for bind_row: its result; answered by SelectRows.
use Rattle.std.proofs.Common.{map, sym, ap, subst, ◌∙◌}
use Rattle.sq_meaning.specs.Spelled.{listed}
use Rattle.sq_binding.specs.Seen.{column_of}
use Rattle.sq_binding.specs.Targets.{targets_bound}
use Rattle.sq_binding.proofs.Standing.SeenLevels.{columns_seen}
use Rattle.sq_binder.specs.Binds.{Binds}
use Rattle.sq_binder.specs.Found.{Finds}
use Rattle.sq_binder.specs.Scope.{parameters_in}
use Rattle.sq_binder.specs.Surroundings.{surroundings}
use Rattle.sq_binder.specs.Row.{row_in}
use Rattle.sq_binding.specs.SeenQuery.{output_seen, row_seen}
use Rattle.sq_binder.proofs.Statements.SelectRows.{row_found}
use Rattle.sq_binder.proofs.row.bind_row.Goals as goal

pub returns : goal.returns
returns g c =
    let a = surroundings g.T.Tables.named c.args.at.now in
    let own = c.args.at.now.environment.now.user in
    let s = c.args.select.now in
    let query = c.in_ok-query.query in
    let outputs = c.targets_of-outputs.result in
    subst (λ r. Finds row_seen (row_in own a s) c.args.before r) (sym c.with_outputs.ensures)
    (row_found own a s c.args.before query c.in_ok-query.ensures outputs
    (subst (λ ks. Binds (map output_seen) (targets_bound (parameters_in c.args.at.now.environment.now) (listed s.targets) ks) outputs)
    (sym (ap (map (λ c. c.kind)) (columns_seen query.part ∙ ap (map column_of) (sym c.as_slice.ensures)))) c.targets_of-outputs.ensures))
