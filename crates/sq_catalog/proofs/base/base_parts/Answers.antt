-- Left open for base_parts: the clause exact; answered by Turns.
use Rattle.std.proofs.Common.{List, map, subst}
use Rattle.std.specs.Borrow.{Bor}
use Rattle.sq_tree.specs.declared.cond.Cond.{Cond}
use Rattle.sq_binding.specs.Seen.{cond_seen}
use Rattle.sq_binding.specs.Column.{declared_column}
use Rattle.sq_binding.specs.ElementOutcome.{each}
use Rattle.sq_binding.specs.Names.{descriptor_of}
use Rattle.sq_catalog.specs.Checks.{check_over}
use Rattle.sq_catalog.specs.Exact.{name_in}
use Rattle.sq_catalog.specs.Fault.{Makes}
use Rattle.sq_catalog.specs.Table.{held_declared, typed_seen}
use Rattle.sq_catalog.specs.Written.{conditions_lent}
use Rattle.sq_catalog.specs.declared.typed.TypedColumn.{TypedColumn}
use Rattle.sq_catalog.proofs.OneByOne.Turns.{both_made, both_stop, handed_on}
use Rattle.sq_catalog.proofs.base.base_parts.Goals as goal

pub returns-in_err-checks-clause-exact : goal.returns-in_err-checks-clause-exact
returns-in_err-checks-clause-exact c =
    let table = c.args.table.now in
    let draft = c.args.draft.now in
    let check = check_over table.user (name_in table.name.now) (map descriptor_of table.columns.now) in
    handed_on _ _ c.from_residual.result c.in_err-checks.field-0.0 c.from_residual.ensures.1
    (both_stop (map cond_seen) (held_declared draft.columns.items) (each check (conditions_lent draft.written.checks.items)) (each declared_column (map typed_seen draft.columns.items)) c.bound_checks-checks.result c.base_columns-columns.result
    (subst (λ (ks : List (Bor Cond)). Makes (map cond_seen) (each check (conditions_lent ks)) c.bound_checks-checks.result) c.as_slice.ensures.value c.bound_checks-checks.ensures)
    (subst (λ (ts : List TypedColumn). Makes (held_declared ts) (each declared_column (map typed_seen ts)) c.base_columns-columns.result) c.as_slice-2.ensures.value c.base_columns-columns.ensures.exact)
    _ c.in_err-checks.field-0.0 c.in_err-checks.ensures.fault)

pub returns-in-Ok-clause-exact : goal.returns-in-Ok-clause-exact
returns-in-Ok-clause-exact c =
    let table = c.args.table.now in
    let draft = c.args.draft.now in
    let check = check_over table.user (name_in table.name.now) (map descriptor_of table.columns.now) in
    both_made (map cond_seen) (held_declared draft.columns.items) (each check (conditions_lent draft.written.checks.items)) (each declared_column (map typed_seen draft.columns.items)) c.bound_checks-checks.result c.base_columns-columns.result
    (subst (λ (ks : List (Bor Cond)). Makes (map cond_seen) (each check (conditions_lent ks)) c.bound_checks-checks.result) c.as_slice.ensures.value c.bound_checks-checks.ensures)
    (subst (λ (ts : List TypedColumn). Makes (held_declared ts) (each declared_column (map typed_seen ts)) c.base_columns-columns.result) c.as_slice-2.ensures.value c.base_columns-columns.ensures.exact)
    _ c.in_ok-checks.checks c.in_ok-checks.columns c.in_ok-checks.ensures.values.0 c.in_ok-checks.ensures.values.1
