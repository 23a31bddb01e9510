-- Left open: the call of assign_value, the clauses meant and stored, and the loop's invariant; answered by InTurn, Domains and Storable.
use Rattle.std.proofs.Common.{rules, length, ◌∙◌}
use Rattle.std.proofs.lemmas.List.{length_push}
use Rattle.std.proofs.lemmas.Slice.Zip.{zip_end, zip_turn}
use Rattle.std.specs.List.{zip}
use Rattle.sq_value.specs.Domain.{FitsKind}
use Rattle.sq_expression.proofs.Expressions.{handed_on}
use Rattle.sq_change.specs.Made.{row_stored, stored_in}
use Rattle.sq_change.proofs.OneByOne.InTurn.{made_none, pair_failed, pair_more, pairs_all}
use Rattle.sq_change.proofs.NewRows.Domains.{stored_all, stored_push}
use Rattle.sq_change.proofs.NewRows.Storable.{zipped_at}
use Rattle.sq_change.proofs.given.stored_row.Goals as goal

pub assign_value-requires-clause-kind : goal.assign_value-requires-clause-kind
assign_value-requires-clause-kind c =
    let turn =
    zip_turn c.args.columns.now c.args.row.now c.loop-column.yielded c.into_iter-column-iterator.result c.loop-column.column-iterator c.next.new.self c.next.result (search rules) (search rules)
    c.loop-column.yielded_by (c.in-Some.column, c.in-Some.value) c.in-Some.is c.next.ensures.steps in
    zipped_at (λ d v. FitsKind d.domain v) c.args.columns.now c.args.row.now (length c.loop-column.yielded) c.in-Some.column.now c.in-Some.value.now c.requires turn.0
    (turn.2 c.in-Some.column.now) (turn.3 c.in-Some.value.now)

pub loop-column-init : goal.loop-column-init
loop-column-init c = record {
  fit = rw (c.from_vec-stored.ensures ∙ c.in_ok-with_capacity.ensures.items) tt;
  meant = made_none stored_in (zip c.args.columns.now c.args.row.now) c.from_vec-stored.result (c.from_vec-stored.ensures ∙ c.in_ok-with_capacity.ensures.items);
}

pub loop-column-preserved : goal.loop-column-preserved
loop-column-preserved c =
    let turn =
    zip_turn c.args.columns.now c.args.row.now c.loop-column.yielded c.into_iter-column-iterator.result c.loop-column.column-iterator c.next.new.self c.next.result (search rules) (search rules)
    c.loop-column.yielded_by (c.in-Some.column, c.in-Some.value) c.in-Some.is c.next.ensures.steps in
    record {
      fit = rw (c.in_ok-push.ensures.ok, length_push c.loop-column.yielded (c.in-Some.column, c.in-Some.value))
          (stored_push c.args.columns.now (length c.loop-column.yielded) c.loop-column.stored c.in-Some.column.now c.in_ok-assign_value.field-0 turn.0 (turn.2 c.in-Some.column.now)
          c.loop-column.invariant.fit c.in_ok-assign_value.ensures.in_domain);
      meant = pair_more stored_in c.args.columns.now c.args.row.now c.loop-column.stored c.loop-column.yielded (c.in-Some.column, c.in-Some.value) turn c.loop-column.invariant.meant
          c.push.new.self c.in_ok-assign_value.field-0 c.in_ok-assign_value.ensures.fit c.in_ok-push.ensures.ok;
    }

pub returns-in_err-assign_value-clause-meant : goal.returns-in_err-assign_value-clause-meant
returns-in_err-assign_value-clause-meant c =
    let turn =
    zip_turn c.args.columns.now c.args.row.now c.loop-column.yielded c.into_iter-column-iterator.result c.loop-column.column-iterator c.next.new.self c.next.result (search rules) (search rules)
    c.loop-column.yielded_by (c.in-Some.column, c.in-Some.value) c.in-Some.is c.next.ensures.steps in
    let e = c.in_err-assign_value.field-0.0 in
    handed_on c.from_residual-in_err-assign_value.result e (row_stored c.args.columns.now c.args.row.now) c.from_residual-in_err-assign_value.ensures.1
    (pair_failed stored_in c.args.columns.now c.args.row.now c.loop-column.stored c.loop-column.yielded (c.in-Some.column, c.in-Some.value) turn c.loop-column.invariant.meant
    e c.in_err-assign_value.ensures.fit)

pub returns-clause-meant : goal.returns-clause-meant
returns-clause-meant c =
    let ended =
    zip_end c.args.columns.now c.args.row.now c.loop-column.yielded c.into_iter-column-iterator.result c.loop-column.column-iterator c.next.new.self c.next.result (search rules) (search rules)
    c.loop-column.yielded_by c.in-None.is c.next.ensures.steps in
    pairs_all stored_in c.args.columns.now c.args.row.now c.loop-column.stored c.loop-column.yielded ended c.loop-column.invariant.meant

pub returns-clause-stored : goal.returns-clause-stored
returns-clause-stored c =
    let ended =
    zip_end c.args.columns.now c.args.row.now c.loop-column.yielded c.into_iter-column-iterator.result c.loop-column.column-iterator c.next.new.self c.next.result (search rules) (search rules)
    c.loop-column.yielded_by c.in-None.is c.next.ensures.steps in
    stored_all (λ d v. FitsKind d.domain v) c.args.columns.now c.args.row.now (length c.loop-column.yielded) c.loop-column.stored c.requires ended c.loop-column.invariant.fit
