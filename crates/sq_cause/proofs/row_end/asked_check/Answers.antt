-- Left open for asked_check: its result; answered by FirstEnd.
use Rattle.std.proofs.Common.{inl, inr, length, refl}
use Rattle.std.proofs.lemmas.Option.{slice_get_read}
use Rattle.sq_change.specs.Made.{seen_by}
use Rattle.sq_session.specs.Schemas.{schemas_of}
use Rattle.sq_cause.specs.RowEnd.{IsNotFalseOn}
use Rattle.sq_cause.proofs.FirstEnd.{one_more}
use Rattle.sq_cause.proofs.row_end.asked_check.Goals as goal

pub returns-in-Ok-True : goal.returns-in-Ok-True
returns-in-Ok-True g c =
    let setting = c.args.setting.now in
    let seen = seen_by setting.names.now.views (g.S.Store.content_now setting.store.now) setting.user setting.parameters.now in
    let checks = c.args.checks.now in
    one_more (IsNotFalseOn (schemas_of setting.names.now) seen c.args.row.now) checks c.args.place c.index-checks-place.result c.requires.before
    (slice_get_read checks (length checks) c.args.place c.index-checks-place.result refl c.requires.there c.index-checks-place.is)
    (inl (rw c.in-Ok-True.field-0-is at (rw c.in-Ok-True.is at c.in_ok-comes_to.ensures.truth)))

pub returns-in-Ok-Unknown : goal.returns-in-Ok-Unknown
returns-in-Ok-Unknown g c =
    let setting = c.args.setting.now in
    let seen = seen_by setting.names.now.views (g.S.Store.content_now setting.store.now) setting.user setting.parameters.now in
    let checks = c.args.checks.now in
    one_more (IsNotFalseOn (schemas_of setting.names.now) seen c.args.row.now) checks c.args.place c.index-checks-place.result c.requires.before
    (slice_get_read checks (length checks) c.args.place c.index-checks-place.result refl c.requires.there c.index-checks-place.is)
    (inr (rw c.in-Ok-Unknown.field-0-is at (rw c.in-Ok-Unknown.is at c.in_ok-comes_to.ensures.truth)))

pub returns-in-Err : goal.returns-in-Err
returns-in-Err g c =
    let checks = c.args.checks.now in
    record {
      condition = c.index-checks-place.result;
      at = slice_get_read checks (length checks) c.args.place c.index-checks-place.result refl c.requires.there c.index-checks-place.is;
      ends = rw c.in-Err.is at c.in_ok-comes_to.ensures.ends;
      before = c.requires.before;
    }
