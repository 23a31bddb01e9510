-- Left open for asked_option: its result; answered by FirstEnd.
use Rattle.std.proofs.Common.{length, refl}
use Rattle.std.proofs.lemmas.Option.{slice_get_read}
use Rattle.sq_change.specs.Made.{seen_by}
use Rattle.sq_session.specs.Schemas.{schemas_of}
use Rattle.sq_cause.specs.RowEnd.{IsTrueOn}
use Rattle.sq_cause.proofs.FirstEnd.{one_more}
use Rattle.sq_cause.proofs.row_end.asked_option.Goals as goal

pub returns-in-Ok-True : goal.returns-in-Ok-True
returns-in-Ok-True g c =
    let setting = c.args.setting.now in
    let seen = seen_by setting.names.now.views (g.S.Store.content_now setting.store.now) setting.user setting.parameters.now in
    let conditions = c.args.conditions.now in
    one_more (IsTrueOn (schemas_of setting.names.now) seen c.args.row.now) conditions c.args.place c.index-conditions-place.result c.requires.before
    (slice_get_read conditions (length conditions) c.args.place c.index-conditions-place.result refl c.requires.there c.index-conditions-place.is)
    (rw (c.get.ensures, c.in-Ok-True.field-0-is) at (rw c.in-Ok-True.is at c.in_ok-comes_to.ensures.truth))

pub returns-in-Err : goal.returns-in-Err
returns-in-Err g c =
    let conditions = c.args.conditions.now in
    record {
      condition = c.index-conditions-place.result;
      at = slice_get_read conditions (length conditions) c.args.place c.index-conditions-place.result refl c.requires.there c.index-conditions-place.is;
      ends = rw c.get.ensures at (rw c.in-Err.is at c.in_ok-comes_to.ensures.ends);
      before = c.requires.before;
    }
