-- Views, as the definitions see them (ISO/IEC 9075:1992, 11.19).
use Rattle.std.specs.Option.{option_map}
use Rattle.sq_binding.specs.Seen.{select_seen}
use Rattle.sq_binding.specs.View.{NumberedView}
use Rattle.sq_binding.specs.SeenQuery.{updatable_seen}
use Rattle.sq_binder.specs.declared.view.BoundView.{BoundView}

abbrev pub view_seen : BoundView → NumberedView
view_seen v = record {
  query = select_seen v.query;
  updatable = option_map updatable_seen v.updatable;
  may_select = v.may_select;
  may_grant_select = v.may_grant_select;
}
