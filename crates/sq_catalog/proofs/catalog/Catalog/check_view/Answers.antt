-- Left open for Catalog::check_view: the clause exact; answered by ViewMade and Turns.
use Rattle.sq_catalog.specs.Exact.{declared, name_in}
use Rattle.sq_catalog.specs.ViewMade.{checked_view, view_found}
use Rattle.sq_catalog.proofs.CreateView.ViewMade.{option_stops, place_passes, privilege_stops}
use Rattle.sq_catalog.proofs.OneByOne.Turns.{handed_on}
use Rattle.sq_catalog.proofs.catalog.Catalog.check_view.Goals as goal

pub returns-in_err-refused_if-clause-exact : goal.returns-in_err-refused_if-clause-exact
returns-in_err-refused_if-clause-exact c =
    let d = declared c.args.self.now in
    let t = name_in c.args.name.now in
    let v = view_found c.args.bound.now in
    let stop = c.in_err-refused_if.field-0.0 in
    handed_on (λ x. tt) (checked_view d c.args.user t c.args.check_option v) c.from_residual.result stop c.from_residual.ensures.1
    (option_stops d c.args.user t c.args.check_option v c.is_bad_option.result c.is_bad_option.ensures stop c.in_err-refused_if.ensures.exact)

pub returns-in_err-refused_if-2-clause-exact : goal.returns-in_err-refused_if-2-clause-exact
returns-in_err-refused_if-2-clause-exact c =
    let d = declared c.args.self.now in
    let t = name_in c.args.name.now in
    let v = view_found c.args.bound.now in
    let stop = c.in_err-refused_if-2.field-0.0 in
    handed_on (λ x. tt) (checked_view d c.args.user t c.args.check_option v) c.from_residual-in_err-refused_if-2.result stop c.from_residual-in_err-refused_if-2.ensures.1
    (privilege_stops d c.args.user t c.args.check_option v c.is_bad_option.result c.is_bad_option.ensures stop c.in_ok-refused_if.ensures.exact c.in_err-refused_if-2.ensures.exact)

pub returns-clause-exact : goal.returns-clause-exact
returns-clause-exact c =
    place_passes (declared c.args.self.now) c.args.user (name_in c.args.name.now) c.args.check_option (view_found c.args.bound.now) c.is_bad_option.result c.is_bad_option.ensures c.check_place.result
    c.in_ok-refused_if.ensures.exact c.in_ok-refused_if-2.ensures.exact c.check_place.ensures.exact
