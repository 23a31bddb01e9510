-- Left open: the clauses exact, checks and checks_are; answered by ChecksMade, TablesMade and Turns.
use Rattle.std.proofs.Common.{length, ◌∙◌}
use Rattle.sq_catalog.specs.Draft.{draft_seen}
use Rattle.sq_catalog.specs.Exact.{base_declared, declared}
use Rattle.sq_catalog.specs.Written.{conditions_lent}
use Rattle.sq_catalog.proofs.CreateTable.ChecksMade.{checks_stand, checks_written}
use Rattle.sq_catalog.proofs.CreateTable.TablesMade.{base_stops, keys_stop, rest_here, rest_stops, table_made}
use Rattle.sq_catalog.proofs.OneByOne.Turns.{handed_on, stops_same}
use Rattle.sq_catalog.proofs.catalog.Catalog.checked_base.Goals as goal

pub returns-in_err-check_keys-clause-exact : goal.returns-in_err-check_keys-clause-exact
returns-in_err-check_keys-clause-exact c =
    let draft = c.args.draft.now in
    handed_on _ _ c.from_residual.result c.in_err-check_keys.field-0.0 c.from_residual.ensures.1
    (keys_stop (declared c.args.self.now) c.args.user draft.definition.now (draft_seen draft) c.in_err-check_keys.field-0.0 c.in_err-check_keys.ensures.exact)

pub returns-in_err-base-clause-exact : goal.returns-in_err-base-clause-exact
returns-in_err-base-clause-exact c =
    let draft = c.args.draft.now in
    handed_on _ _ c.from_residual-in_err-base.result c.in_err-base.field-0.0 c.from_residual-in_err-base.ensures.1
    (base_stops (declared c.args.self.now) c.args.user draft.definition.now (draft_seen draft) c.in_err-base.field-0.0 c.in_ok-check_keys.ensures.exact c.in_err-base.ensures.exact)

pub returns-in-Ok-clause-checks : goal.returns-in-Ok-clause-checks
returns-in-Ok-clause-checks c =
    checks_stand c.args.user c.args.name.now c.in-Ok.ensures.own c.args.columns.now (length c.args.self.now.bases) (conditions_lent c.args.draft.now.written.checks.items) c.in_ok-base.base.checks c.in_ok-base.ensures.checks

pub returns-in-Ok-clause-checks_are : goal.returns-in-Ok-clause-checks_are
returns-in-Ok-clause-checks_are c =
    checks_written c.args.user c.args.name.now c.in-Ok.ensures.own c.args.columns.now (conditions_lent c.args.draft.now.written.checks.items) c.in_ok-base.base.checks c.in_ok-base.ensures.checks

pub returns-in-Ok-clause-exact : goal.returns-in-Ok-clause-exact
returns-in-Ok-clause-exact c =
    let draft = c.args.draft.now in
    let catalog = declared c.args.self.now in
    let base = c.in_ok-base.base in
    let permitted = c.in_ok-base.may_reference in
    table_made catalog c.args.user draft.definition.now (draft_seen draft) (base_declared c.args.name.now c.args.columns.now base) permitted c.in_ok-check_keys.ensures.exact c.in_ok-base.ensures.exact
    (rest_here catalog c.args.user draft.definition.now (draft_seen draft) c.args.name.now c.args.columns.now base permitted c.requires.draft.named c.in_ok-base.ensures.base.kinds ∙ c.in-Ok.ensures.exact)

pub returns-in-Err-clause-exact : goal.returns-in-Err-clause-exact
returns-in-Err-clause-exact c =
    let draft = c.args.draft.now in
    let catalog = declared c.args.self.now in
    let base = c.in_ok-base.base in
    let permitted = c.in_ok-base.may_reference in
    rest_stops catalog c.args.user draft.definition.now (draft_seen draft) (base_declared c.args.name.now c.args.columns.now base) permitted c.in-Err.fault c.in_ok-check_keys.ensures.exact c.in_ok-base.ensures.exact
    (stops_same _ _ c.in-Err.fault (rest_here catalog c.args.user draft.definition.now (draft_seen draft) c.args.name.now c.args.columns.now base permitted c.requires.draft.named c.in_ok-base.ensures.base.kinds) c.in-Err.ensures.exact)
