-- Left open for found_reference: the clause exact; answered by ReferencesBound and Turns.
use Rattle.std.proofs.Common.{ℕ, List, subst}
use Rattle.sq_lex.specs.declared.name.Name.{Name}
use Rattle.sq_binding.specs.Position.{positions_of}
use Rattle.sq_catalog.specs.Exact.{declared, name_in}
use Rattle.sq_catalog.specs.Fault.{Makes}
use Rattle.sq_catalog.specs.Written.{names_at}
use Rattle.sq_catalog.proofs.CreateTable.ReferencesBound.{columns_stop, earlier_stops, reference_found}
use Rattle.sq_catalog.proofs.OneByOne.Turns.{handed_on}
use Rattle.sq_catalog.proofs.reference.found_reference.Goals as goal

pub returns-in_err-earlier-clause-exact : goal.returns-in_err-earlier-clause-exact
returns-in_err-earlier-clause-exact c =
    let own = c.args.own.now in
    handed_on _ _ c.from_residual.result c.in_err-earlier.field-0.0 c.from_residual.ensures.1
    (earlier_stops (declared c.args.catalog.now) own.user (name_in own.full_name) (names_at own.columns.now) c.args.reference.now (name_in c.full_name.result) c.full_name.ensures.exact c.in_err-earlier.field-0.0
    c.in_err-earlier.ensures.exact)

pub returns-in_err-columns-clause-exact : goal.returns-in_err-columns-clause-exact
returns-in_err-columns-clause-exact c =
    let own = c.args.own.now in
    handed_on _ _ c.from_residual-in_err-columns.result c.in_err-columns.field-0.0 c.from_residual-in_err-columns.ensures.1
    (columns_stop (declared c.args.catalog.now) own.user (name_in own.full_name) (names_at own.columns.now) c.args.reference.now (name_in c.full_name.result) c.full_name.ensures.exact c.in_ok-earlier.earlier
    c.in_ok-earlier.ensures.exact c.in_ok-earlier.ensures.kinds c.positions-columns.result c.listed_columns-listed.result (subst (λ (wanted : List Name). Makes (λ (places : List ℕ). places) (positions_of (names_at own.columns.now) wanted) c.positions-columns.result) c.as_slice.ensures c.positions-columns.ensures.exact) c.listed_columns-listed.ensures.exact c.in_err-columns.field-0.0
    c.in_err-columns.ensures.fault)

pub returns-clause-exact : goal.returns-clause-exact
returns-clause-exact c =
    let own = c.args.own.now in
    reference_found (declared c.args.catalog.now) own.user (name_in own.full_name) (names_at own.columns.now) c.args.reference.now (name_in c.full_name.result) c.full_name.ensures.exact c.in_ok-earlier.earlier
    c.in_ok-earlier.ensures.exact c.in_ok-earlier.ensures.kinds c.positions-columns.result c.listed_columns-listed.result (subst (λ (wanted : List Name). Makes (λ (places : List ℕ). places) (positions_of (names_at own.columns.now) wanted) c.positions-columns.result) c.as_slice.ensures c.positions-columns.ensures.exact) c.listed_columns-listed.ensures.exact c.in_ok-columns.columns c.in_ok-columns.listed
    c.in_ok-columns.ensures.values.0 c.in_ok-columns.ensures.values.1
