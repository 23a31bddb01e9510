-- Left open for may_reference: its result; answered by ReferencesBound.
use Rattle.std.proofs.Common.{◌≡◌, [], Option, subst, sym, ◌∙◌}
use Rattle.std.specs.Borrow.{Bor}
use Rattle.sq_bound.specs.declared.names.TableDesc.{TableDesc}
use Rattle.sq_binding.specs.Reference as definition
use Rattle.sq_catalog.specs.Exact.{declared}
use Rattle.sq_catalog.specs.Reference.{entries_seen, names_in}
use Rattle.sq_catalog.proofs.CreateTable.ReferencesBound.{may_reference_all}
use Rattle.sq_catalog.proofs.bound_reference.may_reference.Goals as goal

pub returns-in-Some : goal.returns-in-Some
returns-in-Some c =
    subst (λ (e : Option (Bor TableDesc)). c.holds_references.result ≡ definition.may_reference (declared c.args.catalog.now) c.args.user (entries_seen e) (definition.names_at (names_in [] e) c.args.columns.now)) (sym c.in-Some.is)
    (c.holds_references.ensures ∙ may_reference_all (declared c.args.catalog.now) c.args.user c.in-Some.table.now c.args.columns.now)
