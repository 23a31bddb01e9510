-- Left open for base_target: the clause exact; answered by ReferencesBound.
use Rattle.std.proofs.Common.{◌≡◌, Some, Ok, subst, sym, ◌∙◌}
use Rattle.sq_bound.specs.WellFormed.{kinds_of_columns}
use Rattle.sq_bound.specs.declared.names.TableBody.{TableBody}
use Rattle.sq_binding.specs.Reference.{referenced_table}
use Rattle.sq_catalog.specs.Exact.{entry_with}
use Rattle.sq_catalog.specs.Reference.{HasKinds, own_seen, target_seen}
use Rattle.sq_catalog.specs.declared.catalog.FullName.{FullName}
use Rattle.sq_catalog.proofs.CreateTable.ReferencesBound.{base_seen}
use Rattle.sq_catalog.proofs.referenced.base_target.Goals as goal

pub returns-in-Base-clause-exact : goal.returns-in-Base-clause-exact
returns-in-Base-clause-exact c =
    let t = c.args.table.now in
    let name : FullName = record { user = t.user; name = t.name } in
    let target = c.stored_target.result in
    let made = c.stored_target.ensures in
    subst (λ (b : TableBody). referenced_table (own_seen c.args.own) (Some (entry_with name t b)) ≡ Ok (target_seen target)) (sym c.in-Base.is)
    (base_seen (own_seen c.args.own) name t c.in-Base.base target (subst (HasKinds (kinds_of_columns t.columns)) c.in-Base.is c.requires.kinds)
    (made.place ∙ (λ i. (c.get.ensures i).place)) (made.columns ∙ c.as_slice.ensures) (made.held ∙ (λ i. (c.get.ensures i).keys)) (made.primary ∙ (λ i. (c.get.ensures i).primary_key)))
