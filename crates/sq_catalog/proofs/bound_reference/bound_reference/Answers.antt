-- Left open for bound_reference: the clause exact; answered by ReferencesBound.
use Rattle.std.proofs.Common.{◌≡◌, ℕ, false, List, subst, sym, ◌∙◌}
use Rattle.sq_bound.specs.WellFormed.{kinds_of_columns}
use Rattle.sq_binding.specs.Reference.{paired_reference}
use Rattle.sq_catalog.specs.Fault.{Makes}
use Rattle.sq_catalog.specs.Reference.{key_seen, target_seen}
use Rattle.sq_catalog.proofs.CreateTable.ReferencesBound.{badly_paired, pair_well, well_paired}
use Rattle.sq_catalog.proofs.bound_reference.bound_reference.Goals as goal

pub returns-then-not-pair_well-clause-exact : goal.returns-then-not-pair_well-clause-exact
returns-then-not-pair_well-clause-exact c =
    let own = kinds_of_columns c.args.own.columns.now in
    let target = target_seen c.args.target in
    let key = key_seen c.args.key in
    let badly = sym c.pair_well.ensures.well ∙ c.if-not-pair_well.true in
    badly_paired own c.args.reference.now.columns target key (subst (λ (columns : List ℕ). pair_well own columns target key ≡ false) c.as_slice-columns.ensures badly)

pub returns-clause-exact : goal.returns-clause-exact
returns-clause-exact c =
    let own = kinds_of_columns c.args.own.columns.now in
    let target = target_seen c.args.target in
    let key = key_seen c.args.key in
    let made = c.reference_to.ensures in
    let well = sym c.pair_well.ensures.well ∙ c.if-not-pair_well.false in
    subst (λ (columns : List ℕ). Makes (λ b. b) (paired_reference own columns target key) c.reference_to.result) c.as_slice-columns.ensures
    (well_paired own c.as_slice-columns.result.now target key c.reference_to.result well made.columns made.place made.by_key made.memory)
