-- Left open for Draft::check_keys: the clauses known and exact; answered by NotNull, TablesMade and Turns.
use Rattle.std.proofs.Common.{Bool, ap, map, subst, sym, ◌∙◌}
use Rattle.std.specs.List.{list_any}
use Rattle.sq_meaning.specs.declared.refusal.SchemaFault.TheVariants.{BadKey, NullableKey}
use Rattle.sq_binding.specs.Key.{has_nullable}
use Rattle.sq_binding.specs.ElementOutcome.{refused_if}
use Rattle.sq_catalog.specs.Fault.{Makes}
use Rattle.sq_catalog.specs.Table.{typed_seen}
use Rattle.sq_catalog.proofs.CreateTable.NotNull.{known_keys}
use Rattle.sq_catalog.proofs.CreateTable.TablesMade.{lists_are}
use Rattle.sq_catalog.proofs.OneByOne.Turns.{on_ok, then_makes}
use Rattle.sq_catalog.proofs.draft.Draft.check_keys.Goals as goal

pub returns-clause-known : goal.returns-clause-known
returns-clause-known c =
    let d = c.args.self.now in
    let here = c.have_nullable-is_nullable.ensures ∙ (λ i. list_any (has_nullable (map typed_seen (c.as_slice.ensures.value i))) (c.as_slice-2.ensures i)) in
    on_ok c.refused_if-2.result (known_keys d.columns.items d.keys.columns (sym here ∙ c.in_ok-refused_if.ensures.right))

pub returns-clause-exact : goal.returns-clause-exact
returns-clause-exact c =
    let d = c.args.self.now in
    let here = c.have_nullable-is_nullable.ensures ∙ (λ i. list_any (has_nullable (map typed_seen (c.as_slice.ensures.value i))) (c.as_slice-2.ensures i)) in
    then_makes (λ x. tt) (refused_if NullableKey (list_any (has_nullable (map typed_seen d.columns.items)) d.keys.columns)) tt (λ u. _) c.refused_if-2.result
    (ap (refused_if NullableKey) (sym here) ∙ c.in_ok-refused_if.ensures.exact)
    (subst (λ (b : Bool). Makes (λ x. tt) (refused_if BadKey b) c.refused_if-2.result) (c.has_bad_list.ensures ∙ lists_are d c.requires) c.refused_if-2.ensures.exact)
