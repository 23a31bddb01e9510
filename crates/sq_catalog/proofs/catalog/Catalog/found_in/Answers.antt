-- Left open for Catalog::found_in: the clauses exact and named; answered by Turns.
use Rattle.std.proofs.Common.{ℕ, IfOk, List, ap, length, map, subst, sym, vec_len, ◌∙◌}
use Rattle.std.specs.Borrow.{Bor}
use Rattle.sq_lex.specs.declared.name.Name.{Name}
use Rattle.sq_tree.specs.declared.schema.ColumnDefinition.{ColumnDefinition}
use Rattle.sq_meaning.specs.Schema.{has_name_twice}
use Rattle.sq_meaning.specs.declared.refusal.SchemaFault.TheVariants.{NameTwice}
use Rattle.sq_binding.specs.ElementOutcome.{refused_if}
use Rattle.sq_catalog.specs.Draft.{NamesAreFound, written_names}
use Rattle.sq_catalog.specs.Exact.{declared, name_in}
use Rattle.sq_catalog.specs.Fault.{Makes, Stops}
use Rattle.sq_catalog.specs.Reference.{constraints_lent, found_seen, reference_seen}
use Rattle.sq_catalog.specs.Table.{names_found}
use Rattle.sq_catalog.specs.Written.{definitions_lent, names_at}
use Rattle.sq_catalog.specs.declared.written.WrittenKey.{WrittenKey}
use Rattle.sq_catalog.proofs.OneByOne.Turns.{handed_on, stops_then, then_makes}
use Rattle.sq_catalog.proofs.catalog.Catalog.found_in.Goals as goal

pub returns-in_err-named-clause-exact : goal.returns-in_err-named-clause-exact
returns-in_err-named-clause-exact c =
    let fault = c.in_err-named.field-0.0 in
    handed_on _ _ c.from_residual.result fault c.from_residual.ensures.1
    (stops_then (refused_if NameTwice (has_name_twice (written_names c.args.written.now))) _ fault
    (subst (λ (ds : List (Bor ColumnDefinition)). Stops (refused_if NameTwice (has_name_twice (map (λ d. d.name) (definitions_lent ds)))) fault) c.as_slice.ensures.value c.in_err-named.ensures.exact))

pub returns-clause-exact : goal.returns-clause-exact
returns-clause-exact c =
    let w = c.args.written.now in
    let keys = map (λ (key : WrittenKey). key.columns) w.keys.items in
    let references = map reference_seen w.references.items in
    let catalog = declared c.args.self.now in
    let own = name_in c.args.name.now in
    let names = c.in_ok-named.ensures.names ∙ ap (λ (ds : List (Bor ColumnDefinition)). map (λ d. d.name) (definitions_lent ds)) c.as_slice.ensures.value in
    then_makes (λ found. (found.0.columns, map found_seen found.1.items)) (refused_if NameTwice (has_name_twice (written_names w))) tt (λ u. names_found catalog c.args.user own (written_names w) keys references) c.found_names-found.result
    (ap (λ (ds : List (Bor ColumnDefinition)). refused_if NameTwice (has_name_twice (map (λ d. d.name) (definitions_lent ds)))) (sym c.as_slice.ensures.value) ∙ c.in_ok-named.ensures.exact)
    (subst (λ (ns : List Name). Makes (λ found. (found.0.columns, map found_seen found.1.items)) (names_found catalog c.args.user own ns keys references) c.found_names-found.result) names c.found_names-found.ensures.exact)

pub returns-clause-named : goal.returns-clause-named
returns-clause-named c =
    let w = c.args.written.now in
    let found = c.found_names-found.result in
    let names = c.in_ok-named.ensures.names ∙ ap (λ (ds : List (Bor ColumnDefinition)). map (λ d. d.name) (definitions_lent ds)) c.as_slice.ensures.value in
    let count = c.in_ok-named.ensures.count ∙ ap (λ (ds : List (Bor ColumnDefinition)). length ds) c.as_slice.ensures.value ∙ sym w.columns.ok.0 in
    let are_found : List Name → ℕ → Type 0
    = λ ns n. IfOk found (λ f. NamesAreFound c.args.self.now c.args.user c.args.name.now ns n w.keys.items (constraints_lent w.references.items) f.0 f.1.items) in
    subst (λ (ns : List Name). are_found ns (vec_len w.columns)) names (subst (λ (n : ℕ). are_found (names_at c.in_ok-named.named) n) count c.found_names-found.ensures.named)
