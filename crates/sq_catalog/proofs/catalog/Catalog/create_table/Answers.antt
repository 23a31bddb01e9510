-- Left open for Catalog::create_table: the clauses tables and exact; answered by Gains, TablesMade and Turns.
use Rattle.std.proofs.Common.{[], ◌∷◌, ap, subst, sym, ◌∙◌}
use Rattle.std.specs.Result.{OnOk}
use Rattle.sq_meaning.specs.Environment.{TableName}
use Rattle.sq_meaning.specs.declared.refusal.SchemaFault.TheVariants.{NameTwice}
use Rattle.sq_binding.specs.ElementOutcome.{refused_if}
use Rattle.sq_binding.specs.Table.{is_taken}
use Rattle.sq_catalog.specs.Catalog.{Gains}
use Rattle.sq_catalog.specs.Exact.{base_declared, declared}
use Rattle.sq_catalog.specs.Fault.{Stops}
use Rattle.sq_catalog.specs.declared.catalog.FullName.{FullName}
use Rattle.sq_catalog.proofs.Growth.Gains.{gains_one}
use Rattle.sq_catalog.proofs.CreateTable.TablesMade.{name_stops, table_created, table_stops}
use Rattle.sq_catalog.proofs.OneByOne.Turns.{added_makes, handed_on}
use Rattle.sq_catalog.proofs.catalog.Catalog.create_table.Goals as goal

pub returns-clause-tables : goal.returns-clause-tables
returns-clause-tables c =
    let definition = c.args.definition.now in
    let made = c.in_ok-table.ensures in
    let fresh = c.in_ok-check_new_name.ensures.new made.own in
    subst (λ (name : FullName). OnOk c.add_base.result (Gains c.args.self.now c.add_base.new.self (name ∷ []) (definition ∷ []))) c.full_name-name.ensures.named
    (gains_one c.add_base.result c.args.self.now c.add_base.new.self c.full_name-name.result definition c.in_ok-table.table.columns c.in_ok-table.base c.add_base.ensures.tables made.columns made.base
    (made.references fresh))

pub returns-in_err-check_new_name-clause-exact : goal.returns-in_err-check_new_name-clause-exact
returns-in_err-check_new_name-clause-exact c =
    let catalog = declared c.args.self.now in
    let fault = c.in_err-check_new_name.field-0.0 in
    handed_on _ _ c.from_residual.result fault c.from_residual.ensures.1
    (name_stops catalog c.args.user c.args.definition.now fault
    (subst (λ (t : TableName). Stops (refused_if NameTwice (is_taken catalog c.args.user t)) fault) c.full_name-name.ensures.exact c.in_err-check_new_name.ensures.exact))

pub returns-in_err-table-clause-exact : goal.returns-in_err-table-clause-exact
returns-in_err-table-clause-exact c =
    let catalog = declared c.args.self.now in
    let fault = c.in_err-table.field-0.0 in
    let new = ap (λ (t : TableName). refused_if NameTwice (is_taken catalog c.args.user t)) (sym c.full_name-name.ensures.exact) ∙ c.in_ok-check_new_name.ensures.exact in
    handed_on _ _ c.from_residual-in_err-table.result fault c.from_residual-in_err-table.ensures.1 (table_stops catalog c.args.user c.args.definition.now fault new c.in_err-table.ensures.exact)

pub returns-clause-exact : goal.returns-clause-exact
returns-clause-exact c =
    let catalog = declared c.args.self.now in
    let base = base_declared c.full_name-name.result c.in_ok-table.table.columns c.in_ok-table.base in
    let new = ap (λ (t : TableName). refused_if NameTwice (is_taken catalog c.args.user t)) (sym c.full_name-name.ensures.exact) ∙ c.in_ok-check_new_name.ensures.exact in
    added_makes (declared c.add_base.new.self) _ c.add_base.result _ (table_created catalog c.args.user c.args.definition.now base new c.in_ok-table.ensures.exact) c.add_base.ensures.exact c.add_base.ensures.memory
