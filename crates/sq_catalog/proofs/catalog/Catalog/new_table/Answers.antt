-- Left open: the clauses base, references and exact; answered by Bases, References, TablesMade and Turns.
use Rattle.std.proofs.Common.{vec_len, subst}
use Rattle.sq_tree.specs.declared.schema.TableDefinition.{TableDefinition}
use Rattle.sq_binding.specs.Table.{drafted, drafted_table}
use Rattle.sq_catalog.specs.Draft.{draft_seen}
use Rattle.sq_catalog.specs.Exact.{base_declared, declared}
use Rattle.sq_catalog.specs.Fault.{Makes}
use Rattle.sq_catalog.specs.Table.{typed_definitions}
use Rattle.sq_catalog.specs.Written.{conditions_lent}
use Rattle.sq_catalog.proofs.CreateTable.Bases.{base_made}
use Rattle.sq_catalog.proofs.CreateTable.References.{references_made}
use Rattle.sq_catalog.proofs.CreateTable.TablesMade.{if_ok_more}
use Rattle.sq_catalog.proofs.OneByOne.Turns.{handed_on, stops_then, then_makes}
use Rattle.sq_catalog.proofs.catalog.Catalog.new_table.Goals as goal

pub returns-clause-base : goal.returns-clause-base
returns-clause-base c =
    let draft = c.in_ok-draft.draft in
    let found = c.in_ok-draft.ensures in
    let made = c.table_of-table.ensures in
    base_made c.args.name.now c.args.definition.now (typed_definitions draft.columns.items) draft.keys.columns draft.keys.primary (conditions_lent draft.written.checks.items)
    found.columns found.named.keys_stand found.named.primary found.checks c.table_of-table.result made.columns (if_ok_more c.table_of-table.result (λ new base. base.columns) made.base)
    (if_ok_more c.table_of-table.result (λ new base. base.keys) made.base) (if_ok_more c.table_of-table.result (λ new base. base.primary) made.base) made.checks

pub returns-clause-references : goal.returns-clause-references
returns-clause-references c =
    let draft = c.in_ok-draft.draft in
    let made = c.table_of-table.ensures in
    references_made c.table_of-table.result c.args.self.now c.args.user c.args.name.now c.args.definition.now (typed_definitions draft.columns.items) draft.keys.columns draft.keys.primary (vec_len draft.written.columns) draft.references.items
    c.in_ok-draft.ensures.columns made.own made.columns (if_ok_more c.table_of-table.result (λ new base. base.keys) made.base)
    (if_ok_more c.table_of-table.result (λ new base. base.primary) made.base) c.in_ok-draft.ensures.named.meant c.in_ok-draft.ensures.named.found (if_ok_more c.table_of-table.result (λ new base. base.references) made.base)

pub returns-in_err-draft-clause-exact : goal.returns-in_err-draft-clause-exact
returns-in_err-draft-clause-exact c =
    let catalog = declared c.args.self.now in
    handed_on _ _ c.from_residual.result c.in_err-draft.field-0.0 c.from_residual.ensures.1
    (stops_then (drafted catalog c.args.user c.args.definition.now) (drafted_table catalog c.args.user c.args.definition.now) c.in_err-draft.field-0.0 c.in_err-draft.ensures.exact)

pub returns-clause-exact : goal.returns-clause-exact
returns-clause-exact c =
    let catalog = declared c.args.self.now in
    let draft = draft_seen c.in_ok-draft.draft in
    then_makes (λ new. base_declared c.args.name.now new.0.columns new.1) (drafted catalog c.args.user c.args.definition.now) draft (drafted_table catalog c.args.user c.args.definition.now) c.table_of-table.result
    c.in_ok-draft.ensures.exact
    (subst (λ (t : TableDefinition). Makes (λ new. base_declared c.args.name.now new.0.columns new.1) (drafted_table catalog c.args.user t draft) c.table_of-table.result) c.in_ok-draft.ensures.definition c.table_of-table.ensures.exact)
