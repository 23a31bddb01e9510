-- Left open: the calls of describe_base and checked_base, and the clauses next, base and exact; answered by Stored, Seen and TablesMade.
use Rattle.std.proofs.Common.{◌≡◌, List, Ok, length, map, ap, sym, subst, ◌∙◌}
use Rattle.sq_bound.specs.declared.names.Column.{Column}
use Rattle.sq_bound.specs.WellFormed.{kinds_of_columns}
use Rattle.sq_binding.specs.Table.{drafted_table, typed_descriptor}
use Rattle.sq_binding.specs.Names.{descriptor_of}
use Rattle.sq_catalog.specs.Draft.{IsBaseFor, draft_seen}
use Rattle.sq_catalog.specs.Exact.{base_declared, declared}
use Rattle.sq_catalog.specs.Stored.{AreChecksAt}
use Rattle.sq_catalog.specs.Table.{typed_kinds, typed_seen}
use Rattle.sq_catalog.specs.declared.typed.TypedColumn.{TypedColumn}
use Rattle.sq_catalog.proofs.Growth.Stored.{next_of}
use Rattle.sq_catalog.proofs.Meaning.Seen.{columns_counted, columns_seen, kinds_seen}
use Rattle.sq_catalog.proofs.CreateTable.TablesMade.{described_base, described_makes}
use Rattle.sq_catalog.proofs.catalog.Catalog.table_of.Goals as goal

pub describe_base-requires : goal.describe_base-requires
describe_base-requires c =
    let kinds = c.in-Ok.ensures.base.kinds ∙ ap kinds_of_columns c.as_slice-2.ensures ∙ c.in_ok-columns.ensures.over.kinds_are in
    record {
      columns = record {
        places = columns_seen c.in-Ok.base c.in_ok-columns.columns kinds c.in_ok-columns.ensures.over.places;
        kinds = kinds_seen c.in-Ok.base c.in_ok-columns.columns kinds c.in_ok-columns.ensures.over.places;
      };
    }

pub checked_base-requires-clause-columns : goal.checked_base-requires-clause-columns
checked_base-requires-clause-columns c =
    let draft = c.args.draft.now in
    let seen = ap (map descriptor_of) c.as_slice-2.ensures ∙ c.in_ok-columns.ensures.exact in
    record {
      seen = subst (λ (ts : List TypedColumn). map descriptor_of c.as_slice-2.result.now ≡ map (λ t. typed_descriptor (typed_seen t)) ts) c.as_slice.ensures.value seen;
      width = ap length c.as_slice-2.ensures ∙ columns_counted c.in_ok-columns.columns c.as_slice.result.now c.in_ok-columns.ensures.over.kinds_are
          ∙ ap (λ (ts : List TypedColumn). length ts) c.as_slice.ensures.value ∙ sym draft.columns.ok.0 ∙ draft.typed;
      kinds = ap kinds_of_columns c.as_slice-2.ensures ∙ c.in_ok-columns.ensures.over.kinds_are ∙ ap typed_kinds c.as_slice.ensures.value;
    }

pub returns-in-Ok-clause-next : goal.returns-in-Ok-clause-next
returns-in-Ok-clause-next c =
    let lent = ap kinds_of_columns c.as_slice-2.ensures in
    next_of c.args.self.now.bases c.args.name.now c.in_ok-columns.columns (length c.as_slice-2.result.now) c.in-Ok.base c.describe_base.result c.describe_base.ensures.base c.describe_base.ensures.table
    c.in-Ok.ensures.base.place (sym (c.in-Ok.ensures.base.kinds ∙ lent)) c.in_ok-columns.ensures.places
    (subst (λ ks. AreChecksAt (length c.args.self.now.bases) ks c.in-Ok.base.checks) lent c.in-Ok.ensures.checks) c.in-Ok.ensures.base.refer

pub returns-in-Ok-clause-base : goal.returns-in-Ok-clause-base
returns-in-Ok-clause-base c =
    described_base c.describe_base.result c.args.self.now.bases c.args.draft.now c.args.name.now c.in_ok-columns.columns c.in-Ok.base c.describe_base.ensures.base c.describe_base.ensures.table
    (subst (λ (cs : List Column). IsBaseFor c.args.self.now.bases c.args.draft.now cs c.in-Ok.base) c.as_slice-2.ensures c.in-Ok.ensures.base)

pub returns-in-Ok-clause-exact : goal.returns-in-Ok-clause-exact
returns-in-Ok-clause-exact c =
    let draft = c.args.draft.now in
    let table = drafted_table (declared c.args.self.now) c.args.user draft.definition.now (draft_seen draft) in
    described_makes table c.describe_base.result c.args.name.now c.in_ok-columns.columns c.in-Ok.base
    (subst (λ (columns : List Column). table ≡ Ok (base_declared c.args.name.now columns c.in-Ok.base)) c.as_slice-2.ensures c.in-Ok.ensures.exact) c.describe_base.ensures.base c.describe_base.ensures.table c.describe_base.ensures.memory
