-- Left open for Catalog::draft: the clauses of and exact; answered by TablesMade.
use Rattle.std.proofs.Common.{Ok, ap, length, map, nat_lt, ◌∙◌, sym}
use Rattle.sq_catalog.specs.Exact.{declared}
use Rattle.sq_catalog.specs.Keys.{primaries, primary_among}
use Rattle.sq_catalog.specs.Reference.{found_seen}
use Rattle.sq_catalog.specs.Table.{typed_definitions, typed_seen}
use Rattle.sq_catalog.specs.Written.{conditions_lent}
use Rattle.sq_catalog.proofs.CreateTable.TablesMade.{draft_is, draft_stops, draft_with, is_draft_of}
use Rattle.sq_catalog.proofs.catalog.Catalog.draft.Goals as goal

pub returns-in-Ok-clause-of : goal.returns-in-Ok-clause-of
returns-in-Ok-clause-of c =
    let written = c.in_ok-written.ensures in
    let parts = c.in-Ok.ensures in
    let made = c.draft_of.ensures in
    is_draft_of c.draft_of.result c.args.definition.now made.definition ((λ i. typed_definitions (made.columns i).items) ∙ parts.columns ∙ written.columns)
    ((λ i. (made.keys i).has_two_primary) ∙ parts.named.two_primary ∙ ap (λ ks. nat_lt 1 (length (primaries ks))) written.keys) ((λ i. (made.keys i).primary) ∙ parts.named.primary ∙ ap primary_among written.keys)
    ((λ i. conditions_lent (made.written i).checks.items) ∙ written.checks)

pub returns-in-Ok-clause-exact : goal.returns-in-Ok-clause-exact
returns-in-Ok-clause-exact c =
    let written = c.in_ok-written.ensures in
    let made = c.draft_of.ensures in
    draft_is (declared c.args.self.now) c.args.user c.args.definition.now c.in_ok-written.written c.args.name.now c.requires written.columns written.keys written.references
    c.in-Ok.found.0.columns (map found_seen c.in-Ok.found.1.items) (map typed_seen c.in-Ok.columns.items) c.in-Ok.ensures.exact
    ∙ (λ i. Ok (draft_with (sym made.keys i).columns (map found_seen (sym made.references i).items) (map typed_seen (sym made.columns i).items)))

pub returns-in-Err-clause-exact : goal.returns-in-Err-clause-exact
returns-in-Err-clause-exact c =
    let written = c.in_ok-written.ensures in
    draft_stops (declared c.args.self.now) c.args.user c.args.definition.now c.in_ok-written.written c.args.name.now c.requires written.columns written.keys written.references c.in-Err.fault c.in-Err.ensures.exact
