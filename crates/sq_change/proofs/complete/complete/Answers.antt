-- Left open: the calls of apply and 2 more, and the clauses right and 3 more; answered by AllMet, Domains, Held, Obeyed and others.
use Rattle.std.proofs.Common.{◌≡◌, ◌∙◌, ◌&&◌, List, false, is_err, true, Ok, Err, ap, refl, rules, sym}
use Rattle.sq_store.specs.Change.{rows_put}
use Rattle.sq_store.specs.Content.{changed_by, table_at, with_table}
use Rattle.sq_store.specs.Keys.{Keys, keys_at}
use Rattle.sq_store.proofs.Rises.{rows_rise_at}
use Rattle.sq_bound.specs.Fits.{keys_of_bases}
use Rattle.sq_meaning.specs.declared.status.Status.TheVariants.{IntegrityConstraintViolation}
use Rattle.sq_meaning.specs.Constraints.{demanded}
use Rattle.sq_expression.specs.Fault.{Meets}
use Rattle.sq_expression.proofs.Views.{failed_as, handed_on_as}
use Rattle.sq_change.specs.Made.{Seen, seen_by}
use Rattle.sq_change.specs.Constraints.{completed, references_met, rows_met}
use Rattle.sq_change.specs.declared.reference.Asked.{Asked}
use Rattle.sq_change.specs.Lost.{are_free, lost_by, referred_keys}
use Rattle.sq_change.specs.Reference.{are_rows_there, referred_by}
use Rattle.sq_change.proofs.OneByOne.AllMet.{met_so}
use Rattle.sq_change.proofs.NewRows.Domains.{still_in}
use Rattle.sq_change.proofs.Changes.Held.{is_there, keys_at_base, put_have_keys, still_held}
use Rattle.sq_change.proofs.Constraints.Obeyed.{consistent_still, constraints_kept, met_unless, references_of}
use Rattle.sq_change.proofs.OneByOne.Outcomes.{done_so, not_done, not_done_then}
use Rattle.sq_change.proofs.Changes.Performed.{keys_stop, references_end, rows_stop}
use Rattle.sq_change.proofs.Constraints.ReferencesKept.{references_decided}
use Rattle.sq_change.proofs.complete.complete.Goals as goal
use Rattle.sq_change.proofs.complete.complete.Goals.{then-is_err, else-is_err}

pub apply-requires-clause-known : goal.apply-requires-clause-known
apply-requires-clause-known g c =
    let table = c.args.leaf.now.table in
    rw c.get-table.ensures (is_there (g.N.Names.base_tables c.args.names.now) (g.S.Store.content_now c.args.store.now) table.place table c.requires.kept.tables.rows c.requires.leaf.base)

pub apply-requires-clause-columns : goal.apply-requires-clause-columns
apply-requires-clause-columns g c =
    let table = c.args.leaf.now.table in
    rw c.get-table.ensures (put_have_keys (g.N.Names.base_tables c.args.names.now) (g.S.Store.key_columns c.args.store.now) table c.args.changed.changes.items c.requires.kept.keys c.requires.leaf.base c.requires.changes.fit.wide)

pub returns-in-Err-clause-right : goal.returns-in-Err-clause-right
returns-in-Err-clause-right g c = λ kinds tables may.
    let is = c.new-setting.ensures in
    c.in-Err.ensures.right kinds tables (rw (is.names, is.store, is.user, is.parameters) may) c.requires.changes.fit.in_domains

pub returns-in-Err-clause-meant : goal.returns-in-Err-clause-meant
returns-in-Err-clause-meant g c = λ kinds shown may.
    let names = c.args.names.now in
    let bases = g.N.Names.base_tables names in
    let content = g.S.Store.content_now c.args.store.now in
    let leaf = c.args.leaf.now in
    let changes = c.args.changed.changes.items in
    let lost = c.args.changed.lost_keys.items in
    let changed = changed_by (table_at content leaf.table.place) changes in
    let seen : Seen = seen_by (g.N.Names.view_queries names) content c.args.user c.args.parameters.now in
    let is = c.new-setting.ensures in
    let f = c.in-Err.fault in
    let stop = rw (is.names, is.store, is.user, is.parameters) at (c.in-Err.ensures.met kinds shown (rw (is.names, is.store, is.user, is.parameters) may) c.requires.changes.fit.in_domains) in
    handed_on_as (λ (u : Unit {0}). content) (Err f) f (completed shown seen bases leaf (rows_put changes) changed) refl
    (rows_stop shown seen bases leaf (rows_put changes) changed f (failed_as (λ (a : Asked). tt) f (rows_met shown seen leaf (rows_put changes)) stop))

pub returns-in_err-apply-clause-meant : goal.returns-in_err-apply-clause-meant
returns-in_err-apply-clause-meant g c = λ kinds shown may.
    let names = c.args.names.now in
    let bases = g.N.Names.base_tables names in
    let content = g.S.Store.content_now c.args.store.now in
    let leaf = c.args.leaf.now in
    let changes = c.args.changed.changes.items in
    let lost = c.args.changed.lost_keys.items in
    let changed = changed_by (table_at content leaf.table.place) changes in
    let seen : Seen = seen_by (g.N.Names.view_queries names) content c.args.user c.args.parameters.now in
    let is = c.new-setting.ensures in
    let keys : (ks : List Keys) → ks ≡ keys_of_bases bases → keys_at ks leaf.table.place ≡ leaf.table.keys
    = λ ks known. ap (λ (k : List Keys). keys_at k leaf.table.place) known ∙ keys_at_base bases leaf.table.place leaf.table c.requires.leaf.base in
    let f = c.in_err-apply.field-0.0 in
    let admitted = rw (is.names, is.store, is.user, is.parameters) at (c.in-Ok.ensures.met kinds shown (rw (is.names, is.store, is.user, is.parameters) may) c.requires.changes.fit.in_domains) in
    let same = rw (c.get-table.ensures, keys (g.S.Store.key_columns c.args.store.now) c.requires.kept.keys) at c.in_err-apply.ensures.distinct in
    handed_on_as (λ (u : Unit {0}). _) c.from_residual.result f (completed shown seen bases leaf (rows_put changes) changed) c.from_residual.ensures.1
    (keys_stop shown seen bases leaf (rows_put changes) changed admitted f same)

pub returns-clause-meant : goal.returns-clause-meant
returns-clause-meant g c = λ kinds shown may.
    let names = c.args.names.now in
    let bases = g.N.Names.base_tables names in
    let content = g.S.Store.content_now c.args.store.now in
    let leaf = c.args.leaf.now in
    let changes = c.args.changed.changes.items in
    let lost = c.args.changed.lost_keys.items in
    let changed = changed_by (table_at content leaf.table.place) changes in
    let seen : Seen = seen_by (g.N.Names.view_queries names) content c.args.user c.args.parameters.now in
    let is = c.new-setting.ensures in
    let keys : (ks : List Keys) → ks ≡ keys_of_bases bases → keys_at ks leaf.table.place ≡ leaf.table.keys
    = λ ks known. ap (λ (k : List Keys). keys_at k leaf.table.place) known ∙ keys_at_base bases leaf.table.place leaf.table c.requires.leaf.base in
    let mid = g.S.Store.content_now c.apply.new.store in
    let done : mid ≡ with_table content leaf.table.place changed = rw c.get-table.ensures at c.in_ok-apply.ensures.ok.0 in
    let known : g.S.Store.key_columns c.apply.new.store ≡ keys_of_bases bases = c.in_ok-apply.ensures.rest.1 ∙ c.requires.kept.keys in
    let r = c.references_satisfied-satisfied.result in
    let losts = lost_by (table_at content leaf.table.place) leaf.table.keys (referred_keys bases leaf.table.place lost) changes in
    let tested : Meets r (demanded (are_rows_there (g.S.Store.key_columns c.apply.new.store) mid (referred_by leaf.table.references (rows_put changes)) && are_free bases mid leaf.table.place losts) IntegrityConstraintViolation)
    = rw (c.in-Ok.ensures.decides.referenced, c.in-Ok.ensures.decides.lost, is.names, is.store, c.get-table.ensures) at c.references_satisfied-satisfied.ensures.meant in
    let decided = references_decided bases content mid leaf.table lost changes c.requires.kept.tables.rows c.requires.leaf.base (g.met.N.Names.references names) done (g.S.Store.key_columns c.apply.new.store) known
    (references_of bases content c.requires.kept.tables.constraints) (rows_rise_at (g.S.Store.row_numbers c.args.store.now) content leaf.table.place (g.met.S.Store.rises c.args.store.now)) c.requires.changes.keeps.keys c.requires.changes.keeps.put in
    let met : Meets r (demanded (references_met bases mid) IntegrityConstraintViolation) = met_so r (references_met bases mid) _ IntegrityConstraintViolation (sym decided) tested in
    let admitted = rw (is.names, is.store, is.user, is.parameters) at (c.in-Ok.ensures.met kinds shown (rw (is.names, is.store, is.user, is.parameters) may) c.requires.changes.fit.in_domains) in
    let distinct = rw (c.get-table.ensures, keys (g.S.Store.key_columns c.args.store.now) c.requires.kept.keys) at c.in_ok-apply.ensures.distinct in
    let finished : r ≡ Ok tt → g.S.Store.content_now c.if-is_err.store ≡ with_table content leaf.table.place changed
    = λ ok. elim c.if-is_err.branch [
      | then-is_err w ↦ search rules
      | else-is_err w ↦ ap g.S.Store.content_now w.store-is ∙ done
    ] in
    references_end shown seen bases leaf (rows_put changes) changed admitted r (g.S.Store.content_now c.if-is_err.store) distinct (rw done at met) finished

pub returns-clause-kept : goal.returns-clause-kept
returns-clause-kept g c =
    let names = c.args.names.now in
    let bases = g.N.Names.base_tables names in
    let content = g.S.Store.content_now c.args.store.now in
    let leaf = c.args.leaf.now in
    let changes = c.args.changed.changes.items in
    let lost = c.args.changed.lost_keys.items in
    let changed = changed_by (table_at content leaf.table.place) changes in
    let is = c.new-setting.ensures in
    let mid = g.S.Store.content_now c.apply.new.store in
    let done : mid ≡ with_table content leaf.table.place changed = rw c.get-table.ensures at c.in_ok-apply.ensures.ok.0 in
    let known : g.S.Store.key_columns c.apply.new.store ≡ keys_of_bases bases = c.in_ok-apply.ensures.rest.1 ∙ c.requires.kept.keys in
    let r = c.references_satisfied-satisfied.result in
    let losts = lost_by (table_at content leaf.table.place) leaf.table.keys (referred_keys bases leaf.table.place lost) changes in
    let tested : Meets r (demanded (are_rows_there (g.S.Store.key_columns c.apply.new.store) mid (referred_by leaf.table.references (rows_put changes)) && are_free bases mid leaf.table.place losts) IntegrityConstraintViolation)
    = rw (c.in-Ok.ensures.decides.referenced, c.in-Ok.ensures.decides.lost, is.names, is.store, c.get-table.ensures) at c.references_satisfied-satisfied.ensures.meant in
    let decided = references_decided bases content mid leaf.table lost changes c.requires.kept.tables.rows c.requires.leaf.base (g.met.N.Names.references names) done (g.S.Store.key_columns c.apply.new.store) known
    (references_of bases content c.requires.kept.tables.constraints) (rows_rise_at (g.S.Store.row_numbers c.args.store.now) content leaf.table.place (g.met.S.Store.rises c.args.store.now)) c.requires.changes.keeps.keys c.requires.changes.keeps.put in
    let met : Meets r (demanded (references_met bases mid) IntegrityConstraintViolation) = met_so r (references_met bases mid) _ IntegrityConstraintViolation (sym decided) tested in
    elim c.if-is_err.branch [
      | then-is_err w ↦
          let back : g.S.Store.content_now c.if-is_err.store ≡ content = search rules in
          let keys : g.S.Store.key_columns c.if-is_err.store ≡ g.S.Store.key_columns c.args.store.now = search rules in
          consistent_still bases content _ _ _ back keys c.requires.kept
      | else-is_err w ↦
          let fine : is_err r ≡ false = search rules in
          let same : g.S.Store.content_now c.if-is_err.store ≡ mid = ap g.S.Store.content_now w.store-is in
          let held = constraints_kept bases content mid leaf.table lost changes c.requires.kept.tables.rows c.requires.leaf.base (g.met.N.Names.references names) done c.requires.kept.tables.constraints c.in-Ok.ensures.values
          (met_unless r (references_met bases mid) IntegrityConstraintViolation fine met) in
          consistent_still bases mid _ _ _ same (ap g.S.Store.key_columns w.store-is) (record {
            tables = record {
              rows = still_held bases content mid leaf.table changes c.requires.kept.tables.rows c.requires.leaf.base c.requires.changes.fit.wide done;
              in_domains = still_in bases content mid leaf.table changes c.requires.kept.tables.in_domains c.requires.leaf.base c.requires.changes.fit.in_domains done;
              constraints = held;
            };
            keys = known;
          })
    ]

pub returns-in_err-apply-clause-kept : goal.returns-in_err-apply-clause-kept
returns-in_err-apply-clause-kept g c =
    consistent_still (g.N.Names.base_tables c.args.names.now) (g.S.Store.content_now c.args.store.now) _ _ _ c.in_err-apply.ensures.err c.in_err-apply.ensures.rest.1 c.requires.kept

pub returns-in_err-apply-clause-made : goal.returns-in_err-apply-clause-made
returns-in_err-apply-clause-made g c =
    let content = g.S.Store.content_now c.args.store.now in
    let leaf = c.args.leaf.now in
    let after = with_table content leaf.table.place (changed_by (table_at content leaf.table.place) c.args.changed.changes.items) in
    let now = g.S.Store.content_now c.apply.new.store in
    not_done_then (now ≡ after) (now ≡ content) c.from_residual.result c.in_err-apply.field-0.0 c.from_residual.ensures.1 c.in_err-apply.ensures.err

pub returns-clause-made : goal.returns-clause-made
returns-clause-made g c =
    let r = c.references_satisfied-satisfied.result in
    let content = g.S.Store.content_now c.args.store.now in
    let leaf = c.args.leaf.now in
    let after = with_table content leaf.table.place (changed_by (table_at content leaf.table.place) c.args.changed.changes.items) in
    let done : g.S.Store.content_now c.apply.new.store ≡ after = rw c.get-table.ensures at c.in_ok-apply.ensures.ok.0 in
    let now = g.S.Store.content_now c.if-is_err.store in
    elim c.if-is_err.branch [
      | then-is_err w ↦
          let fails : is_err r ≡ true = search rules in
          let back : g.S.Store.content_now c.if-is_err.store ≡ content = search rules in
          not_done (now ≡ after) (now ≡ content) r fails back
      | else-is_err w ↦
          let fine : is_err r ≡ false = search rules in
          done_so (now ≡ after) (now ≡ content) r fine (ap g.S.Store.content_now w.store-is ∙ done)
    ]

pub apply-requires-clause-fits : goal.apply-requires-clause-fits
apply-requires-clause-fits g c = rw c.get-table.ensures c.requires.changes.numbers

pub references_satisfied-satisfied-requires-clause-tables : goal.references_satisfied-satisfied-requires-clause-tables
references_satisfied-satisfied-requires-clause-tables g c =
    let bases = g.N.Names.base_tables c.args.names.now in
    let content = g.S.Store.content_now c.args.store.now in
    let table = c.args.leaf.now.table in
    let changes = c.args.changed.changes.items in
    let done : g.S.Store.content_now c.apply.new.store ≡ with_table content table.place (changed_by (table_at content table.place) changes)
    = rw c.get-table.ensures at c.in_ok-apply.ensures.ok.0 in
    still_held bases content _ table changes c.requires.kept.tables.rows c.requires.leaf.base c.requires.changes.fit.wide done

pub rows_admitted-requires-clause-leaf : goal.rows_admitted-requires-clause-leaf
rows_admitted-requires-clause-leaf g c = rw c.new-setting.ensures.names c.requires.leaf
