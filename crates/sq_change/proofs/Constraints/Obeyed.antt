-- NOT NULL and references hold after a change, if they held before it (ISO/IEC 9075:1992, 11.4 and 11.8).
use Rattle.std.proofs.Common.{◌≡◌, ℕ, ◌⊎◌, inl, inr, Bool, true, false, nat_eq, List, Result, Ok, Err, is_err, slice_get, Some, refl, sym, ap, subst, ◌∙◌}
use Rattle.std.specs.List.{Contains, enumerate_from, list_all}
use Rattle.std.proofs.lemmas.Bool.{and_from, and_parts, eqb-true}
use Rattle.sq_store.specs.Change.{rows_put}
use Rattle.sq_store.specs.Content.{Content, changed_by, table_at, with_table}
use Rattle.sq_store.specs.Keys.{Keys}
use Rattle.sq_store.specs.declared.change.Change.{Change}
use Rattle.sq_store.specs.declared.table.Numbered.{Numbered}
use Rattle.sq_store.specs.declared.table.Table.{Table}
use Rattle.sq_bound.specs.Fits.{IsBase, all_refer, has_its_values, holds, not_nulls_hold}
use Rattle.sq_bound.specs.declared.names.BaseTable.{BaseTable}
use Rattle.sq_change.specs.Constraints.{constraints_hold, references_met}
use Rattle.sq_change.specs.Statement.{IsConsistent, KeepsTables}
use Rattle.sq_meaning.specs.declared.status.Status.{Status}
use Rattle.sq_meaning.specs.Constraints.{demanded}
use Rattle.sq_expression.specs.Fault.{Meets}
use Rattle.sq_expression.specs.declared.fault.Fault.{Fault}
use Rattle.sq_change.proofs.OneByOne.AllMet.{was_met}
use Rattle.sq_change.proofs.OneByOne.Among.{all_from, all_in, placed_at, placed_there}
use Rattle.sq_change.proofs.Keys.KeptValues.{old_or_put}
use Rattle.sq_change.proofs.Constraints.ReferencesKept.{other_table, this_table}

module _ (bases : List BaseTable) (before after : Content) (t : BaseTable) (lost : List ℕ) (changes : List Change)
    (tables : holds bases before ≡ true) (base : IsBase bases t) (refer : all_refer bases ≡ true)
    (done : after ≡ with_table before t.place (changed_by (table_at before t.place) changes)) where
  pub not_nulls_kept : not_nulls_hold bases before ≡ true → list_all (has_its_values t) (rows_put changes) ≡ true → not_nulls_hold bases after ≡ true
  not_nulls_kept held put =
      all_from (λ p. list_all (λ n. has_its_values p.1 n.row) (table_at after p.0).rows) (enumerate_from 0 bases)
      (λ p c. all_from (λ n. has_its_values p.1 n.row) (table_at after p.0).rows (λ n d. one p.0 p.1 n (placed_at bases p c) d))
    where
      old : (place : ℕ) (b : BaseTable) (n : Numbered) → slice_get bases place ≡ Some b → Contains (table_at before place).rows n → has_its_values b n.row ≡ true
      old place b n at o =
          all_in (λ m. has_its_values b m.row) (table_at before place).rows n
          (all_in (λ p. list_all (λ m. has_its_values p.1 m.row) (table_at before p.0).rows) (enumerate_from 0 bases) (place, b) held (placed_there bases place b at)) o

      one : (place : ℕ) (b : BaseTable) (n : Numbered) → slice_get bases place ≡ Some b → Contains (table_at after place).rows n → has_its_values b n.row ≡ true
      one place b n at d = by (nat_eq place t.place) refl
        where
          on : place ≡ t.place → Contains (table_at before t.place).rows n ⊎ Contains (rows_put changes) n.row → has_its_values b n.row ≡ true
          on same (inl o) = old place b n at (subst (λ (p : ℕ). Contains (table_at before p).rows n) (sym same) o)
          on same (inr p) =
              let two : Some b ≡ Some t = sym at ∙ ap (slice_get bases) same ∙ base in
              let is : b ≡ t = cc in
              subst (λ (a : BaseTable). has_its_values a n.row ≡ true) (sym is) (all_in (has_its_values t) (rows_put changes) n.row put p)

          by : (e : Bool) → nat_eq place t.place ≡ e → has_its_values b n.row ≡ true
          by true e =
              let same : place ≡ t.place = eqb-true place t.place e in
              on same (old_or_put changes (table_at before t.place) n
              (subst (λ (u : Table). Contains u.rows n) (ap (table_at after) same ∙ this_table bases before after t lost changes tables base refer done) d))
          by false e = old place b n at (subst (λ (u : Table). Contains u.rows n) (other_table bases before after t lost changes tables base refer done place e) d)

  pub constraints_kept : constraints_hold bases before ≡ true → list_all (has_its_values t) (rows_put changes) ≡ true → references_met bases after ≡ true → constraints_hold bases after ≡ true
  constraints_kept held put met =
      and_from (not_nulls_hold bases after) (references_met bases after) (not_nulls_kept (and_parts (not_nulls_hold bases before) (references_met bases before) held).0 put) met

pub not_nulls_of : (bases : List BaseTable) (content : Content) → constraints_hold bases content ≡ true → not_nulls_hold bases content ≡ true
not_nulls_of bases content held = (and_parts (not_nulls_hold bases content) (references_met bases content) held).0

pub keeps_tables : (bases : List BaseTable) (content : Content) (own_keys : List Keys) → IsConsistent bases content own_keys → KeepsTables bases content own_keys
keeps_tables bases content own_keys kept = record {
  tables = kept.tables.rows;
  in_domains = kept.tables.in_domains;
  keys = kept.keys;
  not_null = not_nulls_of bases content kept.tables.constraints;
}

-- where nothing is changed
pub consistent_still : (bases : List BaseTable) (before after : Content) (own_keys keys : List Keys) → after ≡ before → keys ≡ own_keys → IsConsistent bases before own_keys → IsConsistent bases after keys
consistent_still bases before after own_keys keys same same_keys kept =
    subst (λ (ks : List Keys). IsConsistent bases after ks) (sym same_keys) (subst (λ (t : Content). IsConsistent bases t own_keys) (sym same) kept)

pub references_of : (bases : List BaseTable) (content : Content) → constraints_hold bases content ≡ true → references_met bases content ≡ true
references_of bases content held = (and_parts (not_nulls_hold bases content) (references_met bases content) held).1

-- what is tested holds unless there is a fault
pub met_unless : (r : Result (Unit {0}) Fault) (holds : Bool) (s : Status) → is_err r ≡ false → Meets r (demanded holds s) → holds ≡ true
met_unless (Ok u) holds s h m = was_met holds s u m
met_unless (Err f) holds s h m = cc
