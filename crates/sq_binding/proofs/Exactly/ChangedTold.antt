-- The table that a statement changes, and the columns of it that get values, are refused exactly if the rules refuse them (ISO/IEC
-- 9075:1992, 13.6 to 13.10).
use Rattle.std.proofs.Common.{◌≡◌, ℕ, Bool, true, false, not, ◌&&◌, ◌||◌, List, [], ◌∷◌, length, map, Option, Some, None, Ok, Err, refl, sym, ap, subst, arith, ◌∙◌}
use Rattle.std.proofs.lemmas.Cmp.{nat_list_eq_equiv}
use Rattle.std.specs.List.{list_any, zip}
use Rattle.std.specs.Option.{option_map}
use Rattle.std.specs.Prelude.{⊤, find, if◌then◌else◌, is_err, is_ok, is_some, nat_lt}
use Rattle.std.specs.Result.{result_ok}
use Rattle.sq_lex.specs.declared.name.Name.{Name}
use Rattle.sq_value.specs.declared.domain.Kind.{Kind}
use Rattle.sq_meaning.specs.Environment.{TableName, same_name}
use Rattle.sq_meaning.specs.Status as status
use Rattle.sq_meaning.specs.Tables.{ColumnDescriptor, TableDescriptor, column_names, descriptor_of}
use Rattle.sq_meaning.specs.Target.{Target, target_of}
use Rattle.sq_meaning.specs.Binding.{Judged, has_column, not_updatable, unknown_table}
use Rattle.sq_meaning.specs.Schema.{has_name_twice, is_among}
use Rattle.sq_meaning.specs.Site.{Site}
use Rattle.sq_meaning.specs.WellFormedStatement.{column_kind}
use Rattle.sq_meaning.specs.Words.{is_some_and}
use Rattle.sq_meaning.specs.declared.fault.BindingFault.TheVariants as fault
use Rattle.sq_binding.specs.Change.{Receiver, receiver_named, receiver_over, receivers_of}
use Rattle.sq_binding.specs.Changeable.{ChangedTable, UnderTable, UserNames, changed_table, table_over}
use Rattle.sq_binding.specs.From.{NamedTable}
use Rattle.sq_binding.specs.Outcome.{Outcome, and_then, or_fault}
use Rattle.sq_binding.proofs.Faultless.Clean.{CleanSite, clean_more, no_site}
use Rattle.sq_binding.proofs.FaultsFound.FromFaults.{NamesFit}
use Rattle.sq_binding.proofs.FaultsFound.Sites.{fault_here}
use Rattle.sq_binding.proofs.Exactly.Told.{Told}

-- ---- the table

-- Tables are those of the rules, and so are those that may be changed; no table has more columns than a list may have (own rule).
pub record TablesFit (names : UserNames) (j : Judged) : Type 0 where
  pub tables : NamesFit names.tables j
  -- a table has a column of the base table for each of its columns
  pub wide : (t : TableName) (n : NamedTable) (u : UnderTable) → names.tables t ≡ Some n → names.under t ≡ Some u → length u.columns ≡ length n.columns
  pub changes : (t : TableName) (n : NamedTable) → names.tables t ≡ Some n → is_some (names.under t) ≡ is_ok (target_of j.known.tables t)
  pub narrow : (t : TableName) (n : NamedTable) → names.tables t ≡ Some n → nat_lt 64 (length n.columns) ≡ false
  -- no two columns of a table have one name
  pub apart : (t : TableName) (n : NamedTable) → names.tables t ≡ Some n → has_name_twice (map (λ c. c.name) n.columns) ≡ false

-- What is known of a table that may be changed.
pub record IsChanged (names : UserNames) (j : Judged) (name : TableName) (t : ChangedTable) : Type 0 where
  pub reference : t.reference ≡ record { table = name; correlation = None }
  pub there : names.tables name ≡ Some t.table
  pub under : names.under name ≡ Some t.under
  pub descriptor : TableDescriptor
  pub known : descriptor_of j.known.tables name ≡ Ok descriptor
  pub columns : t.table.columns ≡ descriptor.columns

module _ (names : UserNames) (j : Judged) (fits : TablesFit names j) (name : TableName) where
  abbrev site : Site
  site = Site.table_changed name

  table_clean : unknown_table j.known site ≡ false → not_updatable j.known site ≡ false → CleanSite j site
  table_clean h g fault.UnknownTable = h
  table_clean h g fault.NotUpdatable = g
  table_clean h g _ = refl

  abbrev IfChanged : Outcome ChangedTable → Type 0
  IfChanged (Ok t) = IsChanged names j name t
  IfChanged (Err f) = ⊤

  both_told : (o : Outcome ChangedTable) → Told j (site ∷ []) o × IfChanged o → Told j (site ∷ []) o
  both_told o h = h.0

  err_of : (b : Bool) (o : status.Outcome Target) → b ≡ is_ok o → is_err o ≡ not b
  err_of b (Ok x) e = ap not (sym e)
  err_of b (Err s) e = ap not (sym e)

  changed_both : (o : Option NamedTable) → names.tables name ≡ o → (d : status.Outcome TableDescriptor) → descriptor_of j.known.tables name ≡ d
      → option_map (λ n. n.columns) o ≡ option_map (λ d. d.columns) (result_ok d) → (p : Option UnderTable) → names.under name ≡ p
      → let r = and_then (or_fault fault.UnknownTable o) (λ table. and_then (or_fault fault.NotUpdatable p) (λ under. Ok (table_over (record { table = name; correlation = None }) table under))) in Told j (site ∷ []) r × IfChanged r
  changed_both None there (Ok d) known e p under = cc
  changed_both None there (Err s) known e p under = (fault_here j fault.UnknownTable site [] (ap (λ o. not (is_ok o)) known), tt)
  changed_both (Some n) there (Err s) known e p under = cc
  changed_both (Some n) there (Ok d) known e None under =
      let none : is_err (target_of j.known.tables name) ≡ true = err_of false (target_of j.known.tables name) (ap is_some (sym under) ∙ fits.changes name n there) in
      (fault_here j fault.NotUpdatable site [] (λ i. is_ok (known i) && none i), tt)
  changed_both (Some n) there (Ok d) known e (Some u) under =
      let some : is_err (target_of j.known.tables name) ≡ false = err_of true (target_of j.known.tables name) (ap is_some (sym under) ∙ fits.changes name n there) in
      let columns : n.columns ≡ d.columns = cc in (
        λ held. clean_more j site [] (table_clean (ap (λ o. not (is_ok o)) known) (λ i. is_ok (known i) && some i)) (no_site j),
        record { reference = refl; there = there; under = under; descriptor = d; known = known; columns = columns },
      )

  changed_is : Told j (site ∷ []) (changed_table names name) × IfChanged (changed_table names name)
  changed_is = changed_both (names.tables name) refl (descriptor_of j.known.tables name) refl (fits.tables name) (names.under name) refl

  pub changed_told : Told j (site ∷ []) (changed_table names name)
  changed_told = changed_is.0

  pub changed_known : (t : ChangedTable) → changed_table names name ≡ Ok t → IsChanged names j name t
  changed_known t is = subst IfChanged is changed_is.1

-- ---- a column of it

-- What is found of a name among columns: whether it is there, and the kind of the first.
abbrev IfFoundAs : Bool → Option Kind → Option Receiver → Type 0
IfFoundAs among kind (Some r) = (among ≡ true) × (kind ≡ Some r.kind)
IfFoundAs among kind None = among ≡ false

among_step : (c : ColumnDescriptor) (r : Receiver) → r.kind ≡ c.kind → (b x among : Bool) (found : Option ColumnDescriptor) (rest : Option Receiver) → x ≡ b → IfFoundAs among (option_map (λ c. c.kind) found) rest
    → IfFoundAs (x || among) (option_map (λ c. c.kind) (if b then Some c else found)) (if b then Some r else rest)
among_step c r kinds true x among found rest e h = (ap (λ x. x || among) e, ap Some (sym kinds))
among_step c r kinds false x among found (Some s) e h = (ap (λ x. x || among) e ∙ h.0, h.1)
among_step c r kinds false x among found None e h = ap (λ x. x || among) e ∙ h

receiver_found : (name : Name) (us : List ℕ) (cs : List ColumnDescriptor) → length us ≡ length cs
    → IfFoundAs (list_any (same_name name) (map (λ c. c.name) cs)) (option_map (λ c. c.kind) (find (λ c. same_name c.name name) cs)) (find (λ r. same_name r.name name) (map receiver_over (zip us cs)))
receiver_found name [] [] e = refl
receiver_found name [] (c ∷ cs) e = cc
receiver_found name (u ∷ us) [] e = cc
receiver_found name (u ∷ us) (c ∷ cs) e =
    let rest : length us ≡ length cs = omega (arith, e) in
    among_step c (receiver_over (u, c)) refl (same_name c.name name) (same_name name c.name) (list_any (same_name name) (map (λ c. c.name) cs)) (find (λ c. same_name c.name name) cs) (find (λ r. same_name r.name name) (map receiver_over (zip us cs)))
    (nat_list_eq_equiv.symm name c.name) (receiver_found name us cs rest)

module _ (names : UserNames) (j : Judged) (fits : TablesFit names j) (table : TableName) (t : ChangedTable) (is : IsChanged names j table t) where
  abbrev pub column_site : Name → Site
  column_site c = Site.column_changed table c

  -- the rules know the kind of the column
  abbrev pub HasKind : Name → Receiver → Type 0
  HasKind c r = column_kind j.known.tables table c ≡ Ok r.kind

  abbrev pub IsColumn : Name → Type 0
  IsColumn c = list_any (same_name c) (map (λ c. c.name) t.table.columns) ≡ true

  wide : length t.under.columns ≡ length t.table.columns
  wide = fits.wide table t.table t.under is.there is.under

  has_it : (c : Name) (b : Bool) → list_any (same_name c) (map (λ c. c.name) t.table.columns) ≡ b → has_column j.known table c ≡ b
  has_it c b e = ap (λ o. is_some_and (λ d. is_among (column_names d) c) (result_ok o)) is.known ∙ ap (λ (cs : List ColumnDescriptor). list_any (same_name c) (map (λ c. c.name) cs)) (sym is.columns) ∙ e

  column_clean : (c : Name) → has_column j.known table c ≡ true → CleanSite j (column_site c)
  column_clean c h fault.UnknownColumn = ap not h
  column_clean c h _ = refl

  abbrev IfColumn : Name → Outcome Receiver → Type 0
  IfColumn c (Ok r) = HasKind c r × IsColumn c
  IfColumn c (Err f) = ⊤

  column_both : (c : Name) (o : Option Receiver)
      → IfFoundAs (list_any (same_name c) (map (λ c. c.name) t.table.columns)) (option_map (λ c. c.kind) (find (λ k. same_name k.name c) t.table.columns)) o
      → Told j (column_site c ∷ []) (or_fault fault.UnknownColumn o) × IfColumn c (or_fault fault.UnknownColumn o)
  column_both c (Some r) h = (
    λ held. clean_more j (column_site c) [] (column_clean c (has_it c true h.0)) (no_site j),
    (
      ap (λ (o : status.Outcome TableDescriptor). status.and_then o (λ d. status.well_formed (option_map (λ k. k.kind) (find (λ k. same_name k.name c) d.columns)))) is.known
          ∙ ap (λ (cs : List ColumnDescriptor). status.well_formed (option_map (λ k. k.kind) (find (λ k. same_name k.name c) cs))) (sym is.columns) ∙ ap status.well_formed h.1,
      h.0,
    ),
  )
  column_both c None h = (fault_here j fault.UnknownColumn (column_site c) [] (ap not (has_it c false h)), tt)

  column_is : (c : Name) → Told j (column_site c ∷ []) (receiver_named t c) × IfColumn c (receiver_named t c)
  column_is c = column_both c (find (λ r. same_name r.name c) (receivers_of t)) (receiver_found c t.under.columns t.table.columns wide)

  pub column_told : (c : Name) → Told j (column_site c ∷ []) (receiver_named t c)
  column_told c = (column_is c).0

  pub column_known : (c : Name) (r : Receiver) → receiver_named t c ≡ Ok r → HasKind c r × IsColumn c
  column_known c r e = subst (IfColumn c) e (column_is c).1
