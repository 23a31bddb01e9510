-- The meanings of names to a view are what the rules know of the elements before it (ISO/IEC 9075:1992, 11.19).
use Rattle.std.proofs.Common.{◌≡◌, ℕ, suc, ◌+◌, ◌<◌, Bool, true, false, not, ◌&&◌, ◌||◌, List, [], ◌∷◌, arith, length, map, Option, Some, None, refl, sym, ap, subst, ◌∙◌}
use Rattle.std.proofs.lemmas.Bool.{eqb-true}
use Rattle.std.proofs.lemmas.List.{length-map}
use Rattle.std.specs.List.{enumerate_from, list_any}
use Rattle.std.specs.Option.{option_and_then, option_map}
use Rattle.std.specs.Prelude.{is_ok, is_some, nat_eq, nat_lt}
use Rattle.sq_lex.specs.declared.name.Name.{Name}
use Rattle.sq_meaning.specs.Environment.{TableName}
use Rattle.sq_meaning.specs.Tables.{ColumnDescriptor}
use Rattle.sq_meaning.specs.Target.{are_distinct, places_of, target_of}
use Rattle.sq_meaning.specs.Binding.{Judged}
use Rattle.sq_meaning.specs.Privilege.{Privilege}
use Rattle.sq_meaning.specs.Catalog.{tables_of}
use Rattle.sq_meaning.specs.Schema.{Elements, has_name_twice}
use Rattle.sq_meaning.specs.SchemaRefusal.{view_judged}
use Rattle.sq_binding.specs.Changeable.{UnderTable, UserNames}
use Rattle.sq_binding.specs.From.{NamedTable}
use Rattle.sq_binding.proofs.Exactly.ChangedTold.{TablesFit}
use Rattle.sq_binding.proofs.Exactly.CursorAccepted.{UserFits}
use Rattle.sq_binding.proofs.FaultsFound.FromFaults.{NamesFit}
use Rattle.sq_binding.proofs.Exactly.InsertAccepted.{HoldsFit}
use Rattle.sq_binding.proofs.AtSites.Privileges.{ReadsFit}
use Rattle.sq_binding.proofs.OneTable.UpdatableRule.{ColumnsFit}
use Rattle.sq_binding.specs.Catalog.{Catalog, DeclaredUnder, Entry, column_descriptor, entry, entry_columns, entry_under, itself, named_table, names_of, under_table}
use Rattle.sq_binding.proofs.Schemas.BoundReferences.{base_names, entry_names}
use Rattle.sq_binding.proofs.Schemas.KnownTables.{IsCatalogOf, Known, known_columns, known_target, target_there}

-- ---- places

enumerated : {A : Type 0} (n : ℕ) (xs : List A) → length (enumerate_from n xs) ≡ length xs
enumerated n [] = refl
enumerated n (x ∷ xs) = ap suc (enumerated (n + 1) xs)

pub as_many_places : {A : Type 0} (xs : List A) → length (places_of xs) ≡ length xs
as_many_places xs = length-map (enumerate_from 0 xs) (λ p. p.0) ∙ enumerated 0 xs

pub differ : (m n : ℕ) → m < n → nat_eq m n ≡ false
differ m n less = by (nat_eq m n) refl
  where
    never : m ≡ n → ⊥
    never same = omega (arith, less, same)

    by : (b : Bool) → nat_eq m n ≡ b → nat_eq m n ≡ false
    by true e = absurd (never (eqb-true m n e))
    by false e = e

abbrev places_from : {A : Type 0} → ℕ → List A → List ℕ
places_from n xs = map (λ p. p.0) (enumerate_from n xs)

none_before : {A : Type 0} (m n : ℕ) (xs : List A) → m < n → list_any (nat_eq m) (places_from n xs) ≡ false
none_before m n [] less = refl
none_before m n (x ∷ xs) less = λ i. differ m n less i || none_before m (n + 1) xs (omega (arith, less)) i

distinct_from : {A : Type 0} (n : ℕ) (xs : List A) → are_distinct (places_from n xs) ≡ true
distinct_from n [] = refl
distinct_from n (x ∷ xs) = let next : n < n + 1 = omega arith in λ i. not (none_before n (n + 1) xs next i) && distinct_from (n + 1) xs i

-- ---- what names mean

module _ (users : List Name) (before : Elements) (c : Catalog) (of : IsCatalogOf users before c) (user : Name) where
  abbrev pub names : UserNames
  names = names_of c user

  abbrev pub j : Judged
  j = view_judged before user

  pub tables_fit : NamesFit names.tables j
  tables_fit t = by (entry c t) ∙ known_columns before t (entry c t) (of.known t)
    where
      by : (e : Option Entry) → option_map (λ n. n.columns) (option_map (named_table c user t) e) ≡ option_map entry_columns e
      by None = refl
      by (Some e) = refl

  -- a table that is there
  pub record IsEntry (t : TableName) (n : NamedTable) : Type 0 where
    pub on : Entry
    pub there : entry c t ≡ Some on
    pub named : named_table c user t on ≡ n

  pub entry_of : (t : TableName) (n : NamedTable) → names.tables t ≡ Some n → IsEntry t n
  entry_of t n is = by (entry c t) refl is
    where
      by : (e : Option Entry) → entry c t ≡ e → option_map (named_table c user t) e ≡ Some n → IsEntry t n
      by None at is = cc
      by (Some e) at is = let same : named_table c user t e ≡ n = cc in record { on = e; there = at; named = same }

  -- what is under a table is what an entry has under it
  pub record IsUnder (t : TableName) (u : UnderTable) (e : Entry) : Type 0 where
    pub below : DeclaredUnder
    pub has : entry_under e ≡ Some below
    pub columns : u.columns ≡ below.columns

  pub under_of : (t : TableName) (u : UnderTable) → names.under t ≡ Some u → (e : Entry) → entry c t ≡ Some e → IsUnder t u e
  under_of t u is e at = by (entry_under e) refl (sym (ap (λ o. option_map under_table (option_and_then entry_under o)) at) ∙ is)
    where
      by : (o : Option DeclaredUnder) → entry_under e ≡ o → option_map under_table o ≡ Some u → IsUnder t u e
      by None has is = cc
      by (Some below) has is = let same : under_table below ≡ u = cc in record { below = below; has = has; columns = ap (λ (u : UnderTable). u.columns) (sym same) }

  pub reads_fit : ReadsFit names.tables j
  reads_fit t n is = let e = entry_of t n is in ap (λ (n : NamedTable). n.may_select) (sym e.named) ∙ of.held false user t Privilege.select

  columns_named : (t : TableName) (n : NamedTable) (e : IsEntry t n) → n.columns ≡ entry_columns e.on
  columns_named t n e = ap (λ (n : NamedTable). n.columns) (sym e.named)

  -- ---- of an entry

  known_at : (t : TableName) (e : Entry) → entry c t ≡ Some e → Known before t (Some e)
  known_at t e at = subst (Known before t) at (of.known t)

  entry_wide : (t : TableName) (e : Entry) → Known before t (Some e) → (below : DeclaredUnder) → entry_under e ≡ Some below → length below.columns ≡ length (entry_columns e)
  entry_wide t (Entry.base b) k below has =
      let same : itself b ≡ below = cc in ap (λ (u : DeclaredUnder). length u.columns) (sym same) ∙ as_many_places b.columns ∙ sym (length-map b.columns column_descriptor)
  entry_wide t (Entry.view v) k below has = k.wide below has

  entry_once : (t : TableName) (e : Entry) → Known before t (Some e) → (below : DeclaredUnder) → entry_under e ≡ Some below → are_distinct below.columns ≡ true
  entry_once t (Entry.base b) k below has =
      let same : itself b ≡ below = cc in ap (λ (u : DeclaredUnder). are_distinct u.columns) (sym same) ∙ distinct_from 0 b.columns
  entry_once t (Entry.view v) k below has = k.once below has

  entry_changes : (t : TableName) (e : Entry) → Known before t (Some e) → is_some (entry_under e) ≡ is_ok (target_of (tables_of before) t)
  entry_changes t e k = sym (target_there (target_of (tables_of before) t) (entry_under e) (known_target before t e k))

  entry_narrow : (t : TableName) (e : Entry) → Known before t (Some e) → nat_lt 64 (length (entry_columns e)) ≡ false
  entry_narrow t (Entry.base b) k = ap (nat_lt 64) (length-map b.columns column_descriptor) ∙ k.is_of.narrow
  entry_narrow t (Entry.view v) k = k.narrow

  entry_apart : (t : TableName) (e : Entry) → Known before t (Some e) → has_name_twice (map (λ c. c.name) (entry_columns e)) ≡ false
  entry_apart t (Entry.base b) k = ap has_name_twice (entry_names b ∙ base_names k.definition b k.is_of) ∙ k.is_of.apart
  entry_apart t (Entry.view v) k = k.apart

  -- ---- the premises of the laws of binding

  wide : (t : TableName) (n : NamedTable) (u : UnderTable) → names.tables t ≡ Some n → names.under t ≡ Some u → length u.columns ≡ length n.columns
  wide t n u is has =
      let e = entry_of t n is in
      let below = under_of t u has e.on e.there in
      ap length below.columns ∙ entry_wide t e.on (known_at t e.on e.there) below.below below.has ∙ sym (ap length (columns_named t n e))

  some_mapped : {A B : Type 0} (f : A → B) (o : Option A) → is_some (option_map f o) ≡ is_some o
  some_mapped f None = refl
  some_mapped f (Some x) = refl

  pub user_fits : UserFits names j
  user_fits = record { tables = tables_fit; reads = reads_fit; wide = wide }

  pub all_fit : TablesFit names j
  all_fit = record {
    tables = tables_fit;
    wide = wide;
    changes = λ t n is. let e = entry_of t n is in
        some_mapped under_table (option_and_then entry_under (entry c t)) ∙ ap (λ o. is_some (option_and_then entry_under o)) e.there ∙ entry_changes t e.on (known_at t e.on e.there);
    narrow = λ t n is. let e = entry_of t n is in ap (λ cs. nat_lt 64 (length cs)) (columns_named t n e) ∙ entry_narrow t e.on (known_at t e.on e.there);
    apart = λ t n is. let e = entry_of t n is in ap (λ cs. has_name_twice (map (λ (c : ColumnDescriptor). c.name) cs)) (columns_named t n e) ∙ entry_apart t e.on (known_at t e.on e.there);
  }

  -- no column of a base table stands for two of a table
  pub columns_fit : ColumnsFit names
  columns_fit t u has = by (entry c t) refl has
    where
      by : (o : Option Entry) → entry c t ≡ o → option_map under_table (option_and_then entry_under o) ≡ Some u → are_distinct u.columns ≡ true
      by None at has = cc
      by (Some e) at has =
          let below = under_of t u (ap (λ o. option_map under_table (option_and_then entry_under o)) at ∙ has) e at in
          ap are_distinct below.columns ∙ entry_once t e (known_at t e at) below.below below.has

  -- a user holds what the rules say that is held
  pub holds_fit : HoldsFit names j
  holds_fit t p = of.held false user t p
