-- The columns of a view, and what names mean in a catalog with one more view (ISO/IEC 9075:1992, 11.19).
use Rattle.std.proofs.Common.{◌≡◌, suc, Bool, true, false, cond, List, [], ◌∷◌, arith, length, map, Option, Some, None, refl, ap, subst, ◌∙◌}
use Rattle.std.proofs.lemmas.List.Folds.{find-append}
use Rattle.std.specs.List.{zip}
use Rattle.std.specs.Option.{option_map, option_or}
use Rattle.std.specs.Prelude.{if◌then◌else◌, unwrap_or}
use Rattle.sq_lex.specs.declared.name.Name.{Name}
use Rattle.sq_value.specs.declared.domain.Kind.{Kind}
use Rattle.sq_meaning.specs.Environment.{TableName, same_table}
use Rattle.sq_meaning.specs.Tables.{ColumnDescriptor}
use Rattle.sq_binding.specs.NumberedCondition.{ResultColumn}
use Rattle.sq_binding.specs.Catalog.{Catalog, DeclaredBase, DeclaredView, Entry, base_named, entry, view_named}
use Rattle.sq_binding.specs.CreateView.{NewView, view_columns, with_view}
use Rattle.sq_binding.proofs.Schemas.Created.{no_entry, or_none}
use Rattle.sq_binding.proofs.Schemas.Names.{table_same}

-- ---- columns of a view

pub names_shown : (ns : List Name) (cs : List ResultColumn) → length ns ≡ length cs → map (λ c. c.name) (view_columns ns cs) ≡ ns
names_shown [] cs e = refl
names_shown (n ∷ ns) [] e = cc
names_shown (n ∷ ns) (c ∷ cs) e = let rest : length ns ≡ length cs = omega (arith, e) in ap (λ l. n ∷ l) (names_shown ns cs rest)

pub counted : (ns : List Name) (cs : List ResultColumn) → length ns ≡ length cs → length (view_columns ns cs) ≡ length cs
counted [] [] e = refl
counted [] (c ∷ cs) e = cc
counted (n ∷ ns) [] e = cc
counted (n ∷ ns) (c ∷ cs) e = let rest : length ns ≡ length cs = omega (arith, e) in ap suc (counted ns cs rest)

abbrev pub described_columns : List (Option Name) → List Kind → List ColumnDescriptor
described_columns ns ks = map (λ c. record { name = unwrap_or c.0 []; kind = c.1 }) (zip ns ks)

pub columns_same : (ns : List Name) (cs : List ResultColumn) → described_columns (map Some ns) (map (λ c. c.kind) cs) ≡ view_columns ns cs
columns_same [] cs = refl
columns_same (n ∷ ns) [] = refl
columns_same (n ∷ ns) (c ∷ cs) = ap (λ l. record { name = n; kind = c.kind } ∷ l) (columns_same ns cs)

-- ---- names with one more view

module _ (c : Catalog) (n : NewView) (new : entry c n.view.name ≡ None) (to : TableName) where
  abbrev entry_with : Option DeclaredView → Option Entry
  entry_with o = option_or (option_map Entry.base (base_named c.bases to)) (option_map Entry.view o)

  no_base : (b : Option DeclaredBase) → b ≡ None → (o : Option Entry) → option_or (option_map Entry.base b) o ≡ o
  no_base None e o = refl
  no_base (Some b) e o = cc

  pub view_added : entry (with_view c n) to ≡ (if same_table n.view.name to then Some (Entry.view n.view) else entry c to)
  view_added = ap entry_with (find-append (λ v. same_table v.name to) c.views (n.view ∷ [])) ∙ by (same_table n.view.name to) refl
    where
      by : (same : Bool) → same_table n.view.name to ≡ same → entry_with (option_or (view_named c.views to) (cond same (Some n.view) None)) ≡ (if same then Some (Entry.view n.view) else entry c to)
      by false is = ap entry_with (or_none (view_named c.views to))
      by true is =
          let none = no_entry (base_named c.bases to) (view_named c.views to) (subst (λ n. entry c n ≡ None) (table_same n.view.name to is) new) in
          ap (λ o. entry_with (option_or o (Some n.view))) none.1 ∙ no_base (base_named c.bases to) none.0 (Some (Entry.view n.view))
