-- The names of the columns of a table are those that its definition has.
use Rattle.std.proofs.Common.{◌≡◌, ℕ, suc, List, [], ◌∷◌, length, map, zip, refl, ap, ◌∙◌}
use Rattle.std.proofs.lemmas.List.{length-map}
use Rattle.sq_lex.specs.declared.name.Name.{Name}
use Rattle.sq_bound.specs.declared.names.BaseColumn.{BaseColumn}
use Rattle.sq_bound.specs.declared.names.BaseTable.{BaseTable}
use Rattle.sq_bound.specs.declared.names.Column.{Column}
use Rattle.sq_catalog.specs.declared.catalog.FullName.{FullName}
use Rattle.sq_bound.specs.declared.names.TableBody.{TableBody}
use Rattle.sq_bound.specs.declared.names.TableBody.TheVariants as body
use Rattle.sq_bound.specs.declared.names.TableDesc.{TableDesc}
use Rattle.sq_binding.specs.Catalog.{column_descriptor, entry_column_names}
use Rattle.sq_binding.specs.Names.{descriptor_of}
use Rattle.sq_catalog.specs.Exact.{column_declared, entry_declared, entry_with, names_in}
use Rattle.sq_catalog.specs.Stored.{IsBody, IsStored}

zip_names : (ns : List Name) (bs : List BaseColumn) → length ns ≡ length bs → map (λ c. c.name) (map column_descriptor (map column_declared (zip ns bs))) ≡ ns
zip_names [] [] e = refl
zip_names (n ∷ ns) (b ∷ bs) e = ap (λ l. n ∷ l) (zip_names ns bs (suc_alike e))
  where
    suc_alike : {m n : ℕ} → suc m ≡ suc n → m ≡ n
    suc_alike e = cc
zip_names [] (b ∷ bs) e = cc
zip_names (n ∷ ns) [] e = cc

described_names : (cs : List Column) → map (λ c. c.name) (map descriptor_of cs) ≡ names_in cs
described_names [] = refl
described_names (c ∷ cs) = ap (λ l. c.name ∷ l) (described_names cs)

module _ (bases : List BaseTable) (name : FullName) (t : TableDesc) where
  names_with : (b : TableBody) → IsBody bases (length t.columns) b → entry_column_names (entry_with name t b) ≡ names_in t.columns
  names_with (body.Base b) h = zip_names (names_in t.columns) b.columns (length-map t.columns (λ (c : Column). c.name) ∙ h.1)
  names_with (body.View v) h = described_names t.columns

  pub entry_names : IsStored bases t → entry_column_names (entry_declared name t) ≡ names_in t.columns
  entry_names stored = names_with t.body stored.body
