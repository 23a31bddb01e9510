-- Tables in which all constraints hold have values in the domains of their columns, as the catalog has them
-- (ISO/IEC 9075:1992, 4.10 and 9.2).
use Rattle.std.proofs.Common.{◌≡◌, ℕ, suc, List, [], ◌∷◌, length, map, Some, refl, subst, arith}
use Rattle.std.specs.List.{AllByRecursion, AllZip}
use Rattle.std.specs.Prelude.{slice_get, slice_index_or}
use Rattle.sq_tree.specs.declared.schema.ColumnDefinition.{ColumnDefinition}
use Rattle.sq_tree.specs.declared.schema.SchemaText.{SchemaText}
use Rattle.sq_value.specs.Domain.{IsInDomain}
use Rattle.sq_store.specs.Content.{Content, empty, table_at}
use Rattle.sq_store.specs.declared.table.Numbered.{Numbered}
use Rattle.sq_store.specs.declared.table.Table.{Table}
use Rattle.sq_meaning.specs.Environment.{Row}
use Rattle.sq_meaning.specs.Catalog.{column_domain}
use Rattle.sq_meaning.specs.Schema.{base_tables, column_definitions}
use Rattle.sq_meaning.specs.SchemaRefusal.{elements_of}
use Rattle.sq_meaning.specs.Constraints.{AreInDomains as AreInColumns, ConstraintsHold}
use Rattle.sq_bound.specs.Fits.{AreInDomains, AreRowsIn, IsRowIn}
use Rattle.sq_bound.specs.Known.{KnownTables}
use Rattle.sq_bound.specs.declared.names.BaseColumn.{BaseColumn}
use Rattle.sq_run.proofs.Laws.NameLaws.{accepted_names_differ}
use Rattle.sq_session.specs.Schemas.{Schemas}
use Rattle.sq_run.proofs.Schemas.DeclaredContent.{rows_at_place}
use Rattle.sq_run.proofs.Schemas.DeclaredStatements.{zip_back}
use Rattle.sq_run.proofs.Schemas.DeclaredTables.{IsBaseAs, all_bases, table_as}
use Rattle.sq_run.proofs.Steps.InSession.{AreOf}
use Rattle.sq_run.proofs.Changed.Statements.{IsColumnAs}

row_in : (ws : List ColumnDefinition) (cs : List BaseColumn) (row : Row) → AllZip IsColumnAs ws cs → AreInColumns (map column_domain ws) row
    → IsRowIn cs row
row_in [] [] [] like h = tt
row_in [] [] (v ∷ row) like h = absurd h
row_in [] (c ∷ cs) row like h = absurd like
row_in (w ∷ ws) [] row like h = absurd like
row_in (w ∷ ws) (c ∷ cs) [] like h = absurd h
row_in (w ∷ ws) (c ∷ cs) (v ∷ row) like h = (subst (λ d. IsInDomain d v) like.0.domain h.0, row_in ws cs row like.1 h.1)

rows_in_domains : (ws : List ColumnDefinition) (cs : List BaseColumn) (rows : List Numbered) → AllZip IsColumnAs ws cs
    → AllByRecursion (AreInColumns (map column_domain ws)) (map (λ r. r.row) rows) → AreRowsIn cs rows
rows_in_domains ws cs [] like h = tt
rows_in_domains ws cs (r ∷ rows) like h = (row_in ws cs r.row like h.0, rows_in_domains ws cs rows like h.1)

each_zipped : {B : Type 0} (R : B → Table → Type 0) (bs : List B) (ts : Content) → length ts ≡ length bs
    → ((n : ℕ) (b : B) → slice_get bs n ≡ Some b → R b (slice_index_or ts n empty)) → AllZip R bs ts
each_zipped R [] [] e h = tt
each_zipped R [] (t ∷ ts) e h = absurd (omega arith)
each_zipped R (b ∷ bs) [] e h = absurd (omega arith)
each_zipped R (b ∷ bs) (t ∷ ts) e h =
    let fewer : length ts ≡ length bs = omega arith in (h 0 b refl, each_zipped R bs ts fewer (λ n c at. h (suc n) c at))

pub in_domains : (texts : List SchemaText) (known : KnownTables) (schemas : Schemas) → AreOf texts known schemas → (content : Content)
    → length content ≡ length schemas.bases → ConstraintsHold (elements_of texts) content → AreInDomains schemas.bases content
in_domains texts known schemas of content count hold =
    each_zipped (λ b t. AreRowsIn b.columns t.rows) schemas.bases content count
    (λ n b at.
    let found = zip_back IsBaseAs (base_tables (elements_of texts)) schemas.bases n b (all_bases texts known schemas.bases schemas.views of.declares) at in
    rows_in_domains (column_definitions (found.0).definition) b.columns (table_at content n).rows (table_as found.0 b found.2)
    (subst (λ rows. AllByRecursion (AreInColumns (map column_domain (column_definitions (found.0).definition))) rows)
    (rows_at_place (elements_of texts) (accepted_names_differ texts of.accepted) content n found.0 found.1) (hold.0 n found.0 found.1)))
