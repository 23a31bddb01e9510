-- The query of a view in which the rules find no fault is well formed among the tables before it (ISO/IEC 9075:1992, 11.19).
use Rattle.std.specs.Prelude.{◌≡◌, false, []}
use Rattle.sq_lex.specs.declared.name.Name.{Name}
use Rattle.sq_store.specs.Content.{Content}
use Rattle.sq_tree.specs.declared.schema.ViewDefinition.{ViewDefinition}
use Rattle.sq_meaning.specs.Database.{IsDeclaredIn}
use Rattle.sq_meaning.specs.Spelled.{select_of}
use Rattle.sq_meaning.specs.Tables.{by_name, kinds_by_name, table_rows}
use Rattle.sq_meaning.specs.WellFormed.{WellFormedSelect}
use Rattle.sq_run.proofs.Sites.CondLiterals.{select_spells}
use Rattle.sq_run.proofs.Sites.QuerySites.{taken_select_well_formed}
use Rattle.sq_meaning.specs.Catalog.{tables_of}
use Rattle.sq_meaning.specs.Schema.{Elements}
use Rattle.sq_meaning.specs.SchemaRefusal.{view_has_fault, view_judged}

-- no parameter is declared to a view, so its query has none
pub view_well_formed : (before : Elements) (user : Name) (v : ViewDefinition) (content : Content) (caller : Name) → view_has_fault before user v ≡ false
    → WellFormedSelect (by_name (tables_of before) content caller) (kinds_by_name (tables_of before) []) (IsDeclaredIn []) [] (select_of user v.query)
view_well_formed before user v content caller e =
    taken_select_well_formed (view_judged before user) (table_rows (tables_of before) content caller) (select_of user v.query) (select_spells user v.query) e
