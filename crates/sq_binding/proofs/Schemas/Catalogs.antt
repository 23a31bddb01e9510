-- The catalog of schema texts: who holds which privilege, and the meanings of names in the statements of a user (ISO/IEC 9075:1992, 4.26,
-- 5.4, 11.1 and 11.36).
use Rattle.std.proofs.Common.{◌≡◌, true, false, List, [], None, Ok, subst}
use Rattle.std.specs.List.{AllByRecursion}
use Rattle.sq_lex.specs.declared.name.Name.{Name}
use Rattle.sq_tree.specs.declared.schema.SchemaText.{SchemaText}
use Rattle.sq_meaning.specs.Environment.{TableName}
use Rattle.sq_meaning.specs.Tables.{Declared as Parameter}
use Rattle.sq_meaning.specs.Binding.{Judged}
use Rattle.sq_meaning.specs.Catalog.{tables_of}
use Rattle.sq_meaning.specs.Privilege.{Privilege}
use Rattle.sq_meaning.specs.Privileges.{holds, may_grant_on}
use Rattle.sq_meaning.specs.Schema.{Elements}
use Rattle.sq_meaning.specs.SchemaRefusal.{elements_of, first_schema_refusal, schema_parts}
use Rattle.sq_meaning.specs.Site.{KnownCursor}
use Rattle.sq_binding.proofs.Exactly.ChangedTold.{TablesFit}
use Rattle.sq_binding.proofs.Exactly.CursorAccepted.{UserFits}
use Rattle.sq_binding.proofs.Exactly.InsertAccepted.{HoldsFit}
use Rattle.sq_binding.proofs.OneTable.UpdatableRule.{ColumnsFit}
use Rattle.sq_binding.specs.Catalog.{Catalog, may, names_of}
use Rattle.sq_binding.specs.Declaring.{catalog_of}
use Rattle.sq_binding.proofs.Schemas.KnownTables.{IsCatalogOf, IsMadeOf}
use Rattle.sq_binding.proofs.Schemas.Refused.{DeclaresAs, IsPlainPart, catalog_told, users_behind}
use Rattle.sq_binding.proofs.SchemaViews.ViewNames.{all_fit, columns_fit, user_fits}

module _ (texts : List SchemaText) (plain : AllByRecursion (λ p. IsPlainPart p.user p.element) (schema_parts texts)) (c : Catalog) (is : catalog_of texts ≡ Ok c) where
  abbrev elements : Elements
  elements = elements_of texts

  abbrev users : List Name
  users = users_behind [] (schema_parts texts)

  told : DeclaresAs users elements (first_schema_refusal texts) (Ok c)
  told = subst (DeclaresAs users elements (first_schema_refusal texts)) is (catalog_told texts plain)

  -- there is no refusal, and it is the catalog of their elements
  pub not_refused : first_schema_refusal texts ≡ None
  not_refused = told.0

  pub is_catalog : IsCatalogOf users elements c
  is_catalog = told.1

  pub is_made : IsMadeOf elements c
  is_made = is_catalog.made

  -- a user holds what the rules say, and with the grant option
  pub user_holds : (user : Name) (t : TableName) (p : Privilege) → may c false user t p ≡ holds elements user t p
  user_holds user t p = is_catalog.held false user t p

  pub user_may_grant : (user : Name) (t : TableName) (p : Privilege) → may c true user t p ≡ may_grant_on elements user t p
  user_may_grant user t p = is_catalog.held true user t p

  -- ---- what names mean to a statement of a user, with any parameters and cursors

  module _ (user : Name) (parameters : List Parameter) (cursors : List KnownCursor) where
    abbrev pub judged : Judged
    judged = record { known = record { tables = tables_of elements; parameters = parameters; cursors = cursors }; holds = holds elements user }

    pub tables_fit_all : TablesFit (names_of c user) judged
    tables_fit_all = let h = all_fit users elements c is_catalog user in record { tables = h.tables; wide = h.wide; changes = h.changes; narrow = h.narrow; apart = h.apart }

    pub user_fits_all : UserFits (names_of c user) judged
    user_fits_all = let h = user_fits users elements c is_catalog user in record { tables = h.tables; reads = h.reads; wide = h.wide }

    pub columns_fit_all : ColumnsFit (names_of c user)
    columns_fit_all = columns_fit users elements c is_catalog user

    pub holds_fit_all : HoldsFit (names_of c user) judged
    holds_fit_all t p = is_catalog.held false user t p
