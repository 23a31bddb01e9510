-- What is shown of a view.
use Rattle.std.proofs.Common.{◌≡◌, ℕ, List, Option, None, Some, Result, Ok, Err, refl, subst, sym}
use Rattle.std.specs.Prelude.{OnOk}
use Rattle.std.specs.declared.alloc.AllocError.{AllocError}
use Rattle.sq_lex.specs.declared.name.Name.{Name}
use Rattle.sq_store.specs.Content.{Content}
use Rattle.sq_meaning.specs.Environment.{Row}
use Rattle.sq_meaning.specs.Report.{Bytes}
use Rattle.sq_meaning.specs.Status.{Outcome}
use Rattle.sq_bound.specs.Known.{KnownTable, known_by}
use Rattle.sq_bound.specs.WellFormed.{place_of}
use Rattle.sq_bound.specs.declared.condition.TablePlace.{TablePlace}
use Rattle.sq_bound.specs.declared.condition.TablePlace.TheVariants.{View}
use Rattle.sq_bound.specs.declared.names.BaseTable.{BaseTable}
use Rattle.sq_bound.specs.declared.names.TableBody.{TableBody}
use Rattle.sq_bound.specs.declared.names.TableBody.TheVariants as body
use Rattle.sq_bound.specs.declared.names.TableDesc.{TableDesc}
use Rattle.sq_bound.specs.declared.names.View.{View as BoundView}
use Rattle.sq_catalog.specs.Catalog.{Catalog, known}
use Rattle.sq_query.specs.Table.{AreMeant}
use Rattle.sq_session.specs.Schemas.{Schemas, schemas_of}
use Rattle.sq_session.specs.Session.{Session}
use Rattle.sq_show.specs.View.{AreAdded, IsViewShown, ShowsAt, ShowsKnown, ShowsRead, rows_shown}

pub shows_read : (s : Schemas) (stored : Content) (user : Name) (place : ℕ) (old new : Bytes) (outcome : Outcome (List Row)) (done : Result (Unit {0}) AllocError)
    → ((tables : TablePlace → Outcome (List Row)) → AreMeant s.views stored user tables → tables (View place) ≡ outcome)
    → OnOk done (AreAdded (rows_shown outcome) old new) → OnOk done (ShowsRead s stored user place old new)
shows_read s stored user place old new outcome (Ok u) meant added = record { outcome = outcome; meant = meant; added = added }
shows_read s stored user place old new outcome (Err e) meant added = added

-- ---- by its name

-- a view that is known by its name
pub view_shown : (s : Session) (catalog : Catalog) (stored : Content) (user name : Name) (t : TableDesc) (v : BoundView) (old new : Bytes) (done : Result (Unit {0}) AllocError)
    → s.schemas ≡ schemas_of catalog → s.tables ≡ catalog.tables → s.state.tables ≡ stored → Some (known_by t) ≡ known catalog user name → t.user ≡ user
    → t.body ≡ body.View v → OnOk done (ShowsRead (schemas_of catalog) stored t.user v.place old new) → OnOk done (IsViewShown s user name old new)
view_shown s catalog stored user name t v old new (Err e) schemas tables state is owner is_view shown = shown
view_shown s catalog stored user name t v old new (Ok u) schemas tables state is owner is_view shown = record {
  catalog = catalog;
  schemas = sym schemas;
  tables = sym tables;
  shown =
      subst (λ (k : Option KnownTable). ShowsKnown s user k old new) is
      (subst (λ (b : TableBody). ShowsAt s user (place_of b) old new) (sym is_view)
      (subst (λ (x : Schemas). ShowsRead x s.state.tables user v.place old new) (sym schemas)
      (subst (λ (x : Content). ShowsRead (schemas_of catalog) x user v.place old new) (sym state)
      (subst (λ (x : Name). ShowsRead (schemas_of catalog) stored x v.place old new) owner shown))));
}

-- a base table, of which nothing is shown
pub base_shown : (s : Session) (catalog : Catalog) (user name : Name) (t : TableDesc) (b : BaseTable) (old : Bytes)
    → s.schemas ≡ schemas_of catalog → s.tables ≡ catalog.tables → Some (known_by t) ≡ known catalog user name → t.body ≡ body.Base b → IsViewShown s user name old old
base_shown s catalog user name t b old schemas tables is is_base = record {
  catalog = catalog;
  schemas = sym schemas;
  tables = sym tables;
  shown =
      subst (λ (k : Option KnownTable). ShowsKnown s user k old old) is
      (subst (λ (x : TableBody). ShowsAt s user (place_of x) old old) (sym is_base) refl);
}

-- a name that is not known
pub none_shown : (s : Session) (catalog : Catalog) (user name : Name) (old : Bytes)
    → s.schemas ≡ schemas_of catalog → s.tables ≡ catalog.tables → None ≡ known catalog user name → IsViewShown s user name old old
none_shown s catalog user name old schemas tables is = record {
  catalog = catalog;
  schemas = sym schemas;
  tables = sym tables;
  shown = subst (λ (k : Option KnownTable). ShowsKnown s user k old old) is refl;
}
