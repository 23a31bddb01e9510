-- A cursor and a statement that are bound as the definitions compute them are there, are well formed, and are the ones that are written, where
-- names mean what is known (ISO/IEC 9075:1992, clause 13).
use Rattle.std.proofs.Common.{◌≡◌, ◌∙◌, ℕ, zero, suc, Bool, true, false, List, [], ◌∷◌, length, map, slice_get, Option, Some, None, IfSome, Result, Ok, Err, IfOk, refl, sym, ap, subst}
use Rattle.std.proofs.lemmas.Simd.{map-map}
use Rattle.std.specs.Map.{lookup}
use Rattle.std.specs.Option.{option_and_then, option_map}
use Rattle.sq_lex.specs.declared.name.Name.{Name}
use Rattle.sq_tree.specs.declared.module.Cursor.{Cursor}
use Rattle.sq_tree.specs.declared.statement.Statement.{Statement}
use Rattle.sq_meaning.specs.Environment.{TableName, same_name}
use Rattle.sq_meaning.specs.Privilege.{Privilege}
use Rattle.sq_bound.specs.Fits.{FitsCursor, FitsStatement, IsBase}
use Rattle.sq_bound.specs.WellFormed.{IsCursor, IsStatement, kinds_of_parameters}
use Rattle.sq_bound.specs.declared.names.BaseTable.{BaseTable}
use Rattle.sq_bound.specs.declared.names.Leaf.{Leaf}
use Rattle.sq_bound.specs.declared.names.ParameterDesc.{ParameterDesc}
use Rattle.sq_bound.specs.declared.names.TableDesc.{TableDesc}
use Rattle.sq_bound.specs.declared.query.BoundCursor.{BoundCursor}
use Rattle.sq_bound.specs.declared.query.CursorBody.{CursorBody}
use Rattle.sq_bound.specs.declared.query.CursorBody.TheVariants as body
use Rattle.sq_bound.specs.declared.statement.BoundStatement.{BoundStatement}
use Rattle.sq_binding.specs.Changeable.{UserNames}
use Rattle.sq_binding.specs.Cursor.{cursor_bound}
use Rattle.sq_binding.specs.Seen.{column_of}
use Rattle.sq_binding.specs.Statement.{statement_bound}
use Rattle.sq_binder.specs.Binds.{Binds}
use Rattle.sq_binder.specs.declared.stop.Stop.{Stop}
use Rattle.sq_binder.specs.Cursor.{IsOver}
use Rattle.sq_binder.specs.Names.{AreOverBases, Beneath, Changes}
use Rattle.sq_binding.specs.Names.{declared}
use Rattle.sq_binding.specs.SeenQuery.{BodyHasColumns, cursor_seen, statement_seen, table_named}
use Rattle.sq_binding.specs.There.{BodyIsThere, StatementIsThere}
use Rattle.sq_binding.specs.Written.{IsCursorOf, IsStatementOf}
use Rattle.sq_binding.proofs.WellFormed.Cursors as cursors_law
use Rattle.sq_binding.proofs.WellFormed.Cursors.{cursor_is_so}
use Rattle.sq_binding.proofs.WellFormed.Rows.{CursorsMean, IsKnownCursor}
use Rattle.sq_binding.proofs.WellFormed.Statements as statements_law
use Rattle.sq_binding.proofs.WellFormed.Statements.{statement_is_so}
use Rattle.sq_binding.specs.Catalog.{may}
use Rattle.sq_catalog.specs.Catalog.{Catalog, column_kinds, known}
use Rattle.sq_catalog.specs.Exact.{declared as seen, described}
use Rattle.sq_catalog.specs.Stored.{IsStored}
use Rattle.sq_catalog.specs.UserTables.{NamesStand, beneath_in, beneath_leaf, changes_by_user, names_in}
use Rattle.sq_module.specs.Named.{cursors_named, numbered_as}
use Rattle.sq_module.specs.Opened.{AreThere}
use Rattle.sq_module.specs.Program.{kinds_of_cursors}
use Rattle.sq_module.specs.declared.program.DeclaredCursor.{DeclaredCursor}
use Rattle.sq_module.proofs.Opening.{number_there}

pub if_ok : {X E : Type 0} (P Q : X → Type 0) (r : Result X E) → IfOk r P → ((x : X) → P x → Q x) → IfOk r Q
if_ok P Q (Ok x) h f = f x h
if_ok P Q (Err e) h f = tt

-- ---- what is under a cursor is there

leaf_there : (bases : List BaseTable) (leaf : Leaf) (o : Option Beneath) → IfSome o (λ b. IsBase bases b.leaf.table) → option_map (λ (b : Beneath). b.leaf) o ≡ Some leaf → IsBase bases leaf.table
leaf_there bases leaf None h is = cc
leaf_there bases leaf (Some b) h is = let same : b.leaf ≡ leaf = cc in subst (λ (l : Leaf). IsBase bases l.table) same h

body_there : (bases : List BaseTable) (changes : Changes) (table : Option (Name × Name)) (b : CursorBody) → AreOverBases bases changes → IsOver changes table b → BodyIsThere bases b
body_there bases changes table (body.Rows q order) over is = tt
body_there bases changes None (body.Updatable u) over is = absurd is
body_there bases changes (Some t) (body.Updatable u) over is = leaf_there bases u.target.leaf (changes.beneath (table_named t)) (over (table_named t)) is

-- ---- the cursors that the names in a module mean

kinds_at : (cursors : List DeclaredCursor) (n : ℕ) (d : DeclaredCursor) → slice_get cursors n ≡ Some d → slice_get (kinds_of_cursors cursors) n ≡ Some (map (λ k. k.kind) (map column_of d.cursor.columns))
kinds_at [] n d at = cc
kinds_at (c ∷ cursors) zero d at =
    let same : c ≡ d = cc in ap (λ (x : DeclaredCursor). Some (map (λ k. k.kind) x.cursor.columns)) same ∙ ap Some (sym (map-map (λ k. k.kind) column_of d.cursor.columns))
kinds_at (c ∷ cursors) (suc n) d at = kinds_at cursors n d at

module _ (cursors : List DeclaredCursor) (numbers : List (Name × ℕ)) (there : AreThere (length cursors) numbers) where
  abbrev IsNumber : Name → ℕ → Type 0
  IsNumber name n = lookup (same_name name) numbers ≡ Some n

  names_mean : CursorsMean IsNumber (length cursors) (kinds_of_cursors cursors) (cursors_named cursors numbers)
  names_mean name = by_number (lookup (same_name name) numbers) refl
    where
      by_cursor : (n : ℕ) → lookup (same_name name) numbers ≡ Some n → (o : Option DeclaredCursor) → slice_get cursors n ≡ o
          → IfSome (option_map (numbered_as n) o) (IsKnownCursor IsNumber (length cursors) (kinds_of_cursors cursors) name)
      by_cursor n found None at = tt
      by_cursor n found (Some d) at = record { is_number = found; is_there = number_there (length cursors) numbers name n there found; columns = kinds_at cursors n d at }

      by_number : (o : Option ℕ) → lookup (same_name name) numbers ≡ o
          → IfSome (option_and_then (λ n. option_map (numbered_as n) (slice_get cursors n)) o) (IsKnownCursor IsNumber (length cursors) (kinds_of_cursors cursors) name)
      by_number None found = tt
      by_number (Some n) found = by_cursor n found (slice_get cursors n) refl

-- ---- what is bound, where a catalog has the tables

-- each table that may be changed is over a base table
pub over_bases : (catalog : Catalog) (user : Name) → NamesStand catalog → AreOverBases catalog.bases (changes_by_user catalog user)
over_bases catalog user stand t = by (described catalog t) (stand.stored t)
  where
    by_leaf : (d : TableDesc) (o : Option Leaf) → IfSome o (λ l. IsBase catalog.bases l.table) → IfSome (option_map (beneath_leaf d) o) (λ b. IsBase catalog.bases b.leaf.table)
    by_leaf d None h = tt
    by_leaf d (Some l) h = h

    by : (o : Option TableDesc) → IfSome o (IsStored catalog.bases) → IfSome (option_and_then beneath_in o) (λ b. IsBase catalog.bases b.leaf.table)
    by None h = tt
    by (Some d) h = by_leaf d d.leaf h.over

module _ (catalog : Catalog) (user : Name) (stand : NamesStand catalog) (parameters : List ParameterDesc) where
  abbrev names : UserNames
  names = names_in catalog user

  abbrev holds : Bool → TableName → Privilege → Bool
  holds grantable = may (seen catalog) grantable user

  abbrev selects : Bool → TableName → Bool
  selects grantable t = holds grantable t Privilege.select

  module _ (c : Cursor) (r : Result BoundCursor Stop) (binds : Binds cursor_seen (cursor_bound names (declared parameters) c) r) (under : IfOk r (λ b. IsOver (changes_by_user catalog user) b.table b.body))
      (columns : IfOk r (λ b. BodyHasColumns b.body)) where
    cursor_so : IfOk r (cursors_law.IsSo catalog.bases (column_kinds catalog) (known catalog) user parameters c)
    cursor_so = by r binds under columns
      where
        by : (r : Result BoundCursor Stop) → Binds cursor_seen (cursor_bound names (declared parameters) c) r → IfOk r (λ b. IsOver (changes_by_user catalog user) b.table b.body)
            → IfOk r (λ b. BodyHasColumns b.body) → IfOk r (cursors_law.IsSo catalog.bases (column_kinds catalog) (known catalog) user parameters c)
        by (Ok b) binds under has =
            cursor_is_so catalog.bases (column_kinds catalog) (known catalog) stand.there user (selects false) (selects true) (holds false) parameters c b
            (ap (λ n. cursor_bound n (declared parameters) c) (sym (stand.are_known user)) ∙ binds) has (body_there catalog.bases (changes_by_user catalog user) b.table b.body (over_bases catalog user stand) under)
        by (Err stop) binds under has = tt

    pub cursor_fits : IfOk r (FitsCursor catalog.bases)
    cursor_fits = if_ok _ (FitsCursor catalog.bases) r cursor_so (λ b so. so.fits)

    pub cursor_stands : IfOk r (IsCursor (column_kinds catalog) (kinds_of_parameters parameters))
    cursor_stands = if_ok _ (IsCursor (column_kinds catalog) (kinds_of_parameters parameters)) r cursor_so (λ b so. so.stands)

    pub cursor_written : IfOk r (IsCursorOf (known catalog) user parameters c)
    cursor_written = if_ok _ (IsCursorOf (known catalog) user parameters c) r cursor_so (λ b so. so.is_written)

  module _ (cursors : List DeclaredCursor) (numbers : List (Name × ℕ)) (there : AreThere (length cursors) numbers) (s : Statement) (r : Result BoundStatement Stop)
      (binds : Binds statement_seen (statement_bound names (declared parameters) (cursors_named cursors numbers) s) r) (is : IfOk r (StatementIsThere catalog.bases)) where
    abbrev Has : Name → ℕ → Type 0
    Has = IsNumber cursors numbers there

    statement_so : IfOk r (statements_law.IsSo catalog.bases (column_kinds catalog) (known catalog) Has (length cursors) (kinds_of_cursors cursors) user parameters s)
    statement_so = by r binds is
      where
        by : (r : Result BoundStatement Stop) → Binds statement_seen (statement_bound names (declared parameters) (cursors_named cursors numbers) s) r → IfOk r (StatementIsThere catalog.bases)
            → IfOk r (statements_law.IsSo catalog.bases (column_kinds catalog) (known catalog) Has (length cursors) (kinds_of_cursors cursors) user parameters s)
        by (Ok b) binds is =
            statement_is_so catalog.bases (column_kinds catalog) (known catalog) stand.there user (selects false) (selects true) (holds false) parameters Has (length cursors) (kinds_of_cursors cursors)
            (cursors_named cursors numbers) (names_mean cursors numbers there) s b (ap (λ n. statement_bound n (declared parameters) (cursors_named cursors numbers) s) (sym (stand.are_known user)) ∙ binds) is
        by (Err stop) binds is = tt

    pub statement_fits : IfOk r (FitsStatement catalog.bases (length cursors) (length parameters))
    statement_fits = if_ok _ (FitsStatement catalog.bases (length cursors) (length parameters)) r statement_so (λ b so. so.fits)

    pub statement_stands : IfOk r (IsStatement (column_kinds catalog) (kinds_of_cursors cursors) (kinds_of_parameters parameters))
    statement_stands = if_ok _ (IsStatement (column_kinds catalog) (kinds_of_cursors cursors) (kinds_of_parameters parameters)) r statement_so (λ b so. so.stands)

    pub statement_written : IfOk r (IsStatementOf (known catalog) (λ name n. lookup (same_name name) numbers ≡ Some n) user parameters s)
    statement_written = if_ok _ (IsStatementOf (known catalog) (λ name n. lookup (same_name name) numbers ≡ Some n) user parameters s) r statement_so (λ b so. so.is_written)
