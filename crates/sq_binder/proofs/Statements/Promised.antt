-- The facts about a bound condition of CHECK, view and cursor that the program relies on. They are all that is promised of the results that
-- the definitions compute.
use Rattle.std.proofs.Common.{◌≡◌, ℕ, Bool, List, [], map, Option, Some, None, Ok, Err, refl, subst}
use Rattle.std.specs.Prelude.{Result, IfOk, IfSome}
use Rattle.sq_lex.specs.declared.name.Name.{Name}
use Rattle.sq_tree.specs.declared.cond.Cond.{Cond}
use Rattle.sq_tree.specs.declared.«module».Cursor.{Cursor}
use Rattle.sq_meaning.specs.Environment.{TableName}
use Rattle.sq_meaning.specs.Spelled.{Named, cond_of}
use Rattle.sq_meaning.specs.Syntax.{Select}
use Rattle.sq_bound.specs.Fits.{FitsQuery, IsBase}
use Rattle.sq_bound.specs.Known.{KnownTables}
use Rattle.sq_bound.specs.WellFormed.{IsCond, IsSelect, IsUpdatable, TableKinds, kinds_of_columns, kinds_of_select, of_base_at, only}
use Rattle.sq_bound.specs.declared.condition.BoundCond.{BoundCond}
use Rattle.sq_bound.specs.declared.names.BaseTable.{BaseTable}
use Rattle.sq_bound.specs.declared.names.Column.{Column}
use Rattle.sq_bound.specs.declared.names.ParameterDesc.{ParameterDesc}
use Rattle.sq_bound.specs.declared.query.BoundCursor.{BoundCursor}
use Rattle.sq_bound.specs.declared.query.CursorBody.{CursorBody}
use Rattle.sq_bound.specs.declared.query.CursorBody.TheVariants as body
use Rattle.sq_bound.specs.declared.query.UpdatableQuery.{UpdatableQuery}
use Rattle.sq_binding.specs.Changeable as binding
use Rattle.sq_binding.specs.ColumnNames.{names_placed}
use Rattle.sq_binding.specs.Cursor.{cursor_bound}
use Rattle.sq_binding.specs.From.{NamedTables}
use Rattle.sq_binding.specs.PlacedQuery.{select_placed}
use Rattle.sq_binding.specs.View.{check_bound, view_bound}
use Rattle.sq_binder.specs.Binds.{Binds}
use Rattle.sq_binder.specs.Scope.{declared_of}
use Rattle.sq_binder.specs.Surroundings.{descriptor_of}
use Rattle.sq_binder.specs.declared.stop.Stop.{Stop}
use Rattle.sq_binding.specs.Names.{NamesMean, outside, tables_of}
use Rattle.sq_binding.specs.Names as known_spec
use Rattle.sq_binding.specs.SeenQuery.{BodyHasColumns, cursor_seen, table_named}
use Rattle.sq_binding.specs.There.{BodyIsThere}
use Rattle.sq_binding.specs.Written.{CondIs, IsUpdatableOf, NamesAre, SelectIs, check_placed}
use Rattle.sq_binding.proofs.WellFormed.Checks.{check_is_written, check_stands}
use Rattle.sq_binding.proofs.WellFormed.Cursors.{IsSo, cursor_is_so}
use Rattle.sq_binding.proofs.WellFormed.Views.{IsViewBound, view_fits, view_is_written, view_names, view_over, view_stands, view_updatable}
use Rattle.sq_binder.specs.Agree.{NamesAgree}
use Rattle.sq_binder.specs.Check.{BindsCheck}
use Rattle.sq_binder.specs.Cursor.{IsOver}
use Rattle.sq_binder.specs.Names.{AreOverBases, Changes, IsUnder, user_names}
use Rattle.sq_binder.specs.View.{view_seen}
use Rattle.sq_binder.specs.declared.check.CheckStop.{CheckStop}
use Rattle.sq_binder.specs.declared.view.BoundView.{BoundView}
use Rattle.sq_binder.proofs.Changes.Bases.{base_there}

-- ---- CHECK (11.9)

-- a condition of CHECK is well formed on a row of its table, and is the one that is written
pub record CheckPromised (t : TableName) (place : ℕ) (columns : List Column) (text : Cond) (c : BoundCond) : Type 0 where
  pub stands : IsCond (only place (kinds_of_columns columns)) [] (of_base_at place) [] c
  pub is_written : CondIs (check_placed t columns text) c

pub check_promised : (t : TableName) (place : ℕ) (columns : List Column) (text : Cond) (r : Result BoundCond CheckStop) → BindsCheck (check_bound t (map descriptor_of columns) (cond_of t.user text)) r
    → IfOk r (CheckPromised t place columns text)
check_promised t place columns text (Ok c) is = record { stands = check_stands t place columns text c is; is_written = check_is_written t place columns text c is }
check_promised t place columns text (Err stop) is = tt

-- ---- the names of a user

pub names_same : (known : KnownTables) (user : Name) (selects grants : TableName → Bool) (tables : NamedTables) (changes : Changes) → NamesAgree known selects grants tables changes
    → user_names user tables changes ≡ known_spec.user_names user known selects grants changes.holds
names_same known user selects grants tables changes agree = λ i. record { user = user; tables = λ t. agree.named t i; under = λ t. agree.under t i; holds = changes.holds }

some_weaker : {A : Type 0} (P Q : A → Type 0) → ((x : A) → P x → Q x) → (o : Option A) → IfSome o P → IfSome o Q
some_weaker P Q f None h = tt
some_weaker P Q f (Some x) h = f x h

module _ (bases : List BaseTable) (kinds : TableKinds) (known : KnownTables) (mean : NamesMean bases kinds known) (user : Name) (selects grants : TableName → Bool) (tables : NamedTables) (changes : Changes)
    (agree : NamesAgree known selects grants tables changes) (over : AreOverBases bases changes) where
  abbrev own : binding.UserNames
  own = user_names user tables changes

  abbrev same : own ≡ known_spec.user_names user known selects grants changes.holds
  same = names_same known user selects grants tables changes agree

  -- ---- views (11.19)

  -- It is well formed, and is the query that is written, with its columns' names. What it is over, where it is updatable, fits the base
  -- tables, is well formed, and is what the text means.
  pub record ViewPromised (q : Select Named) (view : BoundView) : Type 0 where
    pub stands : IsSelect kinds [] [] view.query
    pub is_written : SelectIs (select_placed (outside known []) q) view.query
    pub names : NamesAre (names_placed (tables_of known) q) view.query
    pub fits : IfSome view.updatable (λ o. FitsQuery bases o.1)
    pub updatable : IfSome view.updatable (λ o. IsUpdatable kinds [] (kinds_of_select view.query) o.1)
    pub is_over : IfSome view.updatable (λ o. IsUpdatableOf known [] q o.1)

  pub view_promised : (q : Select Named) (r : Result BoundView Stop) → Binds view_seen (view_bound own q) r → IfOk r (λ view. IfSome view.updatable (λ o. IsUnder changes (table_named o.0) o.1.target.leaf))
      → IfOk r (ViewPromised q)
  view_promised q (Ok view) is under =
      let bound : IsViewBound (known_spec.user_names user known selects grants changes.holds) q view.query view.updatable = record {
        view = view_seen view;
        is_bound = subst (λ (names : binding.UserNames). view_bound names q ≡ Ok (view_seen view)) same is;
        query_is = refl;
        updatable_is = refl;
      } in
      let there : IfSome view.updatable (λ o. IsBase bases o.1.target.leaf.table) =
      some_weaker (λ (o : (Name × Name) × UpdatableQuery). IsUnder changes (table_named o.0) o.1.target.leaf) (λ (o : (Name × Name) × UpdatableQuery). IsBase bases o.1.target.leaf.table)
      (λ o h. base_there bases changes over (table_named o.0) o.1.target.leaf h) view.updatable under in
      record {
        stands = view_stands bases kinds known mean user selects grants changes.holds q view.query view.updatable bound;
        is_written = view_is_written bases kinds known mean user selects grants changes.holds q view.query view.updatable bound;
        names = view_names bases kinds known mean user selects grants changes.holds q view.query view.updatable bound;
        fits = view_fits bases kinds known mean user selects grants changes.holds q view.query view.updatable bound there;
        updatable = view_updatable bases kinds known mean user selects grants changes.holds q view.query view.updatable bound there;
        is_over = view_over bases kinds known mean user selects grants changes.holds q view.query view.updatable bound there;
      }
  view_promised q (Err stop) is under = tt

  -- ---- cursors (13.1)

  body_there : (table : Option (Name × Name)) (b : CursorBody) → IsOver changes table b → BodyIsThere bases b
  body_there table (body.Rows q order) h = tt
  body_there (Some t) (body.Updatable u) h = base_there bases changes over (table_named t) u.target.leaf h
  body_there None (body.Updatable u) h = absurd h

  -- a cursor fits the base tables, is well formed, has subqueries with numbers of their own, and is the one that is written
  abbrev pub CursorPromised : List ParameterDesc → Cursor → BoundCursor → Type 0
  CursorPromised parameters c = IsSo bases kinds known user parameters c

  pub cursor_promised : (parameters : List ParameterDesc) (c : Cursor) (r : Result BoundCursor Stop) → Binds cursor_seen (cursor_bound own (map declared_of parameters) c) r → IfOk r (λ b. IsOver changes b.table b.body)
      → IfOk r (λ b. BodyHasColumns b.body) → IfOk r (CursorPromised parameters c)
  cursor_promised parameters c (Ok b) is under has =
      cursor_is_so bases kinds known mean user selects grants changes.holds parameters c b
      (subst (λ (names : binding.UserNames). cursor_bound names (map declared_of parameters) c ≡ Ok (cursor_seen b)) same is) has (body_there b.table b.body under)
  cursor_promised parameters c (Err stop) is under has = tt
