-- A session that texts opened, beside the machine that runs the same texts: what INSERT, UPDATE and
-- DELETE come to by place, as the session's contract says, is what they come to by name (ISO/IEC
-- 9075:1992, 13.6 to 13.10). Asked for is what the catalog says, what the tables keep between calls,
-- and what a call hands in.
use Rattle.std.proofs.Common.{◌≡◌, ℕ, true, List, length, None, Option, Some, refl, sym, ap, subst, ◌∙◌, Ok}
use Rattle.std.specs.List.{AllByRecursion, AllZip}
use Rattle.std.specs.Option.{option_and_then}
use Rattle.std.specs.Prelude.{⊤}
use Rattle.sq_lex.specs.declared.name.Name.{Name}
use Rattle.sq_tree.specs.declared.schema.SchemaText.{SchemaText}
use Rattle.sq_tree.specs.declared.statement.Delete.{Delete}
use Rattle.sq_tree.specs.declared.statement.Insert.{Insert}
use Rattle.sq_tree.specs.declared.statement.Update.{Update}
use Rattle.sq_tree.specs.declared.statement.Where.{Where}
use Rattle.sq_tree.specs.declared.statement.Where.TheVariants as rows_where
use Rattle.sq_value.specs.declared.value.Value.{Value}
use Rattle.sq_store.specs.Content.{Content, row_at, table_at}
use Rattle.sq_store.specs.Rising.{has_rising_rows}
use Rattle.sq_store.specs.declared.table.Numbered.{Numbered}
use Rattle.sq_meaning.specs.Environment.{TableName}
use Rattle.sq_meaning.specs.Spelled.{Named, cond_of, table_of}
use Rattle.sq_meaning.specs.Status.{Outcome}
use Rattle.sq_meaning.specs.Syntax.{Clause, absent, present}
use Rattle.sq_meaning.specs.Target.{Target, target_of}
use Rattle.sq_meaning.specs.Catalog.{tables_of}
use Rattle.sq_meaning.specs.SchemaRefusal.{elements_of, first_schema_refusal}
use Rattle.sq_meaning.specs.Change as by_name
use Rattle.sq_meaning.specs.Change.{Which, tables_in}
use Rattle.sq_meaning.specs.Constraints.{ConstraintsHold}
use Rattle.sq_meaning.specs.Machine.{Running, setting, surroundings}
use Rattle.sq_meaning.specs.Parameter.{inputs_of}
use Rattle.sq_bound.specs.Fits.{AreInDomains, IsBase, IsColumnOf, under as below}
use Rattle.sq_bound.specs.Known.{KnownTables, under_of}
use Rattle.sq_bound.specs.declared.names.Leaf.{Leaf}
use Rattle.sq_bound.specs.declared.query.Target.{Target as BoundTarget}
use Rattle.sq_bound.specs.declared.statement.BoundInsert.{BoundInsert}
use Rattle.sq_bound.specs.declared.statement.BoundUpdate.{BoundUpdate}
use Rattle.sq_bound.specs.declared.statement.ChangeTarget.{ChangeTarget}
use Rattle.sq_bound.specs.declared.statement.ChangeTarget.TheVariants as change
use Rattle.sq_bound.specs.declared.statement.PositionedTarget.{PositionedTarget}
use Rattle.sq_binding.specs.Names.{declared as as_declared, meant_by}
use Rattle.sq_binding.specs.Written.{IsDeleteOf, IsInsertOf, IsUpdateOf}
use Rattle.sq_catalog.specs.Declares.{Declares}
use Rattle.sq_change.specs.Made.{Seen, Shown}
use Rattle.sq_change.specs.Performed as performed
use Rattle.sq_module.specs.declared.program.DeclaredCursor.{DeclaredCursor}
use Rattle.sq_query.specs.Table.{AreMeant}
use Rattle.sq_session.specs.Kind.{Caller, updating}
use Rattle.sq_session.specs.Schemas.{Schemas, columns_of}
use Rattle.sq_session.specs.State.{State}
use Rattle.sq_session.specs.Step.{DeleteComesTo, HasTables, InsertComesTo, UpdateComesTo, on_row, seen_in}
use Rattle.sq_run.proofs.Places.Databases.{IsDatabase}
use Rattle.sq_run.proofs.Changed.InDatabase.{clause_written}
use Rattle.sq_run.proofs.Changed.Inserts.{IsSourceRight}
use Rattle.sq_run.proofs.Places.Parameters.{AreNamed}
use Rattle.sq_run.proofs.Sites.Stars.{ClauseStars}
use Rattle.sq_run.proofs.Changed.Statements.{seen_in as read_by, values_in}
use Rattle.sq_run.proofs.Changed.TargetsSet.{AreParameters}
use Rattle.sq_run.proofs.Schemas.ViewTargets.{AreUnder}
use Rattle.sq_run.proofs.Schemas.DeclaredChanges.{are_under, delete_agrees, delete_at_agrees, insert_agrees, update_agrees, update_at_agrees}
use Rattle.sq_run.proofs.Schemas.DeclaredStatements.{declared_database, place_is}
use Rattle.sq_run.proofs.Schemas.DeclaredView.{HasKindsOf}
use Rattle.sq_run.proofs.Steps.SameStates.{SameStates}

-- ---- what is asked for

-- The definitions refuse none of the schema texts, and the catalog declares what they declare, with the
-- right kinds of views' columns.
pub record AreOf (texts : List SchemaText) (known : KnownTables) (schemas : Schemas) : Type 0 where
  pub accepted : first_schema_refusal texts ≡ None
  pub declares : Declares texts known schemas.bases schemas.views
  pub kinds : AllZip (HasKindsOf (columns_of schemas)) declares.seen schemas.views

-- Between calls there is a table for each base table, in which all constraints hold, every value is in its
-- column's domain, and numbers of rows rise; and the views have rows for each user.
pub record AreKept (texts : List SchemaText) (schemas : Schemas) (s : State) : Type 0 where
  pub count : length s.tables ≡ length schemas.bases
  pub hold : ConstraintsHold (elements_of texts) s.tables
  pub in_domains : AreInDomains schemas.bases s.tables
  pub rising : (place : ℕ) → has_rising_rows (table_at s.tables place) ≡ true
  pub shown : HasTables schemas s.tables

-- The machine runs the same texts in the same state, for the same caller, who hands in the same values.
pub record IsCalledAs (texts : List SchemaText) (declared : List DeclaredCursor) (caller : Caller) (values : List Value) (s : State)
    (r : Running) : Type 0 where
  pub same : SameStates declared s r.state
  pub elements : r.program.elements ≡ elements_of texts
  pub row_numbers : r.program.row_numbers ≡ s.row_numbers
  pub user : r.in_module.authorization ≡ caller.user
  pub names : AreNamed caller.parameters (inputs_of r.parameters)
  pub given : values ≡ values_in (setting r)
  pub parameters : AreParameters caller.parameters r.parameters
  pub declared_as : (surroundings r).parameters ≡ as_declared caller.parameters

-- `*` stands in no grouped query of a search condition
abbrev pub WhereStars : Name → Option Where → Type 0
WhereStars user None = ⊤
WhereStars user (Some (rows_where.Condition c)) = ClauseStars (present (cond_of user c))
WhereStars user (Some (rows_where.CurrentOf cursor)) = ⊤

-- the definitions find a table that may be changed under the name
abbrev pub IsNamed : List SchemaText → TableName → Target → Type 0
IsNamed texts name target = target_of (tables_of (elements_of texts)) name ≡ Ok target

-- the rows that a search condition keeps
abbrev pub searched_by : Name → Option Where → Which
searched_by user None = Which.searched absent
searched_by user (Some (rows_where.Condition c)) = Which.searched (present (cond_of user c))
searched_by user (Some (rows_where.CurrentOf cursor)) = Which.searched absent

module _ (texts : List SchemaText) (known : KnownTables) (schemas : Schemas) (of : AreOf texts known schemas)
    (declared : List DeclaredCursor) (caller : Caller) (values : List Value) (s : State) (r : Running) (kept : AreKept texts schemas s)
    (call : IsCalledAs texts declared caller values s r) where
  -- ---- what the machine reads

  abbrev user : Name
  user = r.in_module.authorization

  -- the rows of each table and view
  abbrev pub shown_here : Shown
  shown_here = (kept.shown caller.user).0

  meant_here : AreMeant schemas.views r.state.tables user shown_here
  meant_here =
      subst (λ c. AreMeant schemas.views c user shown_here) (sym call.same.tables)
      (subst (λ u. AreMeant schemas.views s.tables u shown_here) (sym call.user) (kept.shown caller.user).1)

  count_here : length r.state.tables ≡ length schemas.bases
  count_here = ap (λ (c : Content). length c) call.same.tables ∙ kept.count

  hold_here : ConstraintsHold (elements_of texts) r.state.tables
  hold_here = subst (ConstraintsHold (elements_of texts)) (sym call.same.tables) kept.hold

  abbrev here : by_name.Setting
  here = record {
    elements = elements_of texts;
    row_numbers = r.program.row_numbers;
    content = r.state.tables;
    inputs = inputs_of r.parameters;
    user = user;
  }

  setting_is : here ≡ setting r
  setting_is = λ i. record {
    elements = sym call.elements i;
    row_numbers = r.program.row_numbers;
    content = r.state.tables;
    inputs = inputs_of r.parameters;
    user = user;
  }

  -- what a statement reads by place, in the session and here
  abbrev seen_is : Seen
  seen_is = seen_in schemas caller values s.tables

  abbrev seen_here : Seen
  seen_here = read_by here schemas.views

  seen_same : seen_here ≡ seen_is
  seen_same = λ k. record { views = schemas.views; tables = call.same.tables k; user = call.user k; values = sym call.given k }

  -- a database in two readings
  database_here : IsDatabase (tables_in here) r.state.tables user known (columns_of schemas) schemas.views shown_here
  database_here =
      declared_database texts known schemas.bases schemas.views of.declares of.accepted of.kinds r.program.row_numbers r.state.tables
      (inputs_of r.parameters) user shown_here meant_here count_here hold_here

  under_here : AreUnder known schemas.bases (tables_in here)
  under_here =
      are_under texts known schemas.bases schemas.views of.declares of.accepted of.kinds r.program.row_numbers r.state.tables
      (inputs_of r.parameters) user shown_here meant_here count_here hold_here

  pub database : IsDatabase (tables_in (setting r)) r.state.tables user known (columns_of schemas) schemas.views shown_here
  database = subst (λ (m : by_name.Setting). IsDatabase (tables_in m) r.state.tables user known (columns_of schemas) schemas.views shown_here) setting_is database_here

  pub under : AreUnder known schemas.bases (tables_in (setting r))
  under = subst (λ (m : by_name.Setting). AreUnder known schemas.bases (tables_in m)) setting_is under_here

  pub base_place : (name : TableName) (leaf : Leaf) (target : Target) → IsNamed texts name target
      → option_and_then (λ k. k.under) (meant_by known name) ≡ Some (under_of leaf) → IsBase schemas.bases leaf.table
      → target.place ≡ leaf.table.place
  base_place =
      place_is texts known schemas.bases schemas.views of.declares of.accepted of.kinds r.program.row_numbers r.state.tables
      (inputs_of r.parameters) user shown_here meant_here count_here hold_here

  -- ---- INSERT (13.8)

  pub insert_alike : (i : Insert) (x : BoundInsert) → IsInsertOf known caller.parameters user i x
      → IsBase schemas.bases x.leaf.table → AllByRecursion (IsColumnOf x.leaf.table) x.columns
      → (target : Target) → IsNamed texts (table_of user i.table) target → IsSourceRight user i.source
      → (done : Outcome Content) → InsertComesTo schemas caller values x s done → done ≡ by_name.insert_outcome (setting r) i
  insert_alike i x is base columns target means right done comes =
      comes shown_here (kept.shown caller.user).1
      ∙ sym (λ k. performed.insert_outcome shown_here (seen_same k) schemas.bases (call.row_numbers k) x)
      ∙ sym (insert_agrees texts known schemas.bases schemas.views of.declares of.accepted of.kinds r.program.row_numbers r.state.tables
      (inputs_of r.parameters) user shown_here meant_here count_here hold_here caller.parameters call.names i x is base columns target means right)
      ∙ ap (λ (m : by_name.Setting). by_name.insert_outcome m i) setting_is

  -- ---- the rows of a search condition

  abbrev clause_here : Option Where → Clause Named
  clause_here = clause_written here known (columns_of schemas) schemas.views shown_here database_here schemas.bases under_here caller.parameters call.names

  clause_is : (w : Option Where) → Which.searched (clause_here w) ≡ searched_by user w
  clause_is None = refl
  clause_is (Some (rows_where.Condition c)) = refl
  clause_is (Some (rows_where.CurrentOf cursor)) = refl

  stars_here : (w : Option Where) → WhereStars user w → ClauseStars (clause_here w)
  stars_here None stars = tt
  stars_here (Some (rows_where.Condition c)) stars = stars
  stars_here (Some (rows_where.CurrentOf cursor)) stars = tt

  -- ---- the row that a cursor is on

  row_here : (target : Target) (p : PositionedTarget) → target.place ≡ p.leaf.table.place → (n : ℕ) (row : Numbered)
      → row_at (table_at s.tables p.base) n ≡ Some row → row_at (table_at r.state.tables target.place) n ≡ Some row
  row_here target p place n row there =
      (λ k. row_at (table_at (call.same.tables k) ((place ∙ sym p.is_under) k)) n) ∙ there

  -- ---- DELETE (13.6 and 13.7)

  module _ (IsNumberOf : Name → ℕ → Type 0) (x : Delete) (target : Target) (means : IsNamed texts (table_of user x.table) target) where
    delete_is : (t : ChangeTarget) (on : Option ℕ)
        → performed.delete_outcome shown_here seen_is schemas.bases t on
        ≡ performed.delete_outcome shown_here seen_here schemas.bases t on
    delete_is t on = sym (λ k. performed.delete_outcome shown_here (seen_same k) schemas.bases t on)

    pub delete_alike : (t : BoundTarget) → IsDeleteOf IsNumberOf known caller.parameters user x (change.Searched t)
        → IsBase schemas.bases t.leaf.table → WhereStars user x.target → (done : Outcome Content)
        → DeleteComesTo schemas caller values (change.Searched t) None s.tables done
        → done ≡ by_name.delete_outcome (setting r) x (searched_by user x.target)
    delete_alike t is base stars done comes =
        comes shown_here (kept.shown caller.user).1
        ∙ delete_is (change.Searched t) None
        ∙ sym (delete_agrees texts known schemas.bases schemas.views of.declares of.accepted of.kinds r.program.row_numbers r.state.tables
        (inputs_of r.parameters) user shown_here meant_here count_here hold_here caller.parameters call.names IsNumberOf x t None is base target means (stars_here x.target stars))
        ∙ (λ k. by_name.delete_outcome (setting_is k) x (clause_is x.target k))

    pub delete_at_alike : (p : PositionedTarget) → IsDeleteOf IsNumberOf known caller.parameters user x (change.Positioned p)
        → IsBase schemas.bases p.leaf.table → (n : ℕ) (row : Numbered) → row_at (table_at s.tables p.base) n ≡ Some row
        → on_row s p ≡ Some n → (done : Outcome Content)
        → DeleteComesTo schemas caller values (change.Positioned p) (on_row s p) s.tables done
        → done ≡ by_name.delete_outcome (setting r) x (Which.numbered n)
    delete_at_alike p is base n row there on done comes =
        comes shown_here (kept.shown caller.user).1
        ∙ ap (performed.delete_outcome shown_here seen_is schemas.bases (change.Positioned p)) on
        ∙ delete_is (change.Positioned p) (Some n)
        ∙ sym (delete_at_agrees texts known schemas.bases schemas.views of.declares of.accepted of.kinds r.program.row_numbers r.state.tables
        (inputs_of r.parameters) user shown_here meant_here count_here hold_here caller.parameters call.names IsNumberOf x p is base target means n row
        (row_here target p (base_place (table_of user x.table) p.leaf target means is.is_under base) n row there))
        ∙ ap (λ (m : by_name.Setting). by_name.delete_outcome m x (Which.numbered n)) setting_is

  -- ---- UPDATE (13.9 and 13.10)

  module _ (IsNumberOf : Name → ℕ → Type 0) (u : Update) (bound : BoundUpdate)
      (is : IsUpdateOf IsNumberOf known caller.parameters user u bound) (target : Target)
      (means : IsNamed texts (table_of user u.table) target) where
    update_is : (on : Option ℕ)
        → performed.update_outcome shown_here seen_is schemas.bases bound on
        ≡ performed.update_outcome shown_here seen_here schemas.bases bound on
    update_is on = sym (λ k. performed.update_outcome shown_here (seen_same k) schemas.bases bound on)

    rises : has_rising_rows (table_at r.state.tables target.place) ≡ true
    rises = ap (λ (c : Content). has_rising_rows (table_at c target.place)) call.same.tables ∙ kept.rising target.place

    pub update_alike : (t : BoundTarget) → bound.target ≡ change.Searched t → IsBase schemas.bases t.leaf.table
        → AllByRecursion (λ a. IsColumnOf t.leaf.table a.column) bound.assignments → WhereStars user u.target → (done : Outcome Content)
        → UpdateComesTo schemas (updating declared caller bound) values None s.tables done
        → done ≡ by_name.update_outcome (setting r) u (searched_by user u.target)
    update_alike t is_searched base columns stars done comes =
        comes shown_here (kept.shown caller.user).1
        ∙ update_is None
        ∙ sym (update_agrees texts known schemas.bases schemas.views of.declares of.accepted of.kinds r.program.row_numbers r.state.tables
        (inputs_of r.parameters) user shown_here meant_here count_here hold_here caller.parameters call.names IsNumberOf u bound is target means rises t None is_searched base columns (stars_here u.target stars))
        ∙ (λ k. by_name.update_outcome (setting_is k) u (clause_is u.target k))

    pub update_at_alike : (p : PositionedTarget) → bound.target ≡ change.Positioned p → IsBase schemas.bases p.leaf.table
        → AllByRecursion (λ a. IsColumnOf p.leaf.table a.column) bound.assignments → (n : ℕ) (row : Numbered)
        → row_at (table_at s.tables p.base) n ≡ Some row → on_row s p ≡ Some n → (done : Outcome Content)
        → UpdateComesTo schemas (updating declared caller bound) values (on_row s p) s.tables done
        → done ≡ by_name.update_outcome (setting r) u (Which.numbered n)
    update_at_alike p is_positioned base columns n row there on done comes =
        comes shown_here (kept.shown caller.user).1
        ∙ ap (performed.update_outcome shown_here seen_is schemas.bases bound) on
        ∙ update_is (Some n)
        ∙ sym (update_at_agrees texts known schemas.bases schemas.views of.declares of.accepted of.kinds r.program.row_numbers r.state.tables
        (inputs_of r.parameters) user shown_here meant_here count_here hold_here caller.parameters call.names IsNumberOf u bound is target means rises p is_positioned base columns n row
        (row_here target p (base_place (table_of user u.table) p.leaf target means
        (subst (λ t. option_and_then (λ k. k.under) (meant_by known (table_of user u.table)) ≡ Some (under_of (below t))) is_positioned is.is_under) base) n row there))
        ∙ ap (λ (m : by_name.Setting). by_name.update_outcome m u (Which.numbered n)) setting_is
