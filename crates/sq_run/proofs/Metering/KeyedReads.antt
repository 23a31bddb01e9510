-- A call whose statement, as the definition reads its text, is a searched UPDATE or DELETE by a key reads
-- one row at most to choose the row that it changes (own rule; ISO/IEC 9075:1992, 13.7 and 13.10).
use Rattle.std.proofs.Common.{◌≡◌, ℕ, ◌≤◌, true, List, Option, Some, None, refl, sym, subst}
use Rattle.std.specs.Option.{option_and_then}
use Rattle.std.specs.Prelude.{⊤}
use Rattle.sq_lex.specs.declared.name.Name.{Name}
use Rattle.sq_tree.specs.declared.cond.Cond.{Cond}
use Rattle.sq_tree.specs.declared.schema.SchemaText.{SchemaText}
use Rattle.sq_tree.specs.declared.statement.Statement.{Statement}
use Rattle.sq_tree.specs.declared.statement.Statement.TheVariants as tree
use Rattle.sq_tree.specs.declared.statement.Where.{Where}
use Rattle.sq_tree.specs.declared.statement.Where.TheVariants as rows_where
use Rattle.sq_value.specs.declared.domain.Kind.{Kind}
use Rattle.sq_value.specs.declared.value.Value.{Value}
use Rattle.sq_meaning.specs.Environment.{Input, TableName}
use Rattle.sq_meaning.specs.Spelled.{table_of}
use Rattle.sq_meaning.specs.Status.{Outcome}
use Rattle.sq_meaning.specs.WellFormed.{IsRowOf}
use Rattle.sq_meaning.specs.Keyed.{is_keyed_statement, is_keyed_where}
use Rattle.sq_meaning.specs.SchemaRefusal.{elements_of, first_schema_refusal}
use Rattle.sq_bound.specs.Condition.{PlacedClause}
use Rattle.sq_bound.specs.Fits.{IsBase, under}
use Rattle.sq_bound.specs.Known.{KnownTables, under_of}
use Rattle.sq_bound.specs.WellFormed.{IsTarget}
use Rattle.sq_bound.specs.declared.names.ParameterDesc.{ParameterDesc}
use Rattle.sq_bound.specs.declared.query.Target.{Target as BoundTarget}
use Rattle.sq_bound.specs.declared.statement.BoundStatement.{BoundStatement}
use Rattle.sq_bound.specs.declared.statement.BoundStatement.TheVariants as statement
use Rattle.sq_bound.specs.declared.statement.BoundUpdate.{BoundUpdate}
use Rattle.sq_bound.specs.declared.statement.ChangeTarget.{ChangeTarget}
use Rattle.sq_bound.specs.declared.statement.ChangeTarget.TheVariants as change
use Rattle.sq_bound.specs.declared.statement.PositionedTarget.{PositionedTarget}
use Rattle.sq_binding.specs.Names.{meant_by}
use Rattle.sq_binding.specs.Written.{IsStatementOf, IsTargetOf, filter_placed}
use Rattle.sq_catalog.specs.Declares.{Declares}
use Rattle.sq_module.specs.declared.program.DeclaredCursor.{DeclaredCursor}
use Rattle.sq_expression.specs.Frame.{inputs_of}
use Rattle.sq_query.specs.Keyed.{IsKeyedChange}
use Rattle.sq_session.specs.Kind.{caller_of, delete_kind, kind_of, update_kind, updating}
use Rattle.sq_session.specs.Metered.{CallReads}
use Rattle.sq_session.specs.Parameter.{started_values}
use Rattle.sq_session.specs.Schemas.{Schemas, columns_of}
use Rattle.sq_session.specs.State.{State}
use Rattle.sq_run.proofs.Places.Parameters.{SameInputs}
use Rattle.sq_run.proofs.Metering.KeyedTargets.{keyed_where}

-- A procedure with these parameters, over schemas that the definitions do not refuse, is called with these
-- values, so that its statement reads these inputs.
module _ (texts : List SchemaText) (known : KnownTables) (schemas : Schemas) (declares : Declares texts known schemas.bases schemas.views)
    (accepted : first_schema_refusal texts ≡ None)
    (declared : List DeclaredCursor) (user : Name) (ps : List ParameterDesc) (handed : List Value) (inputs : List Input)
    (same_inputs : SameInputs ps inputs (inputs_of (started_values ps handed))) (kinds : List Kind)
    (given : IsRowOf kinds (started_values ps handed)) (IsNumberOf : Name → ℕ → Type 0) where
  -- what binding gives of a target beside its text: it is well formed, and over a base table of the catalog
  pub record IsBoundTarget (x : BoundTarget) : Type 0 where
    pub is_base : IsBase schemas.bases x.leaf.table
    pub well : IsTarget (columns_of schemas) kinds x

  abbrev pub IsBoundChange : ChangeTarget → Type 0
  IsBoundChange (change.Searched x) = IsBoundTarget x
  IsBoundChange (change.Positioned p) = ⊤

  abbrev pub IsBoundSo : BoundStatement → Type 0
  IsBoundSo (statement.Update y) = IsBoundChange y.target
  IsBoundSo (statement.Delete t) = IsBoundChange t
  IsBoundSo _ = ⊤

  -- the row of a cursor is not searched
  not_positioned : (filter : Cond → Outcome PlacedClause) (name : TableName) (w : Option Where) (p : PositionedTarget)
      → IsTargetOf IsNumberOf filter w (change.Positioned p) → is_keyed_where (elements_of texts) user inputs name w ≡ true → ⊥
  not_positioned filter name None p is keyed = absurd is
  not_positioned filter name (Some (rows_where.Condition c)) p is keyed = absurd is
  not_positioned filter name (Some (rows_where.CurrentOf cursor)) p is keyed = cc

  change_keyed : (name : TableName) (w : Option Where) (g : ChangeTarget) → IsBoundChange g
      → option_and_then (λ k. k.under) (meant_by known name) ≡ Some (under_of (under g))
      → IsTargetOf IsNumberOf (filter_placed known ps user name) w g
      → is_keyed_where (elements_of texts) user inputs name w ≡ true → IsKeyedChange g (started_values ps handed) user
  change_keyed name w (change.Positioned p) so is_under is keyed =
      absurd (not_positioned (filter_placed known ps user name) name w p is keyed)
  change_keyed name w (change.Searched x) so is_under is keyed =
      keyed_where texts known schemas.bases schemas.views declares accepted ps inputs (started_values ps handed) user same_inputs
      (columns_of schemas) kinds given x so.well so.is_base name is_under IsNumberOf w is keyed

  module _ (before : State) (count : ℕ) where
    update_reads : (y : BoundUpdate) (g : ChangeTarget) → y.target ≡ g → IsKeyedChange g (started_values ps handed) user
        → CallReads (Some (update_kind (updating declared (caller_of user ps) y) g)) handed before count → count ≤ 1
    update_reads y (change.Searched x) is keyed reads =
        reads (subst (λ g. IsKeyedChange g (started_values ps handed) user) (sym is) keyed)
    update_reads y (change.Positioned p) is keyed reads = absurd keyed

    delete_reads : (g : ChangeTarget) → IsKeyedChange g (started_values ps handed) user
        → CallReads (Some (delete_kind (caller_of user ps) g)) handed before count → count ≤ 1
    delete_reads (change.Searched x) keyed reads = reads keyed
    delete_reads (change.Positioned p) keyed reads = absurd keyed

    -- It reads one row at most.
    pub keyed_call_reads_one : (text : Statement) (bound : BoundStatement) → IsStatementOf known IsNumberOf user ps text bound
        → IsBoundSo bound → is_keyed_statement (elements_of texts) user inputs text ≡ true
        → CallReads (Some (kind_of declared user ps bound)) handed before count → count ≤ 1
    keyed_call_reads_one (tree.Update u) (statement.Update y) is so keyed reads =
        update_reads y y.target refl (change_keyed (table_of user u.table) u.target y.target so is.is_under is.rows keyed) reads
    keyed_call_reads_one (tree.Delete x) (statement.Delete t) is so keyed reads =
        delete_reads t (change_keyed (table_of user x.table) x.target t so is.is_under is.rows keyed) reads
    keyed_call_reads_one (tree.Update u) _ is so keyed reads = absurd is
    keyed_call_reads_one (tree.Delete x) _ is so keyed reads = absurd is
    keyed_call_reads_one _ bound is so keyed reads = cc
