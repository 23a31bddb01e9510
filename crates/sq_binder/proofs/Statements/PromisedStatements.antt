-- The facts about a bound statement that the program relies on: all that is promised of the results that the definitions compute.
use Rattle.std.proofs.Common.{◌≡◌, ℕ, Bool, List, map, Ok, Err, subst}
use Rattle.std.specs.Prelude.{Result, IfOk}
use Rattle.sq_lex.specs.declared.name.Name.{Name}
use Rattle.sq_value.specs.declared.domain.Kind.{Kind}
use Rattle.sq_tree.specs.declared.statement.Statement.{Statement}
use Rattle.sq_meaning.specs.Environment.{TableName}
use Rattle.sq_bound.specs.Known.{KnownTables}
use Rattle.sq_bound.specs.WellFormed.{TableKinds}
use Rattle.sq_bound.specs.declared.names.BaseTable.{BaseTable}
use Rattle.sq_bound.specs.declared.names.ParameterDesc.{ParameterDesc}
use Rattle.sq_bound.specs.declared.statement.BoundStatement.{BoundStatement}
use Rattle.sq_binding.specs.Change.{NamedCursors}
use Rattle.sq_binding.specs.Changeable as binding
use Rattle.sq_binding.specs.From.{NamedTables}
use Rattle.sq_binding.specs.Statement.{statement_bound}
use Rattle.sq_binder.specs.Binds.{Binds}
use Rattle.sq_binder.specs.Scope.{declared_of}
use Rattle.sq_binder.specs.declared.stop.Stop.{Stop}
use Rattle.sq_binding.specs.Names.{NamesMean}
use Rattle.sq_binding.specs.SeenQuery.{statement_seen}
use Rattle.sq_binding.specs.There.{StatementIsThere}
use Rattle.sq_binding.proofs.WellFormed.Rows.{CursorsMean}
use Rattle.sq_binding.proofs.WellFormed.Statements.{IsSo, statement_is_so}
use Rattle.sq_binder.specs.Agree.{NamesAgree}
use Rattle.sq_binder.specs.Names.{AreOverBases, Changes, user_names}
use Rattle.sq_binder.proofs.Statements.Promised.{names_same}

module _ (bases : List BaseTable) (kinds : TableKinds) (known : KnownTables) (mean : NamesMean bases kinds known) (user : Name) (selects grants : TableName → Bool) (tables : NamedTables) (changes : Changes)
    (agree : NamesAgree known selects grants tables changes) (over : AreOverBases bases changes) (parameters : List ParameterDesc) (IsNumberOf : Name → ℕ → Type 0) (count : ℕ) (cursor_kinds : List (List Kind))
    (cursors : NamedCursors) (cursors_mean : CursorsMean IsNumberOf count cursor_kinds cursors) where
  -- a statement fits the base tables, the cursors and the parameters, is well formed, and is the one that is written
  abbrev pub StatementPromised : Statement → BoundStatement → Type 0
  StatementPromised = IsSo bases kinds known IsNumberOf count cursor_kinds user parameters

  pub statement_promised : (s : Statement) (r : Result BoundStatement Stop) → Binds statement_seen (statement_bound (user_names user tables changes) (map declared_of parameters) cursors s) r
      → ((bases : List BaseTable) → AreOverBases bases changes → IfOk r (StatementIsThere bases)) → IfOk r (StatementPromised s)
  statement_promised s (Ok b) is there =
      statement_is_so bases kinds known mean user selects grants changes.holds parameters IsNumberOf count cursor_kinds cursors cursors_mean s b
      (subst (λ (names : binding.UserNames). statement_bound names (map declared_of parameters) cursors s ≡ Ok (statement_seen b)) (names_same known user selects grants tables changes agree) is) (there bases over)
  statement_promised s (Err stop) is there = tt
