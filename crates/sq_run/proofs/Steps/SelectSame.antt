-- SELECT INTO sets the same targets by its names and by its places, and ends with the same status
-- (ISO/IEC 9075:1992, 13.5).
use Rattle.std.proofs.Common.{◌≡◌, List, refl, sym, ap, subst, ◌∙◌, Ok, Err}
use Rattle.sq_tree.specs.declared.statement.Select.{Select as SelectStatement}
use Rattle.sq_value.specs.declared.value.Value.{Value}
use Rattle.sq_meaning.specs.Environment.{Row, outermost}
use Rattle.sq_meaning.specs.Placed.{by_place}
use Rattle.sq_meaning.specs.Query.{rows}
use Rattle.sq_meaning.specs.Spelled.{listed}
use Rattle.sq_meaning.specs.Status.{Outcome, and_then}
use Rattle.sq_meaning.specs.WellFormed.{IsNoSyntaxError}
use Rattle.sq_meaning.specs.WellFormedStatement.{select_of_statement}
use Rattle.sq_meaning.specs.Change.{tables_in}
use Rattle.sq_meaning.specs.Machine.{Running, select_into, select_reply, selected_row, setting, single_row}
use Rattle.sq_bound.specs.Condition.{select_of}
use Rattle.sq_bound.specs.Known.{KnownTables}
use Rattle.sq_bound.specs.declared.condition.TablePlace.{TablePlace}
use Rattle.sq_bound.specs.declared.names.ParameterDesc.{ParameterDesc}
use Rattle.sq_bound.specs.declared.statement.BoundSelect.{BoundSelect}
use Rattle.sq_binding.specs.Written.{IsSelectOf}
use Rattle.sq_expression.specs.Frame.{inputs_of}
use Rattle.sq_module.specs.declared.program.DeclaredCursor.{DeclaredCursor}
use Rattle.sq_query.specs.Table.{AreMeant}
use Rattle.sq_session.specs.Kind.{selecting}
use Rattle.sq_session.specs.Schemas.{Schemas, columns_of}
use Rattle.sq_session.specs.State.{State}
use Rattle.sq_session.specs.Step.{EndsRight, Selects, ended_by}
use Rattle.sq_session.specs.Target.{row_reply, row_set}
use Rattle.sq_session.specs.declared.reply.Done.{Done}
use Rattle.sq_run.proofs.Places.Databases.{IsDatabase}
use Rattle.sq_run.proofs.Places.Parameters.{AreNamed}
use Rattle.sq_run.proofs.Changed.Retrieved.{selected_row_same}
use Rattle.sq_run.proofs.Sites.Stars.{SelectStars}
use Rattle.sq_run.proofs.Changed.Statements.{values_in}
use Rattle.sq_run.proofs.Changed.TargetsSet.{AreApart, AreParameters}
use Rattle.sq_run.proofs.OpenCursors.FetchSame.{reply_fails}
use Rattle.sq_run.proofs.Changed.RepliesAlike.{row_alike}
use Rattle.sq_run.proofs.Steps.SameStates.{SameReply, SameStates, ended_same}

module _ (r : Running) (known : KnownTables) (schemas : Schemas) (shown : TablePlace → Outcome (List Row))
    (database : IsDatabase (tables_in (setting r)) r.state.tables r.in_module.authorization known (columns_of schemas) schemas.views shown)
    (parameters : List ParameterDesc) (names : AreNamed parameters (setting r).inputs) (values : List Value)
    (given : values ≡ values_in (setting r)) (are : AreParameters parameters r.parameters) (apart : AreApart parameters)
    (declared : List DeclaredCursor) (s : State) (same : SameStates declared s r.state)
    (meant : AreMeant schemas.views s.tables r.in_module.authorization shown) (text : SelectStatement) (x : BoundSelect)
    (stars : SelectStars (select_of_statement r.in_module.authorization text))
    (is : IsSelectOf known parameters r.in_module.authorization text x) where
  reply_alike : (o : Outcome Row) (d : Done) → EndsRight d → d ≡ ended_by (and_then o (row_reply parameters x.outputs))
      → SameReply d (select_reply r text o)
  reply_alike (Err st) d right e = ended_same d st e
  reply_alike (Ok row) d right e = by_reply (row_reply parameters x.outputs row) refl e
    where
      by_reply : (reply : Outcome Done) → row_reply parameters x.outputs row ≡ reply → d ≡ ended_by reply
          → SameReply d (select_reply r text (Ok row))
      by_reply (Ok a) h e =
          subst (λ y. SameReply y (select_reply r text (Ok row))) (sym e)
          (row_alike parameters r.parameters are apart x.outputs (listed text.targets) row a is.targets h)
      by_reply (Err st) h e =
          absurd (reply_fails parameters (row_set parameters x.outputs row) st h (subst (λ (y : Done). IsNoSyntaxError y.status) e right))

  -- It changes nothing, and has the same reply.
  pub select_same : (d : Done) (after : State) → EndsRight d
      → (after ≡ s) × Selects schemas (selecting r.in_module.authorization parameters x) values s.tables d
      → SameStates declared after (select_into r text).0 × SameReply d (select_into r text).1
  select_same d after right h = (
    subst (λ y. SameStates declared y r.state) (sym h.0) same,
    subst (λ o. SameReply d (select_reply r text o)) (sym row_is) (reply_alike (and_then h.1.found single_row) d right h.1.ends),
  )
    where
      row_is : selected_row r text ≡ and_then h.1.found single_row
      row_is =
          selected_row_same r known (columns_of schemas) schemas.views shown database parameters names text x stars is
          ∙ ap (λ vs. and_then (rows (by_place shown) (select_of x.query) (outermost (inputs_of vs) r.in_module.authorization)) single_row) (sym given)
          ∙ ap (λ o. and_then o single_row) (sym (h.1.meant shown meant))
