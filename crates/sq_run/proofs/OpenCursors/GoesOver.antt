-- After each call a session's cursors go over what is declared, rows may have numbers up to the same one,
-- and tables have the same keys (ISO/IEC 9075:1992, 4.21 and 13.2 to 13.10).
use Rattle.std.proofs.Common.{◌≡◌, ℕ, true, List}
use Rattle.sq_lex.specs.declared.name.Name.{Name}
use Rattle.sq_value.specs.declared.value.Value.{Value}
use Rattle.sq_store.specs.Keys.{Keys}
use Rattle.sq_bound.specs.declared.names.ParameterDesc.{ParameterDesc}
use Rattle.sq_bound.specs.declared.statement.BoundStatement.{BoundStatement}
use Rattle.sq_module.specs.declared.program.DeclaredCursor.{DeclaredCursor}
use Rattle.sq_session.specs.Cursors.{are_over}
use Rattle.sq_session.specs.Kind.{kind_of}
use Rattle.sq_session.specs.Schemas.{Schemas}
use Rattle.sq_session.specs.State.{State}
use Rattle.sq_session.specs.Step.{MayStep}
use Rattle.sq_session.specs.declared.reply.Done.{Done}
use Rattle.sq_session.proofs.Lasting.StaysOver.{stays_over}

module _ (ds : List DeclaredCursor) (row_numbers : ℕ) (keys : List Keys) where
  abbrev pub GoesOver : State → Type 0
  GoesOver s = (are_over ds s.cursors ≡ true) × ((s.row_numbers ≡ row_numbers) × (s.keys ≡ keys))

  pub still_over : (schemas : Schemas) (user : Name) (ps : List ParameterDesc) (s : BoundStatement) (values : List Value) (b : State) (d : Done) (a : State)
      → GoesOver b → MayStep schemas (kind_of ds user ps s) values b d a → GoesOver a
  still_over schemas user ps s values b d a has h =
      stays_over ds (λ (x : State). (x.row_numbers ≡ row_numbers) × (x.keys ≡ keys)) (λ x cs n. n) (λ x tables n. n) schemas user ps s values b d a has
      has.1 h
