-- After each call the session is whole.
use Rattle.std.proofs.Common.{◌≡◌, true, List, Result, Ok, Err, IfSome, OnErr, sym, subst}
use Rattle.sq_lex.specs.declared.name.Name.{Name}
use Rattle.sq_value.specs.declared.value.Value.{Value}
use Rattle.sq_store.specs.Content.{Content}
use Rattle.sq_store.specs.Keys.{Keys}
use Rattle.sq_bound.specs.Fits.{AreInDomains, holds, keys_of_bases}
use Rattle.sq_bound.specs.WellFormed.{TableKinds}
use Rattle.sq_bound.specs.declared.names.BaseTable.{BaseTable}
use Rattle.sq_bound.specs.declared.names.ParameterDesc.{ParameterDesc}
use Rattle.sq_bound.specs.declared.statement.BoundStatement.{BoundStatement}
use Rattle.sq_module.specs.declared.program.DeclaredCursor.{DeclaredCursor}
use Rattle.sq_expression.specs.declared.fault.Fault.{Fault}
use Rattle.sq_change.specs.Constraints.{constraints_hold}
use Rattle.sq_session.specs.Cursors.{AreLegal, IsLeftBy, IsWhole}
use Rattle.sq_session.specs.Kind.{kind_of}
use Rattle.sq_session.specs.Schemas.{Schemas}
use Rattle.sq_session.specs.State.{State, committed_state, rolled_back}
use Rattle.sq_session.specs.Step.{MayStep, ending}
use Rattle.sq_session.specs.declared.reply.Done.{Done}
use Rattle.sq_session.proofs.OpenCursors.Kept.{kept_after, open_kept}
use Rattle.sq_session.proofs.Lasting.StaysOver.{stays_over}

-- What is committed holds rows for the base tables, with values in the domains of their columns, that obey their constraints; and the keys
-- are those of the base tables.
record IsCommitted (bases : List BaseTable) (committed : Content) (keys : List Keys) : Type 0 where
  rows : holds bases committed ≡ true
  of_bases : keys ≡ keys_of_bases bases
  domains : AreInDomains bases committed
  constraints : constraints_hold bases committed ≡ true

-- ---- what a statement leaves

-- Tables that are as they were are legal.
pub still_legal : (columns : TableKinds) (bases : List BaseTable) (ds : List DeclaredCursor) (b : State) (tables : Content) → IsWhole columns bases ds b → tables ≡ b.tables → AreLegal bases tables
still_legal columns bases ds b tables has same = rw same (record { rows = has.0; in_domains = has.4; constraints = has.7 })

-- A statement that is not performed leaves all as it was.
pub left_whole : (columns : TableKinds) (bases : List BaseTable) (ds : List DeclaredCursor) (s : BoundStatement) (b : State) → IsWhole columns bases ds b → IsLeftBy columns bases ds s b
left_whole columns bases ds s b has = record { tables = record { rows = has.0; in_domains = has.4; constraints = has.7 }; opened = open_kept columns ds s b.cursors has.6 }

-- After a COMMIT, and after a ROLLBACK, the tables are legal.
pub committed_legal : (columns : TableKinds) (bases : List BaseTable) (ds : List DeclaredCursor) (b a : State) → IsWhole columns bases ds b → a ≡ committed_state b → AreLegal bases a.tables
committed_legal columns bases ds b a has is = rw is (record { rows = has.0; in_domains = has.4; constraints = has.7 })

pub rolled_back_legal : (columns : TableKinds) (bases : List BaseTable) (ds : List DeclaredCursor) (b a : State) → IsWhole columns bases ds b → a ≡ rolled_back b → AreLegal bases a.tables
rolled_back_legal columns bases ds b a has is = rw is (record { rows = has.1; in_domains = has.5; constraints = has.8 })

-- ---- a session stays whole

-- a statement that is refused changes nothing
pub after : (sc : Schemas) (columns : TableKinds) (bases : List BaseTable) (ds : List DeclaredCursor) (user : Name) (ps : List ParameterDesc) (s : BoundStatement) (vs : List Value) (b : State) (r : Result Done Fault) (a : State) → IsWhole columns bases ds b
    → IsLeftBy columns bases ds s a → IfSome (ending r) (λ d. MayStep sc (kind_of ds user ps s) vs b d a) → OnErr r (a ≡ b) → IsWhole columns bases ds a
after sc columns bases ds user ps s vs b (Ok d) a has left h unchanged =
    let before : IsCommitted bases b.committed b.keys = record { rows = has.1; of_bases = has.2; domains = has.5; constraints = has.8 } in
    let now : IsCommitted bases b.tables b.keys = record { rows = has.0; of_bases = has.2; domains = has.4; constraints = has.7 } in
    let over = stays_over ds (λ (x : State). IsCommitted bases x.committed x.keys) (λ x cs c. c) (λ x tables c. c) sc user ps s vs b d a (has.3, before) now h in
    let kept : IsCommitted bases a.committed a.keys = over.1 in
    (left.tables.rows, kept.rows, kept.of_bases, over.0, left.tables.in_domains, kept.domains, kept_after columns sc ds user ps s vs b d a has.6 left.opened h, left.tables.constraints, kept.constraints)
after sc columns bases ds user ps s vs b (Err f) a has left h unchanged = subst (λ s. IsWhole columns bases ds s) (sym unchanged) has
