-- A breach of one kind is a breach.
use Rattle.std.proofs.Common.{List, Option, None, Some, IfSome}
use Rattle.sq_store.specs.Keys.{Keys}
use Rattle.sq_store.specs.declared.change.Change.{Change}
use Rattle.sq_bound.specs.declared.names.BaseTable.{BaseTable}
use Rattle.sq_change.specs.Made.{Seen}
use Rattle.sq_session.specs.Schemas.{Schemas}
use Rattle.sq_cause.specs.Breach.{IsBetween}
use Rattle.sq_cause.specs.Broken.{IsBroken, IsRowBreach}
use Rattle.sq_cause.specs.declared.cause.Breach.{Breach}
use Rattle.sq_cause.specs.declared.cause.Breach.TheVariants as breach

pub row_broken : (s : Schemas) (seen : Seen) (keys : List Keys) (t : BaseTable) (changes : List Change) (b : Breach) → IsRowBreach s seen t changes b → IsBroken s seen keys t changes b
row_broken s seen keys t changes (breach.NotNull put column) h = h
row_broken s seen keys t changes (breach.Check put check) h = h
row_broken s seen keys t changes (breach.KeyOfRow put key number) h = absurd h
row_broken s seen keys t changes (breach.KeyOfPut put key other) h = absurd h
row_broken s seen keys t changes (breach.RefersToNone put reference) h = absurd h
row_broken s seen keys t changes (breach.IsReferredTo referring) h = absurd h

between_one : (s : Schemas) (seen : Seen) (keys : List Keys) (t : BaseTable) (changes : List Change) (b : Breach) → IsBetween s.bases t keys seen.tables changes b → IsBroken s seen keys t changes b
between_one s seen keys t changes (breach.NotNull put column) h = absurd h
between_one s seen keys t changes (breach.Check put check) h = absurd h
between_one s seen keys t changes (breach.KeyOfRow put key number) h = h
between_one s seen keys t changes (breach.KeyOfPut put key other) h = h
between_one s seen keys t changes (breach.RefersToNone put reference) h = h
between_one s seen keys t changes (breach.IsReferredTo referring) h = h

pub between_broken : (s : Schemas) (seen : Seen) (keys : List Keys) (t : BaseTable) (changes : List Change) (b : Option Breach) → IfSome b (IsBetween s.bases t keys seen.tables changes) → IfSome b (IsBroken s seen keys t changes)
between_broken s seen keys t changes None h = tt
between_broken s seen keys t changes (Some b) h = between_one s seen keys t changes b h
