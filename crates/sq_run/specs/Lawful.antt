-- What holds of the table machine of accepted texts, whatever is called (ISO/IEC 9075:1992, 4.10, 4.26, 4.28 and clause 13).
use Rattle.sq_meaning.specs.Machine.{Program}
use Rattle.sq_run.specs.Asked.{OnlyListedRulesBreak}
use Rattle.sq_run.specs.Committed.{CommitAloneCommits}
use Rattle.sq_run.specs.Confined.{SelectTellsWhatMayBeRead}
use Rattle.sq_run.specs.ConfinedCursors.{CursorsTellWhatMayBeRead}
use Rattle.sq_run.specs.Defaults.{DefaultsAreNotReached}
use Rattle.sq_run.specs.Faulty.{FaultsChangeNothing}
use Rattle.sq_run.specs.Integrity.{OnlyAllowedChanges}
use Rattle.sq_run.specs.Kept.{ConstraintsAreKept, FailuresChangeNothing}
use Rattle.sq_run.specs.ShownRows.{FetchShowsRowsNow}

pub record Lawful (p : Program) : Type 0 where
  -- each declared constraint holds, whatever was called
  pub constraints : ConstraintsAreKept p
  -- a call that is not successful changes no table
  pub failures : FailuresChangeNothing p
  -- a call of a procedure with a fault answers 42000 and changes nothing
  pub faults : FaultsChangeNothing p
  -- what is committed changes by COMMIT alone
  pub committed : CommitAloneCommits p
  -- a call changes one table at most, and only as its module's user may
  pub changes : OnlyAllowedChanges p
  -- a FETCH of an updatable cursor shows a row as it is now, which met the cursor's conditions at OPEN
  pub fetched : FetchShowsRowsNow p
  -- a SELECT INTO tells nothing but what its module's user may read
  pub selected : SelectTellsWhatMayBeRead p
  -- OPEN, FETCH and CLOSE tell nothing else, but what became of rows on which a cursor was opened
  pub cursors : CursorsTellWhatMayBeRead p
  -- of each site of a statement, the rules that may find a fault there are listed
  pub rules : OnlyListedRulesBreak
  -- what the definitions write by default, for what can't be, is never reached
  pub defaults : DefaultsAreNotReached p
