-- What calls keep (ISO/IEC 9075:1992, 4.10 and 4.28).
use Rattle.std.specs.Prelude.{◌≡◌, List}
use Rattle.sq_meaning.specs.declared.status.Status.TheVariants.{SuccessfulCompletion}
use Rattle.sq_meaning.specs.Constraints.{ConstraintsHold}
use Rattle.sq_meaning.specs.Machine.{Call, Program, State, replied, stepped}
use Rattle.sq_meaning.specs.Run.{RunItem}
use Rattle.sq_run.specs.ShownRows.{state_after}

-- After any items each declared constraint holds, of the tables as they are and as they were committed.
unfoldable pub ConstraintsAreKept : Program → Type 0
ConstraintsAreKept p =
    (items : List RunItem) →
    let s : State = state_after p items in
    ConstraintsHold p.elements s.tables × ConstraintsHold p.elements s.committed

-- In every state a call that is not successful changes no table.
unfoldable pub FailuresChangeNothing : Program → Type 0
FailuresChangeNothing p =
    (s : State) (c : Call) → ((replied p s c).status ≡ SuccessfulCompletion → ⊥)
    → (stepped p s c).tables ≡ s.tables
