-- What a script asks for can be done in its session, from the first item to the last.
use Rattle.std.proofs.Common.{◌≡◌, ℕ, ◌<◌, List, length, get_or, All, sym, subst}
use Rattle.sq_session.specs.Session.{Session}
use Rattle.sq_perform.specs.Steps.{IsPrepared}
use Rattle.sq_perform.specs.declared.action.Action.{Action}
use Rattle.sq_perform.specs.declared.action.Action.TheVariants.{Call, Show}

-- What can be done in a session can be done in it after further calls.
prepared_later : (a : Action) (s t : Session) → t.procedures ≡ s.procedures → t.tables ≡ s.tables → IsPrepared s a → IsPrepared t a
prepared_later (Call c) s t procedures tables is = rw procedures is
prepared_later (Show x) s t procedures tables is = rw tables is

pub prepared_at : (items : List Action) (i : ℕ) (a : Action) (s t : Session) → i < length items → a ≡ get_or items i a
    → t.procedures ≡ s.procedures → t.tables ≡ s.tables → All (IsPrepared s) items → IsPrepared t a
prepared_at items i a s t lt e procedures tables all = prepared_later a s t procedures tables (subst (IsPrepared s) (sym e) (all i a lt))
