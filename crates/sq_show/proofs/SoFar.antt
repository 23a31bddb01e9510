-- A trace grows action by action.
use Rattle.std.proofs.Common.{arith, ◌≡◌, ℕ, ◌+◌, ◌<◌, Bool, List, [], ◌∷◌, ◌++◌, ◌∙◌, append_assoc, ap, length, take, get_or, Option, Some, None, refl, subst, sym}
use Rattle.std.proofs.lemmas.List.{append-nil}
use Rattle.std.proofs.lemmas.Grind.{common_steps}
use Rattle.std.specs.List.{flat_map}
use Rattle.std.specs.Io.KnownBytes.{Appends}
use Rattle.sq_meaning.specs.Report.{Bytes}
use Rattle.sq_session.specs.Session.{Session}
use Rattle.sq_perform.specs.Steps.{Step, Steps}
use Rattle.sq_perform.specs.declared.action.Action.{Action}
use Rattle.sq_perform.specs.declared.action.Action.TheVariants.{Call, Show}
use Rattle.sq_perform.proofs.Steps.{appends_more, steps_more}
use Rattle.sq_show.specs.Traced.{Part, Told, Traced, left, shown}

-- what was written of the first actions
pub record SoFar (items : List Action) (done : ℕ) (start now : Session) (old new : Option Bytes) : Type 0 where
  pub parts : List Part
  pub steps : Steps (take done items) start (flat_map left parts) now
  pub taken : Appends old new (flat_map shown parts)

-- what is written of an action is a part: its lines in the report, and notes
pub record IsPart (a : Action) (s : Session) (lines : Bytes) (t : Session) : Type 0 where
  pub part : Part
  pub step : Step a s part.lines t
  pub whole : lines ≡ shown part

pub part_of : (a : Action) (s t : Session) (lines : Bytes) (failed : Bool) → Told a s lines t failed → IsPart a s lines t
part_of (Call c) s t lines failed h = record {
  part = record { lines = _; notes = h.notes };
  step = (h.reply, h.answered, refl);
  whole = h.written;
}
part_of (Show x) s t lines failed h = record {
  part = record { lines = lines; notes = [] };
  step = h.0;
  whole = sym (append-nil lines);
}

flat_more : (f : Part → Bytes) (parts : List Part) (p : Part) → flat_map f (parts ++ p ∷ []) ≡ flat_map f parts ++ f p
flat_more f [] p = append-nil (f p)
flat_more f (q ∷ parts) p = ap (λ w. f q ++ w) (flat_more f parts p) ∙ sym (append_assoc (f q) (flat_map f parts) (f p))

appends_none : (taken : Option Bytes) → Appends taken taken []
appends_none None = tt
appends_none (Some bytes) = sym (append-nil bytes)

pub traced_none : (items : List Action) (s : Session) (taken : Option Bytes) → SoFar items 0 s s taken taken
traced_none items s taken = record { parts = []; steps = (refl, refl); taken = appends_none taken }

-- one more action is written
pub traced_more : (items : List Action) (i : ℕ) (a : Action) (s t u : Session) (old mid new : Option Bytes) (lines : Bytes) (failed : Bool)
    → i < length items → a ≡ get_or items i a → SoFar items i s t old mid → Told a t lines u failed → Appends mid new lines
    → SoFar items (i + 1) s u old new
traced_more items i a s t u old mid new lines failed lt e before told next =
    let h = part_of a t u lines failed told in
    record {
      parts = before.parts ++ h.part ∷ [];
      steps =
          subst (λ report. Steps (take (i + 1) items) s report u) (sym (flat_more left before.parts h.part))
          (steps_more items i a s t u (flat_map left before.parts) h.part.lines lt e before.steps h.step);
      taken =
          subst (λ bytes. Appends old new bytes) (sym (flat_more shown before.parts h.part))
          (appends_more old mid new (flat_map shown before.parts) (shown h.part) before.taken (subst (λ bytes. Appends mid new bytes) h.whole next));
    }

pub traced_first : (items : List Action) (i : ℕ) (s t : Session) (old new : Option Bytes) → SoFar items i s t old new → Traced (take i items) s old new
traced_first items i s t old new so_far = record { parts = so_far.parts; last = t; steps = so_far.steps; taken = so_far.taken }

pub traced_whole : (items : List Action) (s t : Session) (old new : Option Bytes) → SoFar items (length items) s t old new → Traced items s old new
traced_whole items s t old new so_far = record {
  parts = so_far.parts;
  last = t;
  steps = rw (← whole items) so_far.steps;
  taken = so_far.taken;
}
  where
    whole : (xs : List Action) → take (length xs) xs ≡ xs
    whole xs = grind (arith, common_steps)
