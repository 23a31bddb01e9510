-- A report grows item by item, and text by text.
use Rattle.std.proofs.Common.{◌≡◌, ℕ, ◌+◌, ◌<◌, List, [], ◌∷◌, ◌++◌, length, take, get_or, refl, ap, ◌∙◌, sym, arith, append_assoc}
use Rattle.std.proofs.lemmas.List.{append-nil}
use Rattle.std.proofs.lemmas.Grind.{common_steps}
use Rattle.sq_session.specs.Session.{Session}
use Rattle.sq_perform.specs.Asked.{AreAsked}
use Rattle.sq_perform.specs.Steps.{Step, Steps}
use Rattle.sq_perform.specs.declared.action.Action.{Action}
use Rattle.sq_perform.proofs.Steps.{steps_more}
use Rattle.sq_show.specs.Taken.{Adds, Takes, TakesAll}

-- no item yet
pub adds_none : (s : Session) (old : List ℕ) → Adds [] s old old s
adds_none s old = record { report = []; steps = (refl, refl); added = sym (append-nil old) }

-- the lines of one more item
pub adds_more : (items : List Action) (i : ℕ) (a : Action) (s t u : Session) (old mid new lines : List ℕ) → i < length items → a ≡ get_or items i a
    → Adds (take i items) s old mid t → Step a t lines u → new ≡ mid ++ lines → Adds (take (i + 1) items) s old new u
adds_more items i a s t u old mid new lines lt e before step added = record {
  report = before.report ++ lines;
  steps = steps_more items i a s t u before.report lines lt e before.steps step;
  added = added ∙ ap (λ b. b ++ lines) before.added ∙ append_assoc old before.report lines;
}

-- all items
pub adds_all : (items : List Action) (i : ℕ) (s t : Session) (old new : List ℕ) → i ≡ length items → Adds (take i items) s old new t → Adds items s old new t
adds_all items i s t old new e adds = record {
  report = adds.report;
  steps = rw (← take_all items) (rw (← e) adds.steps);
  added = adds.added;
}
  where
    take_all : (xs : List Action) → take (length xs) xs ≡ xs
    take_all xs = grind (arith, common_steps)

pub takes : (text : List ℕ) (actions : List Action) (s t : Session) (old new : List ℕ) → AreAsked s text actions → Adds actions s old new t → Takes text s old new t
takes text actions s t old new asked done = record { actions = actions; asked = asked; done = done }

-- ---- what is written for the texts that are taken is the report of their items, one after the other

steps_join : (xs ys : List Action) (s t u : Session) (bytes others : List ℕ) → Steps xs s bytes t → Steps ys t others u → Steps (xs ++ ys) s (bytes ++ others) u
steps_join [] ys s t u bytes others (none, here) rest = rw none (rw (sym here) rest)
steps_join (x ∷ xs) ys s t u bytes others (first, left, v, one, steps, whole) rest =
    (first, left ++ others, v, one, steps_join xs ys v t u left others steps rest, ap (λ b. b ++ others) whole ∙ append_assoc first left others)

adds_join : (xs ys : List Action) (s t u : Session) (old mid new : List ℕ) → Adds xs s old mid t → Adds ys t mid new u → Adds (xs ++ ys) s old new u
adds_join xs ys s t u old mid new first second = record {
  report = first.report ++ second.report;
  steps = steps_join xs ys s t u first.report second.report first.steps second.steps;
  added = second.added ∙ ap (λ b. b ++ second.report) first.added ∙ append_assoc old first.report second.report;
}

pub report_of_all : (texts : List (List ℕ)) (s t : Session) (old new : List ℕ) → TakesAll texts s old new t → (actions : List Action) × Adds actions s old new t
report_of_all [] s t old new (same, here) = ([], rw same (rw here (adds_none s old)))
report_of_all (text ∷ others) s t old new (mid, next, first, rest) =
    let (actions, adds) = report_of_all others next t mid new rest in
    (first.actions ++ actions, adds_join first.actions actions s next t old mid new first.done adds)
