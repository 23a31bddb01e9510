-- A report grows item by item.
use Rattle.std.proofs.Common.{◌≡◌, ℕ, zero, ◌+◌, ◌<◌, ◌≤◌, List, [], ◌∷◌, ◌++◌, length, take, get_or, Option, Some, None, refl, ap, ◌∙◌, sym, arith, append_assoc, length-append, suc}
use Rattle.std.proofs.lemmas.List.{take_more, append-nil}
use Rattle.std.proofs.lemmas.Grind.{common_steps}
use Rattle.std.specs.Io.KnownBytes.{Appends}
use Rattle.sq_meaning.specs.Report.{Bytes}
use Rattle.sq_session.specs.Session.{Session}
use Rattle.sq_perform.specs.Steps.{Step, Steps, Reported}
use Rattle.sq_perform.specs.Stop.{StoppedAt, StoppedInside}
use Rattle.sq_perform.specs.declared.action.Action.{Action}
use Rattle.sq_perform.specs.declared.refusal.RunFault.TheVariants.{NoMemory}

-- ---- steps

-- one more item
steps_append : (xs : List Action) (a : Action) (s t u : Session) (bytes lines : Bytes) → Steps xs s bytes t → Step a t lines u → Steps (xs ++ a ∷ []) s (bytes ++ lines) u
steps_append [] a s t u bytes lines (none, here) step =
    rw none (lines, [], u, (rw (sym here) step), (refl, refl), sym (append-nil lines))
steps_append (x ∷ xs) a s t u bytes lines (first, others, v, one, rest, whole) step =
    (first, others ++ lines, v, one, steps_append xs a v t u others lines rest step, ap (λ b. b ++ lines) whole ∙ append_assoc first others lines)

pub steps_more : (items : List Action) (i : ℕ) (a : Action) (s t u : Session) (bytes lines : Bytes) → i < length items → a ≡ get_or items i a
    → Steps (take i items) s bytes t → Step a t lines u → Steps (take (i + 1) items) s (bytes ++ lines) u
steps_more items i a s t u bytes lines lt e steps step =
    rw (take_more items i a lt) (rw (← e) (steps_append (take i items) a s t u bytes lines steps step))

-- what was written of the first items, and how much it is
pub record SoFar (items : List Action) (done : ℕ) (start now : Session) (written : ℕ) (old new : Option Bytes) : Type 0 where
  pub report : Bytes
  pub steps : Steps (take done items) start report now
  pub count : written ≡ length report
  pub taken : Appends old new report

-- ---- what an output has taken

pub appends_more : (a b c : Option Bytes) (xs ys : Bytes) → Appends a b xs → Appends b c ys → Appends a c (xs ++ ys)
appends_more None b c xs ys p q = tt
appends_more (Some old) None c xs ys p q = absurd p
appends_more (Some old) (Some mid) None xs ys p q = absurd q
appends_more (Some old) (Some mid) (Some new) xs ys p q = q ∙ ap (λ w. w ++ ys) p ∙ append_assoc old xs ys

prefix_taken : (xs line : Bytes) (n : ℕ) → n ≤ length line → take (length xs + n) (xs ++ line) ≡ xs ++ take n line
prefix_taken [] line n le = grind (arith, common_steps)
prefix_taken (x ∷ xs) line n le = let e : length (x ∷ xs) + n ≡ suc (length xs + n) = omega arith in rw e (ap (λ w. x ∷ w) (prefix_taken xs line n le))

-- the lines of one more item are written
pub wrote_more : (items : List Action) (i : ℕ) (a : Action) (s t u : Session) (written size : ℕ) (old mid new : Option Bytes) (lines : Bytes)
    → i < length items → a ≡ get_or items i a → SoFar items i s t written old mid → Step a t lines u → size ≡ length lines → Appends mid new lines
    → SoFar items (i + 1) s u (written + size) old new
wrote_more items i a s t u written size old mid new lines lt e before step sized next = record {
  report = before.report ++ lines;
  steps = steps_more items i a s t u before.report lines lt e before.steps step;
  count = ap (λ w. w + size) before.count ∙ ap (λ n. length before.report + n) sized ∙ sym (length-append before.report lines);
  taken = appends_more old mid new before.report lines before.taken next;
}

-- an output fault in the lines of an item
pub stopped_write : (items : List Action) (i : ℕ) (a : Action) (s t u : Session) (taken written : ℕ) (old mid new : Option Bytes) (lines : Bytes)
    → i < length items → a ≡ get_or items i a → SoFar items i s t written old mid → Step a t lines u → taken < length lines → Appends mid new (take taken lines)
    → StoppedInside (written + taken) items s old new
stopped_write items i a s t u taken written old mid new lines lt e before step less next =
    let report = before.report ++ lines in
    let size : length report ≡ length before.report + length lines = length-append before.report lines in
    let part : take (written + taken) report ≡ before.report ++ take taken lines =
    ap (λ k. take (k + taken) report) before.count ∙ prefix_taken before.report lines taken (omega arith) in
    record {
      items = i;
      there = lt;
      reported = record {
        report = report;
        last = u;
        steps = steps_more items i a s t u before.report lines lt e before.steps step;
        fewer = rw size (rw before.count (omega arith));
        taken = rw part (appends_more old mid new before.report (take taken lines) before.taken next);
      };
    }

-- what was written of all items
pub wrote_all : (items : List Action) (s t : Session) (written : ℕ) (old new : Option Bytes) → SoFar items (length items) s t written old new → Reported items s old new
wrote_all items s t written old new so_far = record {
  report = so_far.report;
  last = t;
  steps = rw (← take_all items) so_far.steps;
  taken = so_far.taken;
}
  where
    take_all : (xs : List Action) → take (length xs) xs ≡ xs
    take_all xs = grind (arith, common_steps)

pub wrote_first : (items : List Action) (i : ℕ) (s t : Session) (written : ℕ) (old new : Option Bytes) → SoFar items i s t written old new → Reported (take i items) s old new
wrote_first items i s t written old new so_far = record { report = so_far.report; last = t; steps = so_far.steps; taken = so_far.taken }

-- memory ran out before the lines of an item
pub stopped_memory : (items : List Action) (i : ℕ) (s t : Session) (written : ℕ) (old new : Option Bytes) → i < length items → SoFar items i s t written old new → (i ≡ 0 → new ≡ old) → StoppedAt items s old new (NoMemory i)
stopped_memory items zero s t written old new lt so_far untouched = untouched refl
stopped_memory items (suc i) s t written old new lt so_far untouched = (lt, wrote_first items (suc i) s t written old new so_far)
