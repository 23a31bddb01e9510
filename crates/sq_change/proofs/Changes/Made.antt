-- The effects of the changes of a statement on the tables.
use Rattle.std.proofs.Common.{◌≡◌, ◌⊎◌, ℕ, true, List, [], ◌∷◌, Option, Result, Ok, Err, map, refl, sym, subst, inl, inr}
use Rattle.std.specs.Prelude.{IfErr, IfOk, Vec}
use Rattle.std.specs.declared.alloc.Global.{Global}
use Rattle.sq_store.specs.declared.change.Change.{Change}
use Rattle.sq_store.specs.declared.change.Change.TheVariants.{Insert, Replace, Remove}
use Rattle.sq_store.specs.declared.table.Numbered.{Numbered}
use Rattle.sq_store.specs.declared.table.Table.{Table}
use Rattle.sq_store.specs.Change.{rows_put}
use Rattle.sq_store.specs.Content.{changed_by, inserted, removed, replaced}
use Rattle.sq_meaning.specs.Status.{Outcome}
use Rattle.sq_bound.specs.declared.statement.BoundUpdate.{BoundUpdate}
use Rattle.sq_bound.specs.declared.statement.ChangeTarget.{ChangeTarget}
use Rattle.sq_expression.specs.Fault.{Meets, MeetsAs}
use Rattle.sq_expression.specs.declared.fault.Fault.{Fault}
use Rattle.sq_expression.specs.declared.fault.Fault.TheVariants as fault
use Rattle.sq_expression.proofs.Views.{failed_as}
use Rattle.sq_change.specs.Changed.{AreReplacements, Removals, Replacements, are_insertions, changed_in, rows_replaced, rows_replaced_in}
use Rattle.sq_change.specs.Made.{Seen, Shown, rows_updated}
use Rattle.sq_change.specs.declared.complete.Changed.{Changed}
use Rattle.sq_change.specs.Statement.{Chosen, base_of, with_replaced, with_rows, without}

-- ---- INSERT

pub all_inserted : (t : Table) (changes : List Change) → are_insertions changes ≡ true → changed_by t changes ≡ with_rows t (rows_put changes)
all_inserted t [] h = refl
all_inserted t (Insert row ∷ changes) h = all_inserted (inserted t row) changes h
all_inserted t (Replace number row ∷ changes) h = cc
all_inserted t (Remove number ∷ changes) h = cc

-- ---- UPDATE

pub all_replaced : (numbers : List ℕ) (t : Table) (changes : List Change) → AreReplacements numbers changes → changed_by t changes ≡ with_replaced t (rows_replaced changes)
all_replaced [] t [] h = refl
all_replaced [] t (change ∷ changes) h = absurd h
all_replaced (n ∷ numbers) t [] h = absurd h
all_replaced (n ∷ numbers) t (Insert row ∷ changes) h = absurd h.0
all_replaced (n ∷ numbers) t (Replace number row ∷ changes) h = all_replaced numbers (replaced t number row) changes h.1
all_replaced (n ∷ numbers) t (Remove number ∷ changes) h = absurd h.0

-- ---- DELETE

pub all_removed : (t : Table) (numbers : List ℕ) → changed_by t (map Remove numbers) ≡ without t numbers
all_removed t [] = refl
all_removed t (number ∷ numbers) = all_removed (removed t number) numbers

-- ---- changes, and what else is found for them

module _ (changes : Result (Vec Change Global) Fault) (r : Result Changed Fault) (same : IfOk r (λ changed. changes ≡ Ok changed.changes)) where
  -- the changes replace the chosen rows
  pub replacements_kept : (s : Seen) (u : BoundUpdate) (on : Option ℕ) (numbers : List ℕ) → Chosen s u.target on numbers → IfOk changes (λ cs. AreReplacements numbers cs.items)
      → ((shown : Shown) → MeetsAs rows_replaced_in changes (rows_updated shown s u.assignments (base_of u.target) numbers))
      → IfOk r (λ changed. Replacements s u on changed.changes.items)
  replacements_kept s u on numbers chosen all made = of r same
    where
      of : (r : Result Changed Fault) → IfOk r (λ changed. changes ≡ Ok changed.changes) → IfOk r (λ changed. Replacements s u on changed.changes.items)
      of (Err f) same = tt
      of (Ok changed) same = record {
        numbers = numbers;
        chosen = chosen;
        all = subst (λ (o : Result (Vec Change Global) Fault). IfOk o (λ cs. AreReplacements numbers cs.items)) same all;
        made = λ shown. subst (λ (o : Result (Vec Change Global) Fault). MeetsAs rows_replaced_in o (rows_updated shown s u.assignments (base_of u.target) numbers)) same (made shown);
      }

  pub removals_kept : (s : Seen) (t : ChangeTarget) (on : Option ℕ) (numbers : List ℕ) → Chosen s t on numbers → IfOk changes (λ cs. cs.items ≡ map Remove numbers)
      → IfOk r (λ changed. Removals s t on changed.changes.items)
  removals_kept s t on numbers chosen all = of r same
    where
      of : (r : Result Changed Fault) → IfOk r (λ changed. changes ≡ Ok changed.changes) → IfOk r (λ changed. Removals s t on changed.changes.items)
      of (Err f) same = tt
      of (Ok changed) same = record {
        numbers = numbers;
        chosen = chosen;
        all = subst (λ (o : Result (Vec Change Global) Fault). IfOk o (λ cs. cs.items ≡ map Remove numbers)) same all;
      }

  -- the changes that were made are what was meant
  pub changed_meets : (o : Outcome (List Numbered)) → MeetsAs rows_replaced_in changes o → IfErr r (λ f. (f ≡ fault.NoMemory) ⊎ (changes ≡ Err f)) → MeetsAs changed_in r o
  changed_meets o meant fails = of r same fails
    where
      as_changed : (f : Fault) → Meets {A = List Numbered} (Err f) o → MeetsAs {A = Changed} changed_in (Err f) o
      as_changed fault.NoMemory h = tt
      as_changed (fault.Status st) h = h

      of : (r : Result Changed Fault) → IfOk r (λ changed. changes ≡ Ok changed.changes) → IfErr r (λ f. (f ≡ fault.NoMemory) ⊎ (changes ≡ Err f)) → MeetsAs changed_in r o
      of (Ok changed) same fails = subst (λ (x : Result (Vec Change Global) Fault). MeetsAs rows_replaced_in x o) same meant
      of (Err f) same (inl memory) = subst (λ (g : Fault). MeetsAs changed_in (Err g) o) (sym memory) tt
      of (Err f) same (inr failed) = as_changed f (failed_as rows_replaced_in f o (subst (λ (x : Result (Vec Change Global) Fault). MeetsAs rows_replaced_in x o) failed meant))
