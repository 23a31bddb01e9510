-- The rest that the changes of a statement leave alone: no other key loses values, and the rows that are put in stay.
use Rattle.std.proofs.Common.{◌≡◌, ℕ, true, Option, Result, Ok, Err, subst}
use Rattle.std.specs.Prelude.{IfOk, Vec}
use Rattle.std.specs.declared.alloc.AllocError.{AllocError}
use Rattle.std.specs.declared.alloc.Global.{Global}
use Rattle.sq_store.specs.Content.{changed_by, table_at}
use Rattle.sq_store.specs.Rising.{all_rising}
use Rattle.sq_store.specs.declared.change.Change.{Change}
use Rattle.sq_bound.specs.Fits.{under}
use Rattle.sq_bound.specs.declared.statement.BoundUpdate.{BoundUpdate}
use Rattle.sq_bound.specs.declared.statement.ChangeTarget.{ChangeTarget}
use Rattle.sq_expression.specs.declared.fault.Fault.{Fault}
use Rattle.sq_change.specs.Changed.{CanBeMade, FitTable, KeepsRest, Removals, Replacements}
use Rattle.sq_change.specs.Made.{Seen}
use Rattle.sq_change.specs.Reference.{LosesAll, LosesAssigned}
use Rattle.sq_change.specs.declared.complete.Changed.{Changed}
use Rattle.sq_change.proofs.Changes.Applied.{removals_wide, removed_few, replaced_few}
use Rattle.sq_change.proofs.NewRows.Domains.{removals_in}
use Rattle.sq_change.proofs.Keys.KeptKeys.{removals_keep, removals_put, replacements_keep, replacements_put}

module _ (lost : Result (Vec ℕ Global) AllocError) where
  pub replaced_rest : (r : Result Changed Fault) → IfOk r (λ changed. lost ≡ Ok changed.lost_keys) → (s : Seen) (u : BoundUpdate) (on : Option ℕ) (row_numbers : ℕ)
      → all_rising row_numbers s.tables ≡ true → IfOk r (λ changed. Replacements s u on changed.changes.items)
      → IfOk lost (λ keys. LosesAssigned (under u.target).table.keys u.assignments keys.items)
      → IfOk r (KeepsRest (under u.target).table (table_at s.tables (under u.target).table.place))
  replaced_rest (Err f) same s u on row_numbers rising h loses = tt
  replaced_rest (Ok changed) same s u on row_numbers rising h loses = record {
    keys = replacements_keep s u on changed.changes.items h (under u.target).table.keys changed.lost_keys.items row_numbers rising
        (subst (λ (o : Result (Vec ℕ Global) AllocError). IfOk o (λ keys. LosesAssigned (under u.target).table.keys u.assignments keys.items)) same loses);
    put = replacements_put s u on changed.changes.items h;
  }

  pub removed_rest : (r : Result Changed Fault) → IfOk r (λ changed. lost ≡ Ok changed.lost_keys) → (s : Seen) (t : ChangeTarget) (on : Option ℕ)
      → IfOk r (λ changed. Removals s t on changed.changes.items) → IfOk lost (λ keys. LosesAll (under t).table.keys keys.items)
      → IfOk r (KeepsRest (under t).table (table_at s.tables (under t).table.place))
  removed_rest (Err f) same s t on h loses = tt
  removed_rest (Ok changed) same s t on h loses = record {
    keys = removals_keep (under t).table.keys changed.lost_keys.items (table_at s.tables (under t).table.place) (changed_by (table_at s.tables (under t).table.place) changed.changes.items)
        (subst (λ (o : Result (Vec ℕ Global) AllocError). IfOk o (λ keys. LosesAll (under t).table.keys keys.items)) same loses);
    put = removals_put s t on (table_at s.tables (under t).table.place) changed.changes.items h;
  }

-- the changes of an UPDATE, and those of a DELETE
pub replaced_made : (made : Result (Vec Change Global) Fault) (r : Result Changed Fault) → IfOk r (λ changed. made ≡ Ok changed.changes) → (s : Seen) (u : BoundUpdate) (on : Option ℕ) (row_numbers : ℕ)
    → IfOk made (λ changes. FitTable (under u.target).table changes.items) → IfOk r (λ changed. Replacements s u on changed.changes.items)
    → IfOk r (KeepsRest (under u.target).table (table_at s.tables (under u.target).table.place))
    → IfOk r (CanBeMade (under u.target).table (table_at s.tables (under u.target).table.place) row_numbers)
replaced_made made (Err f) same s u on row_numbers fit h keeps = tt
replaced_made made (Ok changed) same s u on row_numbers fit h keeps = record {
  fit = subst (λ (o : Result (Vec Change Global) Fault). IfOk o (λ changes. FitTable (under u.target).table changes.items)) same fit;
  numbers = replaced_few s u on changed.changes.items _ h;
  keeps = keeps;
}

pub removed_made : (r : Result Changed Fault) (s : Seen) (t : ChangeTarget) (on : Option ℕ) (row_numbers : ℕ) → IfOk r (λ changed. Removals s t on changed.changes.items)
    → IfOk r (KeepsRest (under t).table (table_at s.tables (under t).table.place)) → IfOk r (CanBeMade (under t).table (table_at s.tables (under t).table.place) row_numbers)
removed_made (Err f) s t on row_numbers h keeps = tt
removed_made (Ok changed) s t on row_numbers h keeps = record {
  fit = record {
    wide = removals_wide s t on changed.changes.items _ h;
    in_domains = removals_in s t on changed.changes.items _ h;
  };
  numbers = removed_few s t on changed.changes.items _ h;
  keeps = keeps;
}
