-- Notes are added one after the other.
use Rattle.std.proofs.Common.{◌≡◌, ℕ, true, List, [], ◌∷◌, ◌++◌, ◌∙◌, append_assoc, ap, sym}
use Rattle.std.proofs.lemmas.List.{append-nil}
use Rattle.std.specs.List.{flat_map}
use Rattle.sq_show.specs.Mark.{AddsNotes, marked}

flat_join : {A : Type 0} (f : A → List ℕ) (xs ys : List A) → flat_map f (xs ++ ys) ≡ flat_map f xs ++ flat_map f ys
flat_join f [] ys = λ i. flat_map f ys
flat_join f (x ∷ xs) ys = ap (λ w. f x ++ w) (flat_join f xs ys) ∙ sym (append_assoc (f x) (flat_map f xs) (flat_map f ys))

pub notes_none : (old : List ℕ) → AddsNotes old old
notes_none old = record { notes = []; added = sym (append-nil old) }

pub notes_one : (old new text : List ℕ) → new ≡ old ++ marked true text → AddsNotes old new
notes_one old new text added = record {
  notes = text ∷ [];
  added = added ∙ ap (λ w. old ++ w) (sym (append-nil (marked true text)));
}

pub notes_more : (old mid new : List ℕ) → AddsNotes old mid → AddsNotes mid new → AddsNotes old new
notes_more old mid new first second = record {
  notes = first.notes ++ second.notes;
  added =
      second.added ∙ ap (λ w. w ++ flat_map (marked true) second.notes) first.added
      ∙ append_assoc old (flat_map (marked true) first.notes) (flat_map (marked true) second.notes)
      ∙ ap (λ w. old ++ w) (sym (flat_join (marked true) first.notes second.notes));
}
