-- Columns that get values, in turn: each with the names before it.
use Rattle.std.proofs.Common.{◌≡◌, ℕ, zero, suc, ◌+◌, ◌<◌, Bool, true, false, not, List, [], ◌∷◌, ◌++◌, length, map, take, get_or, Option, None, Some, Ok, refl, sym, ap, append_assoc, arith, ◌∙◌}
use Rattle.std.proofs.lemmas.List.{append-nil, map-append, take_more}
use Rattle.std.specs.Prelude.{find}
use Rattle.sq_lex.specs.declared.name.Name.{Name}
use Rattle.sq_meaning.specs.Environment.{same_name}
use Rattle.sq_meaning.specs.Schema.{has_name_twice}
use Rattle.sq_meaning.specs.declared.fault.BindingFault.TheVariants as fault
use Rattle.sq_binding.specs.Change.{Receiver, each_column, receiver_named, receivers_of}
use Rattle.sq_binding.specs.Changeable.{ChangedTable}
use Rattle.sq_binding.specs.Found.{Binding, Counts, Found, ◌>>=◌, each, must, outcome, pure}
use Rattle.sq_binding.specs.Outcome.{and_then, or_fault}
use Rattle.sq_binding.specs.Whole.{must_hold}
use Rattle.sq_binder.specs.Receiver.{column_after, column_made, with_names}
use Rattle.sq_binder.proofs.OneByOne.Chains.{chained, must_first, outcome_first}

module _ {A B : Type 0} (t : ChangedTable) (name_of : A → Name) (make : A → Receiver → Binding B) where
  -- ---- each column is bound with the names before it

  one_made : (x : A) (again : Bool) (counts : Counts)
      → (outcome (receiver_named t (name_of x)) >>= λ r. must (not again) fault.ColumnTwice >>= λ u. make x r) counts ≡ column_made (receivers_of t) (name_of x) again (make x) counts
  one_made x again counts = by (find (λ r. same_name r.name (name_of x)) (receivers_of t))
    where
      if_once : (r : Receiver) (again : Bool)
          → (must (not again) fault.ColumnTwice >>= λ u. make x r) counts ≡ and_then (and_then (must_hold (not again) fault.ColumnTwice) (λ u. Ok r)) (λ r. make x r counts)
      if_once r true = refl
      if_once r false = must_first fault.ColumnTwice (make x r) counts

      by : (o : Option Receiver)
          → (outcome (or_fault fault.UnknownColumn o) >>= λ r. must (not again) fault.ColumnTwice >>= λ u. make x r) counts
          ≡ and_then (and_then (or_fault fault.UnknownColumn o) (λ r. and_then (must_hold (not again) fault.ColumnTwice) (λ u. Ok r))) (λ r. make x r counts)
      by None = refl
      by (Some r) = outcome_first r (λ r. must (not again) fault.ColumnTwice >>= λ u. make x r) counts ∙ if_once r again

  behind : (x : A) (again : Bool) (k : B → Binding (List B)) (counts : Counts)
      → (outcome (receiver_named t (name_of x)) >>= λ r. must (not again) fault.ColumnTwice >>= λ u. make x r >>= k) counts ≡ (column_made (receivers_of t) (name_of x) again (make x) >>= k) counts
  behind x again k counts =
      (λ i. (outcome (receiver_named t (name_of x)) >>= λ r c. sym (chained (must (not again) fault.ColumnTwice) (λ u. make x r) k c) i) counts)
      ∙ sym (chained (outcome (receiver_named t (name_of x))) (λ r. must (not again) fault.ColumnTwice >>= λ u. make x r) k counts)
      ∙ (λ i. ((λ c. one_made x again c i) >>= k) counts)

  pub in_turn : (before : List Name) (xs : List A) (counts : Counts) → each_column t name_of make before xs counts ≡ each (column_after (receivers_of t) name_of make) (with_names name_of before xs) counts
  in_turn before [] counts = refl
  in_turn before (x ∷ xs) counts =
      let again = has_name_twice (before ++ name_of x ∷ []) in
      behind x again (λ y. each_column t name_of make (before ++ name_of x ∷ []) xs >>= λ ys. pure (y ∷ ys)) counts
      ∙ (λ i. (column_made (receivers_of t) (name_of x) again (make x) >>= λ y. (λ c. in_turn (before ++ name_of x ∷ []) xs c i) >>= λ ys. pure (y ∷ ys)) counts)

module _ {A : Type 0} (name_of : A → Name) where
  -- ---- elements by their positions

  pub as_many : (before : List Name) (xs : List A) → length (with_names name_of before xs) ≡ length xs
  as_many before [] = refl
  as_many before (x ∷ xs) = ap suc (as_many (before ++ name_of x ∷ []) xs)

  pub element : (before : List Name) (xs : List A) (i : ℕ) (x : A) (d : List Name × A) → i < length xs → x ≡ get_or xs i x → (before ++ map name_of (take i xs), x) ≡ get_or (with_names name_of before xs) i d
  element before [] i x d lt at = absurd (omega (arith, lt))
  element before (y ∷ xs) zero x d lt at = λ j. (append-nil before j, at j)
  element before (y ∷ xs) (suc i) x d lt at =
      (λ j. (sym (append_assoc before (name_of y ∷ []) (map name_of (take i xs))) j, x)) ∙ element (before ++ name_of y ∷ []) xs i x d (omega (arith, lt)) at

  pub names_more : (first : A) (xs : List A) (i : ℕ) (x : A) → i < length xs → x ≡ get_or xs i x → map name_of (first ∷ take (i + 1) xs) ≡ map name_of (first ∷ take i xs) ++ name_of x ∷ []
  names_more first xs i x lt at =
      ap (λ l. name_of first ∷ map name_of l) (take_more xs i x lt ∙ ap (λ y. take i xs ++ y ∷ []) (sym at))
      ∙ ap (λ l. name_of first ∷ l) (map-append name_of (take i xs) (x ∷ []))

-- ---- no name is there twice

pub passes : {B : Type 0} (all : List Receiver) (again : Bool) (name : Name) (m : Receiver → Binding B) (counts : Counts) (y : Found B) → column_made all name again m counts ≡ Ok y → again ≡ false
passes all false name m counts y e = refl
passes all true name m counts y e = by (find (λ r. same_name r.name name) all) e
  where
    by : (o : Option Receiver) → and_then (and_then (or_fault fault.UnknownColumn o) (λ r. and_then (must_hold false fault.ColumnTwice) (λ u. Ok r))) (λ r. m r counts) ≡ Ok y → true ≡ false
    by None e = cc
    by (Some r) e = cc
