-- Columns that get values, in turn (ISO/IEC 9075:1992, 13.8 to 13.10).
use Rattle.std.specs.Prelude.{ℕ, ◌<◌, Bool, not, List, [], ◌∷◌, ◌++◌, find, Ok}
use Rattle.std.specs.List.{AllByRecursion}
use Rattle.sq_lex.specs.declared.name.Name.{Name}
use Rattle.sq_meaning.specs.Environment.{same_name}
use Rattle.sq_meaning.specs.Schema.{has_name_twice}
use Rattle.sq_meaning.specs.declared.fault.BindingFault.TheVariants as fault
use Rattle.sq_binding.specs.Change as binding
use Rattle.sq_binding.specs.Found.{Binding, each}
use Rattle.sq_binding.specs.Outcome.{Outcome, ◌>>=◌, and_then, or_fault}
use Rattle.sq_binding.specs.Whole.{must_hold}
use Rattle.sq_binder.specs.declared.column.ItemColumn.{ItemColumn}
use Rattle.sq_binder.specs.declared.receiver.Receiver.{Receiver}

abbrev pub receiver_seen : Receiver → binding.Receiver
receiver_seen r = record { name = r.name; column = r.column; kind = r.kind }

-- a column of an item over the base table, as one that gets values
abbrev pub receiver_at : ItemColumn → binding.Receiver
receiver_at c = record { name = c.name; column = c.position; kind = c.kind }

-- the columns that get values are among this many columns of a base table
abbrev pub AreWithin : ℕ → List binding.Receiver → Type 0
AreWithin columns = AllByRecursion (λ r. r.column < columns)

-- a column that is not named again
abbrev pub once : (again : Bool) → binding.Receiver → Outcome binding.Receiver
once again r = must_hold (not again) fault.ColumnTwice >>= λ _. Ok r

-- the column of a name among these, which is not named again
abbrev pub named_once : List binding.Receiver → Name → (again : Bool) → Outcome binding.Receiver
named_once all name again =
    or_fault fault.UnknownColumn (find (λ r. same_name r.name name) all) >>= once again

-- the result of `make` on the column of a name that is not named again
abbrev pub column_made : {B : Type 0} → List binding.Receiver → Name → (again : Bool)
    → (binding.Receiver → Binding B) → Binding B
column_made all name again make = λ counts. and_then (named_once all name again) (λ r. make r counts)

-- each element of a list, with the names of the elements before it
abbrev pub with_names : {A : Type 0} → (A → Name) → List Name → List A → List (List Name × A)
with_names name_of before [] = []
with_names name_of before (x ∷ xs) = (before, x) ∷ with_names name_of (before ++ name_of x ∷ []) xs

abbrev pub column_after : {A B : Type 0} → List binding.Receiver → (A → Name)
    → (A → binding.Receiver → Binding B) → List Name × A → Binding B
column_after all name_of make p =
    column_made all (name_of p.1) (has_name_twice (p.0 ++ name_of p.1 ∷ [])) (make p.1)

-- the results of `make` on each column that a list names, if none is named twice
abbrev pub columns_made : {A B : Type 0} → List binding.Receiver → (A → Name)
    → (A → binding.Receiver → Binding B) → List A → Binding (List B)
columns_made all name_of make xs = each (column_after all name_of make) (with_names name_of [] xs)
