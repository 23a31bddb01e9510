-- Types of which public definitions of other crates speak, and which have no public name.
use Rattle.std.proofs.Common.{List}
use Rattle.sq_catalog.specs.Keys.{keys_written}
use Rattle.sq_session.specs.Target.{none_set}

abbrev type_of : {A : Type 0} → A → Type 0
type_of {A} x = A

abbrev type_in : {A : Type 0} → List A → Type 0
type_in {A} xs = A

abbrev type_in_each : {A B : Type 0} → (A → List B) → Type 0
type_in_each {A} {B} f = B

-- a key of a table definition
abbrev pub WrittenKey : Type 0
WrittenKey = type_in_each keys_written

-- what a FETCH or a SELECT INTO sets
abbrev pub Assignments : Type 0
Assignments = type_of none_set

abbrev pub Assignment : Type 0
Assignment = type_in none_set.list
