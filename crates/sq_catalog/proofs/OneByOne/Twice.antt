-- Lists that have an element twice.
use Rattle.std.proofs.Common.{◌≡◌, ℕ, ◌+◌, ◌<◌, Bool, true, false, not, ◌&&◌, ◌||◌, List, [], ◌∷◌, ◌++◌, get_or, length, drop, map, nat_eq, take, Ok, Err, refl, sym, ap, subst, ◌∙◌}
use Rattle.std.proofs.Common.{arith}
use Rattle.std.proofs.lemmas.Grind.{common_steps}
use Rattle.std.proofs.lemmas.List.Folds.{list_any-append}
use Rattle.std.proofs.lemmas.List.{map-append}
use Rattle.std.specs.Borrow.{Bor}
use Rattle.std.specs.List.{list_any}
use Rattle.std.proofs.lemmas.Cmp.{nat_list_eq_equiv}
use Rattle.std.proofs.lemmas.Bool.{or_right, or_from, or_parts}
use Rattle.sq_lex.specs.declared.name.Name.{Name}
use Rattle.sq_tree.specs.declared.schema.ColumnDefinition.{ColumnDefinition}
use Rattle.sq_meaning.specs.Environment.{same_name}
use Rattle.sq_meaning.specs.Target.{are_distinct}
use Rattle.sq_meaning.specs.Schema.{has_name_twice, is_among}
use Rattle.sq_meaning.specs.Words.{has_twice}
use Rattle.sq_meaning.specs.declared.refusal.SchemaFault.TheVariants.{NameTwice}
use Rattle.sq_binding.specs.ElementOutcome.{and_then, refused_if}
use Rattle.sq_catalog.specs.Exact.{name_added}
use Rattle.sq_catalog.specs.Fault.{Stops}
use Rattle.sq_catalog.specs.Written.{definitions_lent}
use Rattle.sq_catalog.specs.declared.fault.ElementFault.{ElementFault}
use Rattle.sq_catalog.specs.declared.fault.ElementFault.TheVariants.{NoMemory, Refused}
use Rattle.sq_catalog.proofs.OneByOne.Turns.{parted, taken}

-- ---- names

-- a further name, which is not there yet
pub once_more : (names : List Name) (n : Name) → has_name_twice names ≡ false → is_among names n ≡ false → has_name_twice (names ++ n ∷ []) ≡ false
once_more [] n once new = refl
once_more (m ∷ names) n once new =
    let first = or_parts (list_any (same_name m) names) (has_name_twice names) once in
    let later = or_parts (same_name n m) (list_any (same_name n) names) new in
    or_from (list_any (same_name m) (names ++ n ∷ [])) (has_name_twice (names ++ n ∷ []))
    (list_any-append (same_name m) names (n ∷ []) ∙ or_from (list_any (same_name m) names) (same_name m n || false) first.0 (or_from (same_name m n) false (nat_list_eq_equiv.symm m n ∙ later.0) refl))
    (once_more names n first.1 later.1)

-- one that is there
pub there_twice : (names more : List Name) (n : Name) → is_among names n ≡ true → has_name_twice (names ++ n ∷ more) ≡ true
there_twice [] more n h = absurd cc
there_twice (m ∷ names) more n h = by (λ k. there_twice names more n k) (same_name n m) refl h
  where
    by : (list_any (same_name n) names ≡ true → has_name_twice (names ++ n ∷ more) ≡ true) → (b : Bool) → same_name n m ≡ b → (b || list_any (same_name n) names) ≡ true → has_name_twice (m ∷ names ++ n ∷ more) ≡ true
    by later true is h =
        ap (λ b. b || has_name_twice (names ++ n ∷ more))
        (list_any-append (same_name m) names (n ∷ more) ∙ or_right (list_any (same_name m) names) (same_name m n || list_any (same_name m) more) (ap (λ b. b || list_any (same_name m) more) (nat_list_eq_equiv.symm m n ∙ is)))
    by later false is h = or_right (list_any (same_name m) (names ++ n ∷ more)) (has_name_twice (names ++ n ∷ more)) (later h)

-- ---- names that are added one after the other

pub added_new : (names new : List Name) (n : Name) → name_added names n ≡ Ok new → is_among names n ≡ false
added_new names new n = by (is_among names n)
  where
    by : (b : Bool) → and_then (refused_if NameTwice b) (λ u. Ok (names ++ n ∷ [])) ≡ Ok new → b ≡ false
    by true h = absurd cc
    by false h = refl

pub added_stops : (names more : List Name) (n : Name) (fault : ElementFault) → Stops (name_added names n) fault → Stops (refused_if NameTwice (has_name_twice (names ++ n ∷ more))) fault
added_stops names more n NoMemory h = tt
added_stops names more n (Refused fault) h = by (is_among names n) refl h
  where
    by : (b : Bool) → is_among names n ≡ b → and_then (refused_if NameTwice b) (λ u. Ok (names ++ n ∷ [])) ≡ Err fault → Stops (refused_if NameTwice (has_name_twice (names ++ n ∷ more))) (Refused fault)
    by true is h = let same : NameTwice ≡ fault = cc in ap (refused_if NameTwice) (there_twice names more n is) ∙ ap (λ f. Err f) same
    by false is h = absurd cc

-- the names of the columns, at one of them
abbrev names : List (Bor ColumnDefinition) → List Name
names columns = map (λ w. w.name) (definitions_lent columns)

names_joined : (xs ys : List (Bor ColumnDefinition)) → names (xs ++ ys) ≡ names xs ++ names ys
names_joined xs ys = ap (map (λ w. w.name)) (map-append (λ (w : Bor ColumnDefinition). w.now) xs ys) ∙ map-append (λ (w : ColumnDefinition). w.name) (definitions_lent xs) (definitions_lent ys)

module _ (columns : List (Bor ColumnDefinition)) (i : ℕ) (c : Bor ColumnDefinition) (within : i < length columns) (at : c ≡ get_or columns i c) where
  pub names_next : names (take i columns) ++ c.now.name ∷ [] ≡ names (take (i + 1) columns)
  names_next = sym (ap names (taken columns i c within at) ∙ names_joined (take i columns) (c ∷ []))

  pub names_stop : (old : List Name) (fault : ElementFault) → old ≡ names (take i columns) → Stops (name_added old c.now.name) fault → Stops (refused_if NameTwice (has_name_twice (names columns))) fault
  names_stop old fault is h =
      subst (λ all. Stops (refused_if NameTwice (has_name_twice all)) fault) (sym (names_joined (take i columns) (c ∷ drop (i + 1) columns)) ∙ ap names (parted columns i c within at))
      (added_stops (names (take i columns)) (names (drop (i + 1) columns)) c.now.name fault (subst (λ ns. Stops (name_added ns c.now.name) fault) is h))

-- ---- numbers

eq_turned : (n m : ℕ) → nat_eq n m ≡ nat_eq m n
eq_turned n m = grind (arith, common_steps)

pub any_turned : (n : ℕ) → (λ m. nat_eq m n) ≡ nat_eq n
any_turned n = λ i m. eq_turned m n i

-- a list of numbers has one twice exactly where they are not distinct
pub twice_is : (ns : List ℕ) → not (are_distinct ns) ≡ has_twice nat_eq ns
twice_is [] = refl
twice_is (n ∷ ns) = by (list_any (nat_eq n) ns) (are_distinct ns) (twice_is ns)
  where
    by : (among distinct : Bool) → not distinct ≡ has_twice nat_eq ns → not (not among && distinct) ≡ (among || has_twice nat_eq ns)
    by true distinct h = refl
    by false distinct h = h
