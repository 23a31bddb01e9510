-- Columns that get values, one after the other, are refused exactly if the rules refuse them. Each exists, none occurs twice, and the
-- part made of each has no fault (ISO/IEC 9075:1992, 13.8 to 13.10).
use Rattle.std.proofs.Common.{◌≡◌, Bool, true, false, not, ◌||◌, List, [], ◌∷◌, ◌++◌, map, Ok, Err, refl, sym, ap, subst, append_assoc, ◌∙◌}
use Rattle.std.proofs.lemmas.List.{append-nil}
use Rattle.std.specs.List.{AllByRecursion, AllZip, flat_map}
use Rattle.sq_lex.specs.declared.name.Name.{Name}
use Rattle.sq_meaning.specs.Environment.{TableName, same_name}
use Rattle.sq_meaning.specs.Binding.{Judged, breaks, has_fault}
use Rattle.sq_meaning.specs.Schema.{has_name_twice}
use Rattle.sq_meaning.specs.Site.{Site}
use Rattle.sq_meaning.specs.declared.fault.BindingFault.{BindingFault}
use Rattle.sq_meaning.specs.declared.fault.BindingFault.TheVariants as fault
use Rattle.sq_binding.specs.Change.{Receiver, each_column, receiver_named}
use Rattle.sq_binding.specs.Changeable.{ChangedTable, UserNames}
use Rattle.sq_binding.specs.Found.{Binding, Counts, Found, ◌>>=◌, ◌>>◌, after, must, outcome, pure, then_joined}
use Rattle.sq_binding.specs.Outcome.{Outcome, and_then}
use Rattle.sq_binding.specs.QueryFindings.{nothing}
use Rattle.sq_binding.proofs.Exactly.ChangedTold.{HasKind, IsChanged, IsColumn, TablesFit, column_known, column_told}
use Rattle.sq_binding.proofs.Faultless.Clean.{AllHeld, Clean, CleanSite, clean_both, clean_first, clean_more, no_site}
use Rattle.sq_binding.proofs.Faultless.CleanConds.{KnownIf}
use Rattle.sq_binding.proofs.Placing.SameParameters.{twice_longer}
use Rattle.sq_binding.proofs.FaultsFound.Sites.{fault_here, fault_later, fault_left, fault_right}
use Rattle.sq_binding.proofs.Exactly.Tells.{Tells}
use Rattle.sq_binding.proofs.Exactly.Told.{Told}

module _ (names : UserNames) (j : Judged) (fits : TablesFit names j) (table : TableName) (t : ChangedTable) (is : IsChanged names j table t) where
  module _ {A B : Type 0} (name_of : A → Name) (make : A → Receiver → Binding B) (sites_of : A → List Site) (P : A → B → Type 0) (W : A → Type 0)
      (tells : (x : A) → W x → (r : Receiver) → HasKind names j fits table t is (name_of x) r → Tells j (sites_of x) (make x r))
      (known : (x : A) (r : Receiver) → HasKind names j fits table t is (name_of x) r → KnownIf (P x) (make x r)) where
    abbrev pub one_sites : A → List Site
    one_sites x = Site.column_changed table (name_of x) ∷ sites_of x

    -- these are the names of all columns in the list
    module _ (all : List Name) where
      abbrev whole : Site
      whole = Site.column_list all

      -- What holds where all are bound.
      pub record AreColumns (xs : List A) (ys : List B) : Type 0 where
        pub once : has_name_twice all ≡ false
        pub there : AllByRecursion (λ x. IsColumn names j fits table t is (name_of x)) xs
        pub clean : AllHeld j → Clean j (flat_map one_sites xs)
        pub made : AllZip P xs ys

      abbrev pub ColumnsTold : List A → Outcome (Found (List B)) → Type 0
      ColumnsTold xs (Ok z) = AreColumns xs z.part
      ColumnsTold xs (Err f) = has_fault j (whole ∷ flat_map one_sites xs) f ≡ true

      in_first : (x : A) (xs : List A) (f : BindingFault) → has_fault j (one_sites x) f ≡ true → has_fault j (whole ∷ flat_map one_sites (x ∷ xs)) f ≡ true
      in_first x xs f h = fault_later j f whole (flat_map one_sites (x ∷ xs)) (fault_left j f (one_sites x) (flat_map one_sites xs) h)

      in_rest : (x : A) (xs : List A) (f : BindingFault) → has_fault j (whole ∷ flat_map one_sites xs) f ≡ true → has_fault j (whole ∷ flat_map one_sites (x ∷ xs)) f ≡ true
      in_rest x xs f h = by (breaks j f whole) refl h
        where
          by : (b : Bool) → breaks j f whole ≡ b → has_fault j (whole ∷ flat_map one_sites xs) f ≡ true → has_fault j (whole ∷ flat_map one_sites (x ∷ xs)) f ≡ true
          by true e h = fault_here j f whole (flat_map one_sites (x ∷ xs)) e
          by false e h =
              fault_later j f whole (flat_map one_sites (x ∷ xs)) (fault_right j f (one_sites x) (flat_map one_sites xs) (ap (λ b. b || has_fault j (flat_map one_sites xs) f) (sym e) ∙ h))

      first_column : (x : A) (xs : List A) (f : BindingFault) → has_fault j (Site.column_changed table (name_of x) ∷ []) f ≡ true → has_fault j (whole ∷ flat_map one_sites (x ∷ xs)) f ≡ true
      first_column x xs f h = in_first x xs f (fault_left j f (Site.column_changed table (name_of x) ∷ []) (sites_of x) h)

      -- parts before it change nothing
      behind : {C : Type 0} (xs : List A) (m : Found C) (o : Outcome (Found (List B))) → ColumnsTold xs o → ColumnsTold xs (then_joined m o)
      behind xs m (Ok n) h = record { once = h.once; there = h.there; clean = h.clean; made = h.made }
      behind xs m (Err f) h = h

      module _ (x : A) (w : W x) (xs : List A) (column : IsColumn names j fits table t is (name_of x)) (clean_column : AllHeld j → CleanSite j (Site.column_changed table (name_of x))) where
        abbrev Rest : Type 0
        Rest = Binding (List B)

        last_made : (m : Found B) → (AllHeld j → Clean j (sites_of x)) → P x m.part → (o : Outcome (Found (List B))) → ColumnsTold xs o → (counts : Found (List B) → Counts)
            → ColumnsTold (x ∷ xs) (and_then o (λ n. then_joined n (pure (m.part ∷ n.part) (counts n))))
        last_made m clean p (Ok n) h counts = record {
          once = h.once;
          there = (column, h.there);
          clean = λ held. clean_more j (Site.column_changed table (name_of x)) (sites_of x ++ flat_map one_sites xs) (clean_column held) (clean_both j (sites_of x) (flat_map one_sites xs) (clean held) (h.clean held));
          made = (p, h.made);
        }
        last_made m clean p (Err f) h counts = in_rest x xs f h

        value_made : (o : Outcome (Found B)) → Told j (sites_of x) o → ((m : Found B) → o ≡ Ok m → P x m.part) → (rest : Rest) → ((counts : Counts) → ColumnsTold xs (rest counts)) → (counts : Found B → Counts)
            → ColumnsTold (x ∷ xs) (and_then o (λ m. then_joined m ((rest >>= λ ys. pure (m.part ∷ ys)) (counts m))))
        value_made (Err f) h p rest g counts = in_first x xs f (fault_later j f (Site.column_changed table (name_of x)) (sites_of x) h)
        value_made (Ok m) h p rest g counts = behind (x ∷ xs) m ((rest >>= λ ys. pure (m.part ∷ ys)) (counts m)) (last_made m h (p m refl) (rest (counts m)) (g (counts m)) (λ n. after (counts m) n))

        twice_made : (r : Receiver) → HasKind names j fits table t is (name_of x) r → (rest : Rest) → ((counts : Counts) → ColumnsTold xs (rest counts)) → (twice : Bool) → (twice ≡ true → has_name_twice all ≡ true) → (counts : Counts)
            → ColumnsTold (x ∷ xs) ((must (not twice) fault.ColumnTwice >> (make x r >>= λ y. rest >>= λ ys. pure (y ∷ ys))) counts)
        twice_made r kind rest g true again counts = fault_here j fault.ColumnTwice whole (flat_map one_sites (x ∷ xs)) (again refl)
        twice_made r kind rest g false again counts =
            behind (x ∷ xs) tested ((make x r >>= λ y. rest >>= λ ys. pure (y ∷ ys)) (after counts tested))
            (value_made (make x r (after counts tested)) (tells x w r kind (after counts tested)) (λ m e. known x r kind (after counts tested) m e) rest g (λ m. after (after counts tested) m))
          where
            tested : Found (Unit {0})
            tested = record { part = tt; calls = []; calls_can_fail = false; findings = nothing; subqueries = counts.subqueries }

      columns_in_turn : (xs : List A) → AllByRecursion W xs → (before : List Name) → all ≡ before ++ map name_of xs → has_name_twice before ≡ false → (counts : Counts) → ColumnsTold xs (each_column t name_of make before xs counts)
      columns_in_turn [] w before e once counts = record { once = ap has_name_twice (e ∙ append-nil before) ∙ once; there = tt; clean = λ held. no_site j; made = tt }
      columns_in_turn (x ∷ xs) w before e once counts =
          found (receiver_named t (name_of x)) refl (λ next. columns_in_turn xs w.1 (before ++ name_of x ∷ []) (e ∙ sym (append_assoc before (name_of x ∷ []) (map name_of xs))) next)
        where
          again : has_name_twice (before ++ name_of x ∷ []) ≡ true → has_name_twice all ≡ true
          again h = ap has_name_twice (e ∙ sym (append_assoc before (name_of x ∷ []) (map name_of xs))) ∙ twice_longer same_name (before ++ name_of x ∷ []) (map name_of xs) h

          rest : Binding (List B)
          rest = each_column t name_of make (before ++ name_of x ∷ []) xs

          step : Receiver → Binding (List B)
          step r = must (not (has_name_twice (before ++ name_of x ∷ []))) fault.ColumnTwice >> (make x r >>= λ y. rest >>= λ ys. pure (y ∷ ys))

          -- the rest is asked only where the name is not there twice
          stepped : (r : Receiver) → receiver_named t (name_of x) ≡ Ok r → (has_name_twice (before ++ name_of x ∷ []) ≡ false → (counts : Counts) → ColumnsTold xs (rest counts)) → (counts : Counts) → ColumnsTold (x ∷ xs) (step r counts)
          stepped r there further counts = by (has_name_twice (before ++ name_of x ∷ [])) refl
            where
              column : HasKind names j fits table t is (name_of x) r × IsColumn names j fits table t is (name_of x)
              column = column_known names j fits table t is (name_of x) r there

              clean : AllHeld j → CleanSite j (Site.column_changed table (name_of x))
              clean held = clean_first j (Site.column_changed table (name_of x)) [] (subst (Told j (Site.column_changed table (name_of x) ∷ [])) there (column_told names j fits table t is (name_of x)) held)

              by : (b : Bool) → has_name_twice (before ++ name_of x ∷ []) ≡ b → ColumnsTold (x ∷ xs) ((must (not b) fault.ColumnTwice >> (make x r >>= λ y. rest >>= λ ys. pure (y ∷ ys))) counts)
              by true e = fault_here j fault.ColumnTwice whole (flat_map one_sites (x ∷ xs)) (again e)
              by false e = twice_made x w.0 xs column.1 clean r column.0 rest (further e) false (λ t. cc) counts

          found : (o : Outcome Receiver) → receiver_named t (name_of x) ≡ o → (has_name_twice (before ++ name_of x ∷ []) ≡ false → (counts : Counts) → ColumnsTold xs (rest counts))
              → ColumnsTold (x ∷ xs) (and_then (outcome o counts) (λ m. then_joined m (step m.part (after counts m))))
          found (Err f) there further = first_column x xs f (subst (Told j (Site.column_changed table (name_of x) ∷ [])) there (column_told names j fits table t is (name_of x)))
          found (Ok r) there further = behind (x ∷ xs) taken (step r (after counts taken)) (stepped r there further (after counts taken))
            where
              taken : Found Receiver
              taken = record { part = r; calls = []; calls_can_fail = false; findings = nothing; subqueries = counts.subqueries }

    -- from the first on
    pub columns_told : (xs : List A) → AllByRecursion W xs → (counts : Counts) → ColumnsTold (map name_of xs) xs (each_column t name_of make [] xs counts)
    columns_told xs w counts = columns_in_turn (map name_of xs) xs w [] refl refl counts
