-- The columns, the values and the query's columns of INSERT are refused exactly if the rules refuse them (ISO/IEC 9075:1992, 13.8).
use Rattle.std.proofs.Common.{◌≡◌, ℕ, Bool, true, false, ◌||◌, List, [], ◌∷◌, ◌++◌, length, map, Option, Some, None, Ok, Err, append_assoc, arith, refl, sym, ap, subst, ◌∙◌}
use Rattle.std.proofs.lemmas.List.{append-nil, length-map}
use Rattle.std.specs.List.{AllZip, flat_map, list_any, zip}
use Rattle.std.specs.Option.{option_map}
use Rattle.std.specs.Prelude.{⊤, find, if◌then◌else◌, nat_lt, option_to_list}
use Rattle.std.specs.Result.{result_ok}
use Rattle.std.proofs.lemmas.Bool.{or_parts}
use Rattle.sq_lex.specs.declared.name.Name.{Name}
use Rattle.sq_tree.specs.declared.list.CommaList.{CommaList}
use Rattle.sq_meaning.specs.Environment.{TableName, same_name}
use Rattle.sq_meaning.specs.Spelled.{listed, listed_if_any}
use Rattle.sq_meaning.specs.Status as status
use Rattle.sq_meaning.specs.Tables.{ColumnDescriptor, TableDescriptor, column_names}
use Rattle.sq_meaning.specs.Binding.{Judged, breaks, has_fault}
use Rattle.sq_meaning.specs.Schema.{has_name_twice}
use Rattle.sq_meaning.specs.Site.{Site}
use Rattle.sq_meaning.specs.WellFormedStatement.{column_kind, insert_columns}
use Rattle.sq_meaning.specs.declared.fault.BindingFault.{BindingFault}
use Rattle.sq_meaning.specs.declared.fault.BindingFault.TheVariants as fault
use Rattle.sq_binding.specs.Change.{Receiver, itself, receiver_over, receivers_bound, receivers_of}
use Rattle.sq_binding.specs.Changeable.{ChangedTable, UserNames}
use Rattle.sq_binding.specs.Found.{Found}
use Rattle.sq_binding.specs.Outcome.{Outcome}
use Rattle.sq_binding.proofs.Exactly.Apart.{none_too_many}
use Rattle.sq_binding.proofs.Exactly.ChangedTold.{HasKind, IsChanged, TablesFit}
use Rattle.sq_binding.proofs.Faultless.Clean.{AllHeld, Clean, CleanSite, clean_more, no_site, width_clean}
use Rattle.sq_binding.proofs.Faultless.CleanConds.{KnownIf}
use Rattle.sq_binding.proofs.Faultless.CleanQuery.{pure_known}
use Rattle.sq_binding.proofs.Exactly.ColumnsTold.{ColumnsTold, columns_told}
use Rattle.sq_binding.proofs.FaultsFound.FromFaults.{every, one_each}
use Rattle.sq_binding.proofs.Placing.SameParameters.{name_itself}
use Rattle.sq_binding.proofs.FaultsFound.Sites.{fault_here, fault_later}
use Rattle.sq_binding.proofs.Exactly.Tells.{Tells, pure_tells}
use Rattle.sq_binding.proofs.Exactly.Told.{Told}

-- ---- the columns

module _ (names : UserNames) (j : Judged) (fits : TablesFit names j) (table : TableName) (t : ChangedTable) (is : IsChanged names j table t) where
  abbrev pub Kinds : List Name → List Receiver → Type 0
  Kinds = AllZip (HasKind names j fits table t is)

  abbrev pub list_sites : List Name → List Site
  list_sites cs = Site.column_list cs ∷ Site.column_count (length cs) ∷ map (Site.column_changed table) cs

  pub list_clean : (cs : List Name) → has_name_twice cs ≡ false → CleanSite j (Site.column_list cs)
  list_clean cs h fault.ColumnTwice = h
  list_clean cs h _ = refl

  more_asked : (cs : List Name) (f : BindingFault) → has_fault j (Site.column_list cs ∷ flat_map (λ c. Site.column_changed table c ∷ []) cs) f ≡ true → has_fault j (list_sites cs) f ≡ true
  more_asked cs f h = by (breaks j f (Site.column_list cs)) refl (subst (λ sites. has_fault j (Site.column_list cs ∷ sites) f ≡ true) (one_each (Site.column_changed table) cs) h)
    where
      by : (b : Bool) → breaks j f (Site.column_list cs) ≡ b → has_fault j (Site.column_list cs ∷ map (Site.column_changed table) cs) f ≡ true → has_fault j (list_sites cs) f ≡ true
      by true e h = fault_here j f (Site.column_list cs) (Site.column_count (length cs) ∷ map (Site.column_changed table) cs) e
      by false e h =
          fault_later j f (Site.column_list cs) (Site.column_count (length cs) ∷ map (Site.column_changed table) cs)
          (fault_later j f (Site.column_count (length cs)) (map (Site.column_changed table) cs) (ap (λ b. b || has_fault j (map (Site.column_changed table) cs) f) (sym e) ∙ h))

  listed_told : (cs : List Name) (o : Outcome (Found (List Receiver))) → ColumnsTold names j fits table t is (λ c. c) itself (λ c. []) (HasKind names j fits table t is) (λ c. ⊤) (λ c w r kind. pure_tells j r) (λ c r kind. pure_known (HasKind names j fits table t is c) r kind) (map (λ c. c) cs) cs o
      → map (λ c. c) cs ≡ cs → Told j (list_sites cs) o
  listed_told cs (Err f) h same = more_asked cs f (subst (λ ds. has_fault j (Site.column_list ds ∷ flat_map (λ c. Site.column_changed table c ∷ []) cs) f ≡ true) same h)
  listed_told cs (Ok z) h same = λ held.
      let once : has_name_twice cs ≡ false = ap has_name_twice (sym same) ∙ h.once in
      clean_more j (Site.column_list cs) (Site.column_count (length cs) ∷ map (Site.column_changed table) cs) (list_clean cs once)
      (clean_more j (Site.column_count (length cs)) (map (Site.column_changed table) cs)
      (width_clean j (length cs) (none_too_many 64 cs (map (λ c. c.name) t.table.columns) once h.there (ap (nat_lt 64) (length-map t.table.columns (λ (c : ColumnDescriptor). c.name)) ∙ fits.narrow table t.table is.there)))
      (subst (Clean j) (one_each (Site.column_changed table) cs) (h.clean held)))

  itself_same : (cs : List Name) → map (λ c. c) cs ≡ cs
  itself_same [] = refl
  itself_same (c ∷ cs) = ap (λ l. c ∷ l) (itself_same cs)

  no_list_clean : (held : AllHeld j) → Clean j (list_sites [])
  no_list_clean held = clean_more j (Site.column_list []) (Site.column_count 0 ∷ []) (list_clean [] refl) (clean_more j (Site.column_count 0) [] (width_clean j 0 refl) (no_site j))

  pub receivers_tell : (list : Option (CommaList Name)) → Tells j (list_sites (listed_if_any list)) (receivers_bound t list)
  receivers_tell None counts = no_list_clean
  receivers_tell (Some list) counts =
      listed_told (listed list) (receivers_bound t (Some list) counts)
      (columns_told names j fits table t is (λ c. c) itself (λ c. []) (HasKind names j fits table t is) (λ c. ⊤) (λ c w r kind. pure_tells j r) (λ c r kind. pure_known (HasKind names j fits table t is c) r kind) (listed list) (every (listed list)) counts)
      (itself_same (listed list))

  -- ---- the kinds of the columns

  listed_known : (cs : List Name) (z : Found (List Receiver)) → ColumnsTold names j fits table t is (λ c. c) itself (λ c. []) (HasKind names j fits table t is) (λ c. ⊤) (λ c w r kind. pure_tells j r) (λ c r kind. pure_known (HasKind names j fits table t is c) r kind) (map (λ c. c) cs) cs (Ok z)
      → Kinds cs z.part
  listed_known cs z h = h.made

  any_there : (test : Name → Bool) (bs : List ColumnDescriptor) (c : ColumnDescriptor) (cs : List ColumnDescriptor) → list_any test (map (λ c. c.name) (bs ++ c ∷ cs)) ≡ false → test c.name ≡ false
  any_there test [] c cs h = (or_parts (test c.name) (list_any test (map (λ c. c.name) cs)) h).0
  any_there test (b ∷ bs) c cs h = any_there test bs c cs (or_parts (test b.name) (list_any test (map (λ c. c.name) (bs ++ c ∷ cs))) h).1

  -- the first column of a name is the only one
  first_named : (bs : List ColumnDescriptor) (c : ColumnDescriptor) (cs : List ColumnDescriptor) → has_name_twice (map (λ c. c.name) (bs ++ c ∷ cs)) ≡ false → find (λ k. same_name k.name c.name) (bs ++ c ∷ cs) ≡ Some c
  first_named [] c cs h = by (same_name c.name c.name) (name_itself c.name)
    where
      by : (b : Bool) → b ≡ true → (if b then Some c else find (λ k. same_name k.name c.name) cs) ≡ Some c
      by true e = refl
      by false e = cc
  first_named (b ∷ bs) c cs h =
      let parts = or_parts (list_any (same_name b.name) (map (λ c. c.name) (bs ++ c ∷ cs))) (has_name_twice (map (λ c. c.name) (bs ++ c ∷ cs))) h in
      by (same_name b.name c.name) (any_there (same_name b.name) bs c cs parts.0) (first_named bs c cs parts.1)
    where
      by : (x : Bool) → x ≡ false → find (λ k. same_name k.name c.name) (bs ++ c ∷ cs) ≡ Some c → (if x then Some b else find (λ k. same_name k.name c.name) (bs ++ c ∷ cs)) ≡ Some c
      by true e rest = cc
      by false e rest = rest

  kind_of_column : (bs : List ColumnDescriptor) (c : ColumnDescriptor) (cs : List ColumnDescriptor) → t.table.columns ≡ bs ++ c ∷ cs → column_kind j.known.tables table c.name ≡ Ok c.kind
  kind_of_column bs c cs e =
      ap (λ (o : status.Outcome TableDescriptor). status.and_then o (λ d. status.well_formed (option_map (λ k. k.kind) (find (λ k. same_name k.name c.name) d.columns)))) is.known
      ∙ ap (λ (cs : List ColumnDescriptor). status.well_formed (option_map (λ k. k.kind) (find (λ k. same_name k.name c.name) cs))) (sym is.columns ∙ e)
      ∙ ap (λ o. status.well_formed (option_map (λ (k : ColumnDescriptor). k.kind) o)) (first_named bs c cs (ap (λ (cs : List ColumnDescriptor). has_name_twice (map (λ c. c.name) cs)) (sym e) ∙ fits.apart table t.table is.there))

  all_kinds : (us : List ℕ) (bs cs : List ColumnDescriptor) → t.table.columns ≡ bs ++ cs → length us ≡ length cs → Kinds (map (λ c. c.name) cs) (map receiver_over (zip us cs))
  all_kinds [] bs [] e same = tt
  all_kinds [] bs (c ∷ cs) e same = cc
  all_kinds (u ∷ us) bs [] e same = cc
  all_kinds (u ∷ us) bs (c ∷ cs) e same =
      let rest : length us ≡ length cs = omega (arith, same) in (kind_of_column bs c cs e, all_kinds us (bs ++ c ∷ []) cs (e ∙ sym (append_assoc bs (c ∷ []) cs)) rest)

  all_named : insert_columns j.known.tables table None ≡ map (λ c. c.name) t.table.columns
  all_named = ap (λ o. flat_map column_names (option_to_list (result_ok o))) is.known ∙ append-nil (column_names is.descriptor) ∙ ap (λ (cs : List ColumnDescriptor). map (λ c. c.name) cs) (sym is.columns)

  pub receivers_known : (list : Option (CommaList Name)) → KnownIf (Kinds (insert_columns j.known.tables table list)) (receivers_bound t list)
  receivers_known None counts z so =
      pure_known (Kinds (insert_columns j.known.tables table None)) (receivers_of t) (subst (λ cs. Kinds cs (receivers_of t)) (sym all_named) (all_kinds t.under.columns [] t.table.columns refl (fits.wide table t.table t.under is.there is.under))) counts z so
  receivers_known (Some list) counts z so =
      listed_known (listed list) z
      (subst (ColumnsTold names j fits table t is (λ c. c) itself (λ c. []) (HasKind names j fits table t is) (λ c. ⊤) (λ c w r kind. pure_tells j r) (λ c r kind. pure_known (HasKind names j fits table t is c) r kind) (map (λ c. c) (listed list)) (listed list)) so
      (columns_told names j fits table t is (λ c. c) itself (λ c. []) (HasKind names j fits table t is) (λ c. ⊤) (λ c w r kind. pure_tells j r) (λ c r kind. pure_known (HasKind names j fits table t is c) r kind) (listed list) (every (listed list)) counts))

  pub kinds_are : (cs : List Name) (rs : List Receiver) → Kinds cs rs → map (λ r. Ok r.kind) rs ≡ map (column_kind j.known.tables table) cs
  kinds_are [] [] h = refl
  kinds_are [] (r ∷ rs) h = absurd h
  kinds_are (c ∷ cs) [] h = absurd h
  kinds_are (c ∷ cs) (r ∷ rs) h = λ i. sym h.0 i ∷ kinds_are cs rs h.1 i
