-- A table that may be changed, as an item with its columns at their positions in the base table. Conditions are bound over it as over the
-- table itself (ISO/IEC 9075:1992, 7.9 and 13.6 to 13.10).
use Rattle.std.proofs.Common.{◌≡◌, ℕ, zero, suc, ◌+◌, true, false, List, [], ◌∷◌, length, map, Some, None, Ok, Err, arith, refl, sym, ap, subst, ◌∙◌}
use Rattle.std.specs.List.{AllZip, enumerate_from, zip}
use Rattle.std.specs.Prelude.{⊤, slice_get}
use Rattle.sq_meaning.specs.Environment.{TableReference}
use Rattle.sq_meaning.specs.Spelled.{Named}
use Rattle.sq_meaning.specs.Syntax.{Clause}
use Rattle.sq_meaning.specs.Tables.{ColumnDescriptor, descriptor_of}
use Rattle.sq_meaning.specs.Binding.{Judged, has_fault}
use Rattle.sq_meaning.specs.Site.{Site, clause_sites, plain_query}
use Rattle.sq_meaning.specs.declared.fault.BindingFault.TheVariants as fault
use Rattle.sq_binding.specs.Changeable.{ChangedTable, UnderTable, condition_bound, item_at_leaf}
use Rattle.sq_binding.specs.Condition.{clause_bound}
use Rattle.sq_binding.specs.Found.{Counts, Found}
use Rattle.sq_binding.specs.From.{NamedTable, NamedTables, column_over, item_over}
use Rattle.sq_binding.specs.NumberedCondition.{NumberedClause}
use Rattle.sq_binding.specs.Outcome.{Outcome, or_fault}
use Rattle.sq_binding.specs.Scope.{FromItem, Scope, column_numbered}
use Rattle.sq_binding.specs.Select.{Surroundings}
use Rattle.sq_binding.proofs.OneTable.Alike.{Both, Like, LikeColumns}
use Rattle.sq_binding.proofs.OneTable.AlikeConds.{LikeClause, clause_alike}
use Rattle.sq_binding.proofs.OneTable.AlikeParts.{LikePart}
use Rattle.sq_binding.proofs.Faultless.CleanBound.{clause_clean}
use Rattle.sq_binding.proofs.Faultless.CleanSelect.{tight_lines}
use Rattle.sq_binding.proofs.FaultsFound.CondFaults.{ClauseSpellsNoNull, clause_faults}
use Rattle.sq_binding.proofs.FaultsFound.FoundKinds.{standing}
use Rattle.sq_binding.proofs.FaultsFound.FromFaults.{AreItems, NamesFit, table_known}
use Rattle.sq_binding.proofs.FaultsFound.Known.{IsOver}
use Rattle.sq_binding.proofs.FaultsFound.PredicateFaults.{surrounded}
use Rattle.sq_binding.proofs.FaultsFound.SelectFaults.{groups_of_lines, lines_over, over_lines}
use Rattle.sq_binding.proofs.Exactly.Tells.{Tells, judged_tells}
use Rattle.sq_binding.proofs.Exactly.Told.{Told}

-- ---- the item at the base table and the item of the table

names_zipped : (us : List ℕ) (cs : List ColumnDescriptor) → length us ≡ length cs → map (λ c. c.name) (map column_over (zip us cs)) ≡ map (λ c. c.name) cs
names_zipped [] [] e = refl
names_zipped [] (c ∷ cs) e = cc
names_zipped (u ∷ us) [] e = cc
names_zipped (u ∷ us) (c ∷ cs) e = let rest : length us ≡ length cs = omega (arith, e) in ap (λ l. c.name ∷ l) (names_zipped us cs rest)

names_listed : (n : ℕ) (cs : List ColumnDescriptor) → map (λ c. c.name) (map column_over (enumerate_from n cs)) ≡ map (λ c. c.name) cs
names_listed n [] = refl
names_listed n (c ∷ cs) = ap (λ l. c.name ∷ l) (names_listed (n + 1) cs)

columns_like : (item m : ℕ) (us : List ℕ) (cs : List ColumnDescriptor) → length us ≡ length cs → (n : ℕ)
    → LikeColumns None None item (slice_get (map column_over (enumerate_from m cs)) n) (slice_get (map column_over (zip us cs)) n)
columns_like item m [] [] e n = tt
columns_like item m [] (c ∷ cs) e n = cc
columns_like item m (u ∷ us) [] e n = cc
columns_like item m (u ∷ us) (c ∷ cs) e zero = (refl, refl)
columns_like item m (u ∷ us) (c ∷ cs) e (suc n) = let rest : length us ≡ length cs = omega (arith, e) in columns_like item (m + 1) us cs rest n

-- a scope with an item alone, in which any column may stand
abbrev pub alone : FromItem → Scope
alone item = record { items = item ∷ []; grouping = None }

module _ (r : TableReference) (t : NamedTable) (u : UnderTable) (wide : length u.columns ≡ length t.columns) where
  abbrev changed : ChangedTable
  changed = record { reference = r; table = t; under = u }

  at_like : (item n : ℕ) → LikeColumns None None item (column_numbered (alone (item_over r t).item) (item, n)) (column_numbered (alone (item_at_leaf changed)) (item, n))
  at_like zero n = columns_like 0 0 u.columns t.columns wide n
  at_like (suc item) n = tt

  pub leaf_like : Like (alone (item_over r t).item) (alone (item_at_leaf changed))
  leaf_like = record {
    named = λ i. record { reference = r; columns = (names_listed 0 t.columns ∙ sym (names_zipped u.columns t.columns wide)) i } ∷ [];
    columns = λ at. at_like at.0 at.1;
  }

-- ---- conditions on a table

pub both_told : {A B : Type 0} (j : Judged) (sites : List Site) (R : A → B → Type 0) (o : Outcome A) (p : Outcome B) → Both R o p → Told j sites o → Told j sites p
both_told j sites R (Ok x) (Ok y) b h = h
both_told j sites R (Err f) (Err g) b h = subst (λ f. has_fault j sites f ≡ true) b h
both_told j sites R (Ok x) (Err g) b h = absurd b
both_told j sites R (Err f) (Ok y) b h = absurd b

module _ (names : NamedTables) (j : Judged) (fit : NamesFit names j) (r : TableReference) (t : NamedTable) (there : names r.table ≡ Some t) where
  pub own_items : AreItems j (r ∷ []) (item_over r t ∷ [])
  own_items =
      let known = table_known (names r.table) (descriptor_of j.known.tables r.table) (fit r.table) t (ap (or_fault fault.UnknownTable) there) in
      record { items_are = λ i. record { reference = r; columns = map column_over (enumerate_from 0 (known.0 i)) } ∷ []; known = (known.1, tt) }

  pub own_over : AllZip (IsOver j.known) (alone (item_over r t).item ∷ []) (plain_query (r ∷ []) ∷ [])
  own_over = over_lines j [] [] tt (λ depth. tt) (r ∷ []) (item_over r t ∷ []) own_items

  abbrev pub own : Surroundings
  own = surrounded names j (alone (item_over r t).item ∷ []) false

  abbrev pub sites_on : Clause Named → List Site
  sites_on c = clause_sites j.known (standing (plain_query (r ∷ []) ∷ []) false false) c

  pub own_tells : (c : Clause Named) → ClauseSpellsNoNull c → Tells j (sites_on c) (clause_bound own c)
  own_tells c null =
      judged_tells j (sites_on c) _ _ _ (clause_bound own c)
      (clause_faults names j fit c null (lines_over (item_over r t ∷ []) ∷ []) (plain_query (r ∷ []) ∷ []) own_over (λ is. groups_of_lines j [] [] tt (λ depth. tt) (r ∷ []) (item_over r t ∷ []) own_items) false)
      (λ held counts z is. clause_clean names j fit held c null (lines_over (item_over r t ∷ []) ∷ []) (plain_query (r ∷ []) ∷ []) own_over (λ is. groups_of_lines j [] [] tt (λ depth. tt) (r ∷ []) (item_over r t ∷ []) own_items)
      (tight_lines j [] [] tt (λ depth. tt) (λ depth p grouped. refl) (r ∷ []) (item_over r t ∷ []) own_items) false counts z is (λ free p. refl))

  module _ (u : UnderTable) (wide : length u.columns ≡ length t.columns) where
    -- a condition is bound over the item at the base table as over the table
    pub condition_like : (c : Clause Named) (counts : Counts) → Both (LikePart (λ x y. ⊤)) (clause_bound own c (record counts { functions = 0 })) (condition_bound (surrounded names j [] false) (record { reference = r; table = t; under = u }) c counts)
    condition_like c counts =
        weaker (clause_bound own c (record counts { functions = 0 })) (condition_bound (surrounded names j [] false) (record { reference = r; table = t; under = u }) c counts)
        (clause_alike j.known.parameters c names names (λ is. refl) (alone (item_over r t).item ∷ []) (alone (item_at_leaf (record { reference = r; table = t; under = u })) ∷ []) (leaf_like r t u wide, tt) false (record counts { functions = 0 }))
      where
        weaker : (o p : Outcome (Found NumberedClause)) → Both (LikePart LikeClause) o p → Both (LikePart (λ x y. ⊤)) o p
        weaker (Ok x) (Ok y) b = record { part = tt; count = b.count; can_fail = b.can_fail; findings = b.findings; subqueries = b.subqueries }
        weaker (Err f) (Err g) b = b
        weaker (Ok x) (Err g) b = absurd b
        weaker (Err f) (Ok y) b = absurd b

    pub condition_tells : (c : Clause Named) → ClauseSpellsNoNull c → Tells j (sites_on c) (condition_bound (surrounded names j [] false) (record { reference = r; table = t; under = u }) c)
    condition_tells c null counts =
        both_told j (sites_on c) (LikePart (λ x y. ⊤)) (clause_bound own c (record counts { functions = 0 })) (condition_bound (surrounded names j [] false) (record { reference = r; table = t; under = u }) c counts) (condition_like c counts)
        (own_tells c null (record counts { functions = 0 }))
