-- The rows of INSERT are refused exactly if the rules refuse them: values, and the columns of a query (ISO/IEC 9075:1992, 13.8).
use Rattle.std.proofs.Common.{◌≡◌, ℕ, false, not, List, [], ◌∷◌, ◌++◌, length, map, Ok, refl, sym, ap, subst, ◌∙◌}
use Rattle.std.proofs.lemmas.List.{length-map}
use Rattle.std.specs.List.{AllByRecursion, flat_map, zip}
use Rattle.std.specs.Prelude.{⊤, ◌==◌}
use Rattle.sq_value.specs.declared.domain.Kind.{Kind}
use Rattle.sq_tree.specs.declared.statement.InsertSource.{InsertSource}
use Rattle.sq_tree.specs.declared.statement.InsertSource.TheVariants as source
use Rattle.sq_tree.specs.declared.statement.NewValue.{NewValue}
use Rattle.sq_meaning.specs.Spelled.{Named, listed, select_of}
use Rattle.sq_meaning.specs.Status as status
use Rattle.sq_meaning.specs.Syntax.{Select}
use Rattle.sq_meaning.specs.Binding.{Judged}
use Rattle.sq_meaning.specs.Site.{Site, kinds_here, outside, select_count, select_sites}
use Rattle.sq_meaning.specs.WellFormedStatement.{each_kind, pair_sites, value_sites}
use Rattle.sq_meaning.specs.declared.fault.BindingFault.TheVariants as fault
use Rattle.sq_binding.specs.Change.{NumberedSource, Receiver, column_for, source_bound, value_for}
use Rattle.sq_binding.specs.Changeable.{UserNames}
use Rattle.sq_binding.specs.Condition.{select_bound}
use Rattle.sq_binding.specs.Found.{◌>>=◌, ◌>>◌, each, must, pure}
use Rattle.sq_binding.specs.NumberedCondition.{NumberedSelect, ResultColumn, columns_of}
use Rattle.sq_binding.specs.Select.{Surroundings}
use Rattle.sq_binding.proofs.Faultless.Clean.{clean_more, counts_clean, no_site}
use Rattle.sq_binding.proofs.FaultsFound.CondFaults.{SelectSpellsNoNull}
use Rattle.sq_binding.proofs.Exactly.CursorAccepted.{select_tells}
use Rattle.sq_binding.proofs.FaultsFound.FromFaults.{NamesFit}
use Rattle.sq_binding.proofs.FaultsFound.PredicateFaults.{IsShown, surrounded}
use Rattle.sq_binding.proofs.Exactly.RowAccepted.{select_known}
use Rattle.sq_binding.proofs.FaultsFound.Sites.{fault_here}
use Rattle.sq_binding.proofs.Exactly.Tells.{Tells, each_tells, each_tells_if, made_tells, must_tells, then_tells, turned_tells}
use Rattle.sq_binding.proofs.Exactly.ValuesTold.{ValueSpellsNoNull, agree_tells, outside_tells}

-- no literal is the null value (5.3)
abbrev pub SourceSpellsNoNull : UserNames → InsertSource → Type 0
SourceSpellsNoNull names (source.Values list) = AllByRecursion ValueSpellsNoNull (listed list)
SourceSpellsNoNull names (source.Query q) = SelectSpellsNoNull (select_of names.user q)

module _ (names : UserNames) (j : Judged) (fit : NamesFit names.tables j) where
  abbrev a : Surroundings
  a = surrounded names.tables j [] false

  -- the sites at which the rules ask for the kinds of the columns
  abbrev pub rows_sites : List (status.Outcome Kind) → InsertSource → List Site
  rows_sites kinds (source.Values values) = Site.counts (length kinds) (length (listed values)) ∷ flat_map (λ p. value_sites j.known outside p.0 p.1) (zip kinds (listed values))
  rows_sites kinds (source.Query q) =
      Site.counts (length kinds) (select_count j.known.tables (select_of names.user q)) ∷ pair_sites kinds (each_kind (kinds_here j.known outside (select_of names.user q))) ++ select_sites j.known outside (select_of names.user q)

  abbrev pub kinds_of : List Receiver → List (status.Outcome Kind)
  kinds_of rs = map (λ r. Ok r.kind) rs

  counts_tells : (m n k l : ℕ) → m ≡ k → n ≡ l → Tells j (Site.counts m n ∷ []) (must (k == l) fault.CountMismatch)
  counts_tells m n k l e f =
      must_tells j (Site.counts m n ∷ []) (k == l) fault.CountMismatch (λ same held. clean_more j (Site.counts m n) [] (counts_clean j m n ((λ i. not (e i == f i)) ∙ ap not same)) (no_site j))
      (λ differ. fault_here j fault.CountMismatch (Site.counts m n) [] ((λ i. not (e i == f i)) ∙ ap not differ))

  zipped_null : (rs : List Receiver) (vs : List NewValue) → AllByRecursion ValueSpellsNoNull vs → AllByRecursion (λ (p : Receiver × NewValue). ValueSpellsNoNull p.1) (zip rs vs)
  zipped_null [] vs h = tt
  zipped_null (r ∷ rs) [] h = tt
  zipped_null (r ∷ rs) (v ∷ vs) h = (h.0, zipped_null rs vs h.1)

  values_are : (rs : List Receiver) (vs : List NewValue) → flat_map (λ (p : Receiver × NewValue). value_sites j.known outside (Ok p.0.kind) p.1) (zip rs vs) ≡ flat_map (λ p. value_sites j.known outside p.0 p.1) (zip (kinds_of rs) vs)
  values_are [] vs = refl
  values_are (r ∷ rs) [] = refl
  values_are (r ∷ rs) (v ∷ vs) = ap (λ l. value_sites j.known outside (Ok r.kind) v ++ l) (values_are rs vs)

  pairs_are : (cs : List ResultColumn) (rs : List Receiver) → flat_map (λ (p : ResultColumn × Receiver). Site.alike_wanted (Ok p.1.kind) (Ok p.0.kind) ∷ []) (zip cs rs) ≡ pair_sites (kinds_of rs) (map Ok (map (λ c. c.kind) cs))
  pairs_are [] [] = refl
  pairs_are [] (r ∷ rs) = refl
  pairs_are (c ∷ cs) [] = refl
  pairs_are (c ∷ cs) (r ∷ rs) = ap (λ l. Site.alike_wanted (Ok r.kind) (Ok c.kind) ∷ l) (pairs_are cs rs)

  kinds_count : (rs : List Receiver) → length (kinds_of rs) ≡ length rs
  kinds_count rs = length-map rs (λ (r : Receiver). Ok r.kind)

  pub rows_tell : (rs : List Receiver) (s : InsertSource) → SourceSpellsNoNull names s → Tells j (rows_sites (kinds_of rs) s) (source_bound names a rs s)
  rows_tell rs (source.Values values) null =
      then_tells j (Site.counts (length (kinds_of rs)) (length (listed values)) ∷ []) (flat_map (λ p. value_sites j.known outside p.0 p.1) (zip (kinds_of rs) (listed values))) (λ u. ⊤) (must (length rs == length (listed values)) fault.CountMismatch)
      (λ _. each (value_for a) (zip rs (listed values)) >>= λ given. pure (NumberedSource.values given)) (λ counts z is. tt) (counts_tells (length (kinds_of rs)) (length (listed values)) (length rs) (length (listed values)) (kinds_count rs) refl)
      (λ u w. made_tells j (flat_map (λ p. value_sites j.known outside p.0 p.1) (zip (kinds_of rs) (listed values))) (each (value_for a) (zip rs (listed values))) (λ given. NumberedSource.values given)
      (subst (λ sites. Tells j sites (each (value_for a) (zip rs (listed values)))) (values_are rs (listed values))
      (each_tells_if j (λ (p : Receiver × NewValue). ValueSpellsNoNull p.1) (λ (p : Receiver × NewValue). value_sites j.known outside (Ok p.0.kind) p.1) (value_for a)
      (λ p n. outside_tells names.tables j (Ok p.0.kind) p.0.kind refl p.1 n) (zip rs (listed values)) (zipped_null rs (listed values) null))))
  rows_tell rs (source.Query q) null =
      turned_tells j (select_sites j.known outside s) asked (source_bound names a rs (source.Query q))
      (then_tells j (select_sites j.known outside s) asked (IsShown names.tables j [] [] tt (λ depth far. tt) false s) (select_bound a s)
      (λ x. must (length rs == length (columns_of x)) fault.CountMismatch >> (each column_for (zip (columns_of x) rs) >> pure (NumberedSource.query x))) (select_known names j fit s null) (select_tells names j fit s null)
      (λ x shown. subst (λ sites. Tells j sites (must (length rs == length (columns_of x)) fault.CountMismatch >> (each column_for (zip (columns_of x) rs) >> pure (NumberedSource.query x)))) (asked_are x shown)
      (then_tells j (Site.counts (length (kinds_of rs)) (length (columns_of x)) ∷ []) (pair_sites (kinds_of rs) (map Ok (map (λ c. c.kind) (columns_of x)))) (λ u. ⊤) (must (length rs == length (columns_of x)) fault.CountMismatch)
      (λ _. each column_for (zip (columns_of x) rs) >> pure (NumberedSource.query x)) (λ counts z is. tt) (counts_tells (length (kinds_of rs)) (length (columns_of x)) (length rs) (length (columns_of x)) (kinds_count rs) refl)
      (λ u w. made_tells j (pair_sites (kinds_of rs) (map Ok (map (λ c. c.kind) (columns_of x)))) (each column_for (zip (columns_of x) rs)) (λ _. NumberedSource.query x)
      (subst (λ sites. Tells j sites (each column_for (zip (columns_of x) rs))) (pairs_are (columns_of x) rs)
      (each_tells j (λ (p : ResultColumn × Receiver). Site.alike_wanted (Ok p.1.kind) (Ok p.0.kind) ∷ []) column_for (λ p. agree_tells j (Ok p.1.kind) (Ok p.0.kind) p.1.kind p.0.kind refl refl) (zip (columns_of x) rs)))))))
    where
      s : Select Named
      s = select_of names.user q

      asked : List Site
      asked = Site.counts (length (kinds_of rs)) (select_count j.known.tables s) ∷ pair_sites (kinds_of rs) (each_kind (kinds_here j.known outside s))

      asked_are : (x : NumberedSelect) → IsShown names.tables j [] [] tt (λ depth far. tt) false s x → (Site.counts (length (kinds_of rs)) (length (columns_of x)) ∷ pair_sites (kinds_of rs) (map Ok (map (λ c. c.kind) (columns_of x)))) ≡ asked
      asked_are x shown = λ i. Site.counts (length (kinds_of rs)) (sym shown.count i) ∷ pair_sites (kinds_of rs) (each_kind (sym shown.kinds i))
