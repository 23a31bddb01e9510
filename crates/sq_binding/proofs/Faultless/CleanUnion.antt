-- A query expression that is bound breaks no rule of syntax (ISO/IEC 9075:1992, 7.10).
use Rattle.std.proofs.Common.{◌≡◌, true, false, not, List, [], ◌∷◌, ◌++◌, length, Ok, refl, ap, subst}
use Rattle.std.specs.List.{flat_map, zip}
use Rattle.std.specs.Prelude.{⊤, ◌==◌}
use Rattle.std.specs.Result.{result_ok}
use Rattle.sq_value.specs.declared.domain.Kind.{Kind}
use Rattle.sq_meaning.specs.Kind.{common_kind}
use Rattle.sq_meaning.specs.SortKeys.{common_name}
use Rattle.sq_meaning.specs.Spelled.{Named}
use Rattle.sq_meaning.specs.Syntax.{Query, specification, union}
use Rattle.sq_meaning.specs.Binding.{Judged}
use Rattle.sq_meaning.specs.Site.{Site, alike_pairs, query_count, query_kinds_of, query_sites}
use Rattle.sq_meaning.specs.declared.fault.BindingFault.TheVariants as fault
use Rattle.sq_binding.specs.Condition.{select_bound}
use Rattle.sq_binding.specs.Found.{Binding, Counts, Found, ◌>>=◌, each, must, outcome, pure}
use Rattle.sq_binding.specs.From.{NamedTables}
use Rattle.sq_binding.specs.NumberedCondition.{ResultColumn}
use Rattle.sq_binding.specs.Outcome.{Outcome, or_fault}
use Rattle.sq_binding.specs.QueryExpression.{NumberedQuery, columns_of_query, common_column, common_columns, query_bound}
use Rattle.sq_binding.specs.Select.{Surroundings}
use Rattle.sq_binding.proofs.Faultless.Clean.{AllHeld, Clean, alike_clean, clean_both, clean_more, counts_clean, no_site}
use Rattle.sq_binding.proofs.Faultless.CleanBound.{select_clean}
use Rattle.sq_binding.proofs.Faultless.CleanConds.{CleanIf, KnownIf, after_of, known_of, must_true}
use Rattle.sq_binding.proofs.Faultless.CleanSelect.{each_is_clean, outcome_ok}
use Rattle.sq_binding.proofs.FaultsFound.FromFaults.{NamesFit}
use Rattle.sq_binding.proofs.FaultsFound.PredicateFaults.{surrounded}
use Rattle.sq_binding.proofs.FaultsFound.UnionFaults.{CommonOrNot, IsQuery, QuerySpellsNoNull, alike, column_sites, common_or_not, query_faults, sites_are}

module _ (j : Judged) where
  common_clean : (p : ResultColumn × ResultColumn) → CleanIf j ⊤ (alike p ∷ []) (common_column p)
  common_clean p counts z is loose =
      let s = after_of (outcome common) (λ k. pure (column k)) counts z is in
      let found = outcome_ok common counts s.first s.is_first in
      clean_more j (alike p) [] (alike_clean j (Ok p.0.kind) (Ok p.1.kind) (subst (CommonOrNot p.0.kind p.1.kind) found (common_or_not p.0.kind p.1.kind)).1) (no_site j)
    where
      common : Outcome Kind
      common = or_fault fault.KindMismatch (result_ok (common_kind p.0.kind p.1.kind))

      column : Kind → ResultColumn
      column k = record { name = common_name p.0.name p.1.name; kind = k }

  pub columns_clean : (left right : List ResultColumn) (counts : Counts) (z : Found (List ResultColumn)) → common_columns left right counts ≡ Ok z → Clean j (column_sites j ⊥ (false ≡ true) left right)
  columns_clean left right counts z is =
      let s = after_of (must (length left == length right) fault.CountMismatch) (λ _. each common_column (zip left right)) counts z is in
      let same : (length left == length right) ≡ true = must_true j ⊤ (length left == length right) fault.CountMismatch counts s.first s.is_first in
      clean_more j (Site.counts (length left) (length right)) (flat_map (λ p. alike p ∷ []) (zip left right)) (counts_clean j (length left) (length right) (ap not same))
      (each_is_clean j ⊤ (λ p. alike p ∷ []) common_column common_clean (zip left right) _ s.second s.is_second (λ t. tt))

module _ (names : NamedTables) (j : Judged) (fit : NamesFit names j) (held : AllHeld j) where
  abbrev nowhere : Surroundings
  nowhere = surrounded names j [] false

  pub query_known : (q : Query Named) → QuerySpellsNoNull q → KnownIf (IsQuery j q) (query_bound nowhere q)
  query_known q null = known_of j (query_sites j.known q) ⊥ (false ≡ true) (IsQuery j q) (query_bound nowhere q) (query_faults names j fit q null)

  pub query_clean : (q : Query Named) → QuerySpellsNoNull q → (counts : Counts) (z : Found NumberedQuery) → query_bound nowhere q counts ≡ Ok z → Clean j (query_sites j.known q)
  query_clean (specification q) null counts z is =
      let s = after_of (select_bound nowhere q) (λ x. pure (NumberedQuery.select x)) counts z is in
      select_clean names j fit held q null [] [] tt (λ depth. tt) (λ depth p grouped. refl) false counts s.first s.is_first
  query_clean (union all left right) null counts z is =
      let s = after_of (query_bound nowhere left) after_left counts z is in
      let x = s.first.part in
      let t = after_of (query_bound nowhere right) (after_right x) _ s.second s.is_second in
      let y = t.first.part in
      let u = after_of (common_columns (columns_of_query x) (columns_of_query y)) (λ columns. pure (NumberedQuery.joined all x y columns)) _ t.second t.is_second in
      let asked = sites_are names j fit left right x y (query_known left null.0 counts s.first s.is_first) (query_known right null.1 _ t.first t.is_first) in
      clean_both j (rules ++ query_sites j.known left) (query_sites j.known right)
      (clean_both j rules (query_sites j.known left) (subst (Clean j) asked (columns_clean j (columns_of_query x) (columns_of_query y) _ u.first u.is_first)) (query_clean left null.0 counts s.first s.is_first))
      (query_clean right null.1 _ t.first t.is_first)
    where
      rules : List Site
      rules = Site.counts (query_count j.known.tables left) (query_count j.known.tables right) ∷ alike_pairs (query_kinds_of j.known left) (query_kinds_of j.known right)

      after_right : NumberedQuery → NumberedQuery → Binding NumberedQuery
      after_right x y = common_columns (columns_of_query x) (columns_of_query y) >>= λ columns. pure (NumberedQuery.joined all x y columns)

      after_left : NumberedQuery → Binding NumberedQuery
      after_left x = query_bound nowhere right >>= after_right x
