-- SELECT INTO is bound exactly if the rules find no fault in it (ISO/IEC 9075:1992, 13.5).
use Rattle.std.proofs.Common.{◌≡◌, ℕ, true, false, ◌||◌, List, [], ◌∷◌, ◌++◌, length, map, Ok, refl, sym, ap, subst, ◌∙◌}
use Rattle.std.proofs.lemmas.List.{length-map}
use Rattle.std.specs.List.{list_any, zip}
use Rattle.std.specs.Prelude.{⊤}
use Rattle.sq_value.specs.declared.domain.Kind.{Kind}
use Rattle.sq_tree.specs.declared.list.CommaList.{CommaList}
use Rattle.sq_tree.specs.declared.names.Parameter.{Parameter}
use Rattle.sq_tree.specs.declared.statement.Select.{Select as SelectStatement}
use Rattle.sq_meaning.specs.Spelled.{Named, listed}
use Rattle.sq_meaning.specs.Status as status
use Rattle.sq_meaning.specs.Syntax.{Select}
use Rattle.sq_meaning.specs.Binding.{Judged, lacks_privilege}
use Rattle.sq_meaning.specs.Site.{Site, kinds_here, outside, select_count, select_sites}
use Rattle.sq_meaning.specs.WellFormedStatement.{each_kind, into_sites, pair_sites, select_of_statement, target_kind}
use Rattle.sq_binding.specs.Changeable.{UserNames}
use Rattle.sq_binding.specs.Condition.{select_bound}
use Rattle.sq_binding.specs.Found.{Counts, Found, ◌>>=◌, outcome, pure}
use Rattle.sq_binding.specs.NumberedCondition.{ResultColumn, columns_of}
use Rattle.sq_binding.specs.Row.{NumberedRow, row_bound}
use Rattle.sq_binding.specs.Targets.{targets_bound}
use Rattle.sq_binding.specs.Whole.{at_first, whole}
use Rattle.sq_binding.proofs.Exactly.Accepted.{all_held}
use Rattle.sq_binding.proofs.Exactly.Accepts.{Accepts, whole_accepts}
use Rattle.sq_binding.proofs.Faultless.CleanConds.{KnownIf, known_of}
use Rattle.sq_binding.proofs.FaultsFound.CondFaults.{SelectSpellsNoNull, select_faults}
use Rattle.sq_binding.proofs.Exactly.CursorAccepted.{UserFits, select_tells}
use Rattle.sq_binding.proofs.FaultsFound.FromFaults.{NamesFit}
use Rattle.sq_binding.proofs.FaultsFound.PredicateFaults.{IsShown, surrounded}
use Rattle.sq_binding.proofs.AtSites.Privileges.{Anywhere, is_missing, lacking, privileges_seen, select_lacks}
use Rattle.sq_binding.proofs.AtSites.Seen.{any_both, last_seen, outcome_seen, then_seen}
use Rattle.sq_binding.proofs.Exactly.TargetsTold.{target_sites, targets_told}
use Rattle.sq_binding.proofs.Exactly.Tells.{Tells, made_tells, outcome_tells, then_tells}
use Rattle.sq_binding.proofs.Exactly.Told.{Told}

-- ---- targets of columns that are known

-- the rules ask the same of targets where they know the kinds of the columns
pub into_are : (j : Judged) (list : CommaList Parameter) (n : ℕ) (o : status.Outcome (List Kind)) (ks : List Kind) → o ≡ Ok ks → n ≡ length ks → target_sites j (listed list) ks ≡ into_sites j.known list n o
into_are j list n o ks e count = λ i. Site.targets (listed list) ∷ Site.counts (length (listed list)) (sym count i) ∷ pair_sites (map (target_kind j.known) (listed list)) (each_kind (sym e i))

pairs_quiet : (j : Judged) (ps : List (status.Outcome Kind × status.Outcome Kind)) → list_any (is_missing j) (map (λ p. Site.alike_wanted p.0 p.1) ps) ≡ false
pairs_quiet j [] = refl
pairs_quiet j (p ∷ ps) = pairs_quiet j ps

pub pair_sites_quiet : (j : Judged) (ks ls : List (status.Outcome Kind)) → list_any (is_missing j) (pair_sites ks ls) ≡ false
pair_sites_quiet j ks ls = pairs_quiet j (zip ks ls)

-- no target needs a privilege
pub into_quiet : (j : Judged) (list : CommaList Parameter) (n : ℕ) (o : status.Outcome (List Kind)) → list_any (is_missing j) (into_sites j.known list n o) ≡ false
into_quiet j list n o = pair_sites_quiet j (map (target_kind j.known) (listed list)) (each_kind o)

-- ---- SELECT INTO

module _ (names : UserNames) (j : Judged) (fit : NamesFit names.tables j) where
  abbrev query_of : SelectStatement → Select Named
  query_of s = select_of_statement names.user s

  abbrev into : SelectStatement → List Site
  into s = into_sites j.known s.targets (select_count j.known.tables (query_of s)) (kinds_here j.known outside (query_of s))

  abbrev pub row_sites : SelectStatement → List Site
  row_sites s = select_sites j.known outside (query_of s) ++ into s

  pub select_known : (q : Select Named) → SelectSpellsNoNull q → KnownIf (IsShown names.tables j [] [] tt (λ depth far. tt) false q) (select_bound (surrounded names.tables j [] false) q)
  select_known q null = known_of j (select_sites j.known outside q) ⊥ (false ≡ true) (IsShown names.tables j [] [] tt (λ depth far. tt) false q) (select_bound (surrounded names.tables j [] false) q) (select_faults names.tables j fit q null [] [] tt (λ depth. tt) false)

  row_tells : (s : SelectStatement) → SelectSpellsNoNull (query_of s) → Tells j (row_sites s) (row_bound names j.known.parameters s)
  row_tells s null =
      then_tells j (select_sites j.known outside (query_of s)) (into s) (IsShown names.tables j [] [] tt (λ depth far. tt) false (query_of s)) (select_bound (surrounded names.tables j [] false) (query_of s))
      (λ x. outcome (targets_bound j.known.parameters (listed s.targets) (map (λ c. c.kind) (columns_of x))) >>= λ targets. pure (record { query = x; targets = targets })) (select_known (query_of s) null) (select_tells names j fit (query_of s) null)
      (λ x shown. made_tells j (into s) (outcome (targets_bound j.known.parameters (listed s.targets) (map (λ c. c.kind) (columns_of x)))) (λ targets. record { query = x; targets = targets })
      (outcome_tells j (into s) (targets_bound j.known.parameters (listed s.targets) (map (λ c. c.kind) (columns_of x)))
      (subst (λ sites. Told j sites (targets_bound j.known.parameters (listed s.targets) (map (λ c. c.kind) (columns_of x))))
      (into_are j s.targets (select_count j.known.tables (query_of s)) (kinds_here j.known outside (query_of s)) (map (λ c. c.kind) (columns_of x)) shown.kinds (shown.count ∙ sym (length-map (columns_of x) (λ (c : ResultColumn). c.kind))))
      (targets_told j (listed s.targets) (map (λ c. c.kind) (columns_of x))))))

module _ (names : UserNames) (j : Judged) (fits : UserFits names j) where
  row_lacks : (s : SelectStatement) (counts : Counts) (z : Found NumberedRow) → row_bound names j.known.parameters s counts ≡ Ok z → z.findings.lacks_privilege ≡ lacks_privilege j (row_sites names j fits.tables s)
  row_lacks s =
      then_seen names.tables j (is_missing j) lacking Anywhere (privileges_seen names.tables j fits.tables fits.reads) (select_sites j.known outside q) [] (row_sites names j fits.tables s) (λ x. ⊤) (select_bound (surrounded names.tables j [] false) q)
      (λ x. outcome (targets_bound j.known.parameters (listed s.targets) (map (λ c. c.kind) (columns_of x))) >>= λ targets. pure (record { query = x; targets = targets })) (λ counts z is. tt) (select_lacks names.tables j fits.tables fits.reads q)
      (λ x u. last_seen names.tables j (is_missing j) lacking Anywhere (privileges_seen names.tables j fits.tables fits.reads) [] (outcome (targets_bound j.known.parameters (listed s.targets) (map (λ c. c.kind) (columns_of x)))) (λ targets. record { query = x; targets = targets })
      (outcome_seen names.tables j (is_missing j) lacking Anywhere (privileges_seen names.tables j fits.tables fits.reads) (targets_bound j.known.parameters (listed s.targets) (map (λ c. c.kind) (columns_of x)))))
      (ap (λ b. list_any (is_missing j) (select_sites j.known outside q) || b) (sym (into_quiet j s.targets (select_count j.known.tables q) (kinds_here j.known outside q)))
      ∙ sym (any_both (is_missing j) (select_sites j.known outside q) (into_sites j.known s.targets (select_count j.known.tables q) (kinds_here j.known outside q))))
    where
      q : Select Named
      q = select_of_statement names.user s

  -- a SELECT INTO is bound exactly where its query and its targets have no fault
  pub row_accepts : (s : SelectStatement) → SelectSpellsNoNull (select_of_statement names.user s) → Accepts j (row_sites names j fits.tables s) (whole (row_bound names j.known.parameters s))
  row_accepts s null =
      whole_accepts j (row_sites names j fits.tables s) (row_bound names j.known.parameters s) (row_tells names j fits.tables s null at_first) (row_tells names (all_held j) fits.tables s null at_first) (λ x is. row_lacks s at_first x is)
