-- A bound text breaks no rule of syntax: a search condition and a query specification, each by the other (ISO/IEC 9075:1992, 7.3 to 7.9,
-- 7.11 and clause 8).
use Rattle.std.proofs.Common.{◌≡◌, ℕ, Bool, true, false, List, [], ◌∷◌, ◌++◌, Option, Ok, refl, sym, ap, ◌∙◌}
use Rattle.std.specs.List.{AllZip, flat_map}
use Rattle.std.specs.Prelude.{⊤, nat_lt}
use Rattle.sq_tree.specs.declared.cond.Comparison.{Comparison}
use Rattle.sq_tree.specs.declared.cond.Quantifier.{Quantifier}
use Rattle.sq_meaning.specs.Query.{is_present}
use Rattle.sq_meaning.specs.Spelled.{Named}
use Rattle.sq_meaning.specs.Syntax.{Expr, Cond, Conds, Clause, Select, compare, compare_subquery, compare_quantified, between, in_subquery, in_list, like, is_null, exists, negated, conjunction, disjunction, no_cond, a_cond, absent, present, select}
use Rattle.sq_bound.specs.declared.condition.Compared.TheVariants.{Scalar}
use Rattle.sq_meaning.specs.Binding.{Judged}
use Rattle.sq_meaning.specs.Site.{Around, EnclosingQuery, Site, beside_subquery, clause_sites, compared_sites, cond_sites, conds_sites, escape_sites, expr_sites, kind_here, plain_query, select_sites, shown_query, text_sites}
use Rattle.sq_binding.specs.Condition.{agreeing, as_subquery, beside, clause_bound, compared_as, cond_bound, escape_bound, noted, scalar, select_bound, subquery, terms_bound, test, tests_bound, text}
use Rattle.sq_binding.specs.Found.{Binding, Counts, Found, ◌>>=◌, each, pure}
use Rattle.sq_binding.specs.From.{NamedTables}
use Rattle.sq_binding.specs.NumberedCondition.{NumberedClause, NumberedCond, NumberedConds, NumberedSelect}
use Rattle.sq_binding.specs.Scope.{Scope}
use Rattle.sq_binding.specs.Select.{Surroundings, Typed, value}
use Rattle.sq_binding.proofs.Faultless.Clean.{AllHeld, Clean, clean_both, clean_more, clean_parts, no_site, steps_of, subquery_clean}
use Rattle.sq_binding.proofs.Faultless.CleanConds.{CleanIf, KnownIf, agreeing_clean, beside_is_clean, beside_sites, compared_clean, escape_is_clean, known_of, nothing_asked, only_first, scalar_is_clean, text_is_clean, then_clean, value_clean, value_known, with_value}
use Rattle.sq_binding.proofs.Faultless.CleanExprs.{Loose, TightAt}
use Rattle.sq_binding.proofs.Faultless.CleanQuery.{select_is_clean}
use Rattle.sq_binding.proofs.Faultless.CleanSelect.{each_is_clean, tight_groups, tight_lines}
use Rattle.sq_binding.proofs.FaultsFound.CondFaults.{ClauseSpellsNoNull, CondSpellsNoNull, CondsSpellNoNull, SelectSpellsNoNull, select_faults}
use Rattle.sq_binding.proofs.FaultsFound.FoundKinds.{standing}
use Rattle.sq_binding.proofs.FaultsFound.FromFaults.{NamesFit}
use Rattle.sq_binding.proofs.FaultsFound.Known.{GroupsAt, IsOver}
use Rattle.sq_binding.proofs.FaultsFound.PredicateFaults.{IsShown, KindOf, subquery_judges, surrounded}
use Rattle.sq_binding.proofs.FaultsFound.QueryFaults.{all_groups}
use Rattle.sq_binding.proofs.FaultsFound.SelectFaults.{groups_of_lines, groups_over, lines_over, over_groups, over_lines}

test_clean : (j : Judged) (Free : Type 0) (sites : List Site) (c : Binding NumberedCond) → CleanIf j Free sites c → CleanIf j Free sites (test c)
test_clean j Free sites c h counts z is loose =
    let steps = steps_of (c counts) (λ x. Ok (noted x)) z is in
    let made = steps.second in
    let same : noted steps.step ≡ z = cc in
    h counts steps.step steps.first (λ t. loose (ap (λ (z : Found NumberedCond). z.findings.values.has_ungrouped) (sym same) ∙ t))

module _ (names : NamedTables) (j : Judged) (fit : NamesFit names j) (scopes : List Scope) (queries : List EnclosingQuery) (over : AllZip (IsOver j.known) scopes queries) (all : (depth : ℕ) → GroupsAt j.known scopes queries depth)
    (tight : (depth : ℕ) → TightAt j.known scopes queries depth) (allowed : Bool) where
  abbrev here : Around
  here = standing queries allowed false

  abbrev a : Surroundings
  a = surrounded names j scopes allowed

  abbrev F : Type 0
  F = Loose j.known queries

  abbrev far : (depth : ℕ) → nat_lt 0 depth ≡ true → GroupsAt j.known scopes queries depth
  far = λ depth t. all depth

  abbrev KindIs : Expr Named → Typed → Type 0
  KindIs e = KindOf names j scopes queries over far allowed e

  abbrev pub IsClean : Cond Named → Type 0
  IsClean c = CleanIf j F (cond_sites j.known here c) (cond_bound a c)

  abbrev pub SelectIsClean : Select Named → Type 0
  SelectIsClean q = (counts : Counts) (z : Found NumberedSelect) → select_bound a q counts ≡ Ok z → Clean j (select_sites j.known here q)

  abbrev pair : Expr Named → Expr Named → List Site
  pair e f = Site.alike_wanted (kind_here j.known here e) (kind_here j.known here f) ∷ expr_sites j.known here f

  compare_clean : (op : Comparison) (e f : Expr Named) → IsClean (compare op e f)
  compare_clean op e f =
      then_clean j F (expr_sites j.known here e) (pair e f) (compared_sites j.known here e f) (KindIs e) (value a e) (λ x. agreeing a x.kind f >>= λ y. pure (NumberedCond.compare op x.tree y))
      (value_known names j scopes queries over far tight allowed e) (value_clean names j scopes queries over far tight allowed e)
      (λ x is. only_first j F (pair e f) (agreeing a x.kind f) (λ y. pure (NumberedCond.compare op x.tree y)) (agreeing_clean names j scopes queries over far tight allowed e f x.kind is))
      (compared_clean names j scopes queries over far tight allowed e f)

  between_clean : (e low high : Expr Named) → IsClean (between e low high)
  between_clean e low high =
      then_clean j F (expr_sites j.known here e) (pair e low ++ pair e high) (compared_sites j.known here e low ++ compared_sites j.known here e high) (KindIs e) (value a e)
      (λ x. agreeing a x.kind low >>= λ y. agreeing a x.kind high >>= λ z. pure (NumberedCond.between x.tree y z))
      (value_known names j scopes queries over far tight allowed e) (value_clean names j scopes queries over far tight allowed e)
      (λ x is. then_clean j F (pair e low) (pair e high) (pair e low ++ pair e high) (λ y. ⊤) (agreeing a x.kind low) (λ y. agreeing a x.kind high >>= λ z. pure (NumberedCond.between x.tree y z)) (λ counts z so. tt)
      (agreeing_clean names j scopes queries over far tight allowed e low x.kind is)
      (λ y u. only_first j F (pair e high) (agreeing a x.kind high) (λ z. pure (NumberedCond.between x.tree y z)) (agreeing_clean names j scopes queries over far tight allowed e high x.kind is))
      (clean_both j (pair e low) (pair e high)))
      (λ c d. let parts = clean_parts j (pair e low) (pair e high) d in
      clean_both j (compared_sites j.known here e low) (compared_sites j.known here e high) (compared_clean names j scopes queries over far tight allowed e low c parts.0) (compared_clean names j scopes queries over far tight allowed e high c parts.1))

  pairs_clean : (e : Expr Named) (es : List (Expr Named)) → Clean j (expr_sites j.known here e) → Clean j (flat_map (pair e) es) → Clean j (flat_map (compared_sites j.known here e) es)
  pairs_clean e [] c d = no_site j
  pairs_clean e (f ∷ es) c d =
      let parts = clean_parts j (pair e f) (flat_map (pair e) es) d in
      clean_both j (compared_sites j.known here e f) (flat_map (compared_sites j.known here e) es) (compared_clean names j scopes queries over far tight allowed e f c parts.0) (pairs_clean e es c parts.1)

  list_clean : (e : Expr Named) (es : List (Expr Named)) → IsClean (in_list e es)
  list_clean e es =
      then_clean j F (expr_sites j.known here e) (flat_map (pair e) es) (expr_sites j.known here e ++ flat_map (compared_sites j.known here e) es) (KindIs e) (value a e)
      (λ x. each (agreeing a x.kind) es >>= λ ys. pure (NumberedCond.in_list x.tree ys))
      (value_known names j scopes queries over far tight allowed e) (value_clean names j scopes queries over far tight allowed e)
      (λ x is. only_first j F (flat_map (pair e) es) (each (agreeing a x.kind) es) (λ ys. pure (NumberedCond.in_list x.tree ys))
      (each_is_clean j F (pair e) (agreeing a x.kind) (λ f. agreeing_clean names j scopes queries over far tight allowed e f x.kind is) es))
      (λ c d. clean_both j (expr_sites j.known here e) (flat_map (compared_sites j.known here e) es) c (pairs_clean e es c d))

  like_clean : (e pattern : Expr Named) (escape : Option (Expr Named)) → IsClean (like e pattern escape)
  like_clean e pattern escape =
      then_clean j F first (second ++ third) ((first ++ second) ++ third) (λ x. ⊤) (text a e) (λ x. text a pattern >>= λ y. escape_bound a escape >>= λ z. pure (NumberedCond.like x y z)) (λ counts z so. tt)
      (text_is_clean names j scopes queries over far tight allowed e)
      (λ x u. then_clean j F second third (second ++ third) (λ y. ⊤) (text a pattern) (λ y. escape_bound a escape >>= λ z. pure (NumberedCond.like x y z)) (λ counts z so. tt) (text_is_clean names j scopes queries over far tight allowed pattern)
      (λ y v. only_first j F third (escape_bound a escape) (λ z. pure (NumberedCond.like x y z)) (escape_is_clean names j scopes queries over far tight allowed escape)) (clean_both j second third))
      (λ c d. let parts = clean_parts j second third d in clean_both j (first ++ second) third (clean_both j first second c parts.0) parts.1)
    where
      first : List Site
      first = text_sites j.known here e

      second : List Site
      second = text_sites j.known here pattern

      third : List Site
      third = escape_sites j.known here escape

  module _ (q : Select Named) (null : SelectSpellsNoNull q) (clean : SelectIsClean q) where
    abbrev selected : Binding NumberedSelect
    selected = select_bound a q

    shown : KnownIf (IsShown names j scopes queries over far allowed q) (subquery selected)
    shown =
        known_of j (select_sites j.known here q) (GroupsAt j.known scopes queries 0) (allowed ≡ true) (IsShown names j scopes queries over far allowed q) (subquery selected)
        (subquery_judges names j scopes queries over far allowed (select_sites j.known here q) q selected (select_faults names j fit q null scopes queries over all allowed))

    abbrev sites_beside : Expr Named → List Site
    sites_beside e = beside_sites names j scopes queries over far tight allowed e q selected clean shown

    scalar_clean : (op : Comparison) (e : Expr Named) → IsClean (compare_subquery op e q)
    scalar_clean op e =
        then_clean j F (expr_sites j.known here e) (sites_beside e) (beside_subquery j.known here e q ++ select_sites j.known here q) (KindIs e) (value a e)
        (λ x. scalar x.kind selected >>= λ y. pure (NumberedCond.compare_query Scalar op x.tree y)) (value_known names j scopes queries over far tight allowed e) (value_clean names j scopes queries over far tight allowed e)
        (λ x is. only_first j F (sites_beside e) (scalar x.kind selected) (λ y. pure (NumberedCond.compare_query Scalar op x.tree y)) (scalar_is_clean names j scopes queries over far tight allowed e q selected clean shown x.kind is))
        (with_value names j scopes queries over far tight allowed e q selected clean shown)

    quantified_clean : (op : Comparison) (k : Quantifier) (e : Expr Named) → IsClean (compare_quantified op k e q)
    quantified_clean op k e =
        then_clean j F (expr_sites j.known here e) (sites_beside e) (beside_subquery j.known here e q ++ select_sites j.known here q) (KindIs e) (value a e)
        (λ x. beside x.kind selected >>= λ y. pure (NumberedCond.compare_query (compared_as k) op x.tree y)) (value_known names j scopes queries over far tight allowed e) (value_clean names j scopes queries over far tight allowed e)
        (λ x is. only_first j F (sites_beside e) (beside x.kind selected) (λ y. pure (NumberedCond.compare_query (compared_as k) op x.tree y)) (beside_is_clean names j scopes queries over far tight allowed e q selected clean shown x.kind is))
        (with_value names j scopes queries over far tight allowed e q selected clean shown)

    among_clean : (e : Expr Named) → IsClean (in_subquery e q)
    among_clean e =
        then_clean j F (expr_sites j.known here e) (sites_beside e) (beside_subquery j.known here e q ++ select_sites j.known here q) (KindIs e) (value a e)
        (λ x. beside x.kind selected >>= λ y. pure (NumberedCond.in_query x.tree y)) (value_known names j scopes queries over far tight allowed e) (value_clean names j scopes queries over far tight allowed e)
        (λ x is. only_first j F (sites_beside e) (beside x.kind selected) (λ y. pure (NumberedCond.in_query x.tree y)) (beside_is_clean names j scopes queries over far tight allowed e q selected clean shown x.kind is))
        (with_value names j scopes queries over far tight allowed e q selected clean shown)

    exists_clean : IsClean (exists q)
    exists_clean counts z is loose =
        let steps = only_first j F (select_sites j.known here q) (subquery selected) (λ y. pure (NumberedCond.exists y)) (λ counts z is loose. let s = steps_of (selected counts) (λ x. Ok (as_subquery x)) z is in clean counts s.step s.first) in
        clean_more j Site.subquery_read (select_sites j.known here q) (subquery_clean j) (steps counts z is loose)

  more_clean : (c : Cond Named) (cs : Conds Named) (f : Binding NumberedCond) → CleanIf j F (cond_sites j.known here c) f → (rest : Binding NumberedConds) → CleanIf j F (conds_sites j.known here cs) rest
      → CleanIf j F (conds_sites j.known here (a_cond c cs)) (f >>= λ x. rest >>= λ xs. pure (NumberedConds.a_cond x xs))
  more_clean c cs f h rest k =
      then_clean j F (cond_sites j.known here c) (conds_sites j.known here cs) (cond_sites j.known here c ++ conds_sites j.known here cs) (λ x. ⊤) f (λ x. rest >>= λ xs. pure (NumberedConds.a_cond x xs)) (λ counts z so. tt) h
      (λ x u. only_first j F (conds_sites j.known here cs) rest (λ xs. pure (NumberedConds.a_cond x xs)) k) (clean_both j (cond_sites j.known here c) (conds_sites j.known here cs))

module _ (names : NamedTables) (j : Judged) (fit : NamesFit names j) (held : AllHeld j) where
  mutual
    -- a search condition that is bound breaks no rule
    pub cond_clean : (c : Cond Named) → CondSpellsNoNull c → (scopes : List Scope) (queries : List EnclosingQuery) (over : AllZip (IsOver j.known) scopes queries) (all : (depth : ℕ) → GroupsAt j.known scopes queries depth)
        (tight : (depth : ℕ) → TightAt j.known scopes queries depth) (allowed : Bool) → IsClean names j fit scopes queries over all tight allowed c
    cond_clean (compare op e f) null scopes queries over all tight allowed = compare_clean names j fit scopes queries over all tight allowed op e f
    cond_clean (compare_subquery op e q) null scopes queries over all tight allowed = scalar_clean names j fit scopes queries over all tight allowed q null.1 (select_clean q null.1 scopes queries over all tight allowed) op e
    cond_clean (compare_quantified op k e q) null scopes queries over all tight allowed = quantified_clean names j fit scopes queries over all tight allowed q null.1 (select_clean q null.1 scopes queries over all tight allowed) op k e
    cond_clean (between e low high) null scopes queries over all tight allowed = between_clean names j fit scopes queries over all tight allowed e low high
    cond_clean (in_subquery e q) null scopes queries over all tight allowed = among_clean names j fit scopes queries over all tight allowed q null.1 (select_clean q null.1 scopes queries over all tight allowed) e
    cond_clean (in_list e es) null scopes queries over all tight allowed = list_clean names j fit scopes queries over all tight allowed e es
    cond_clean (like e pattern escape) null scopes queries over all tight allowed = like_clean names j fit scopes queries over all tight allowed e pattern escape
    cond_clean (is_null e) null scopes queries over all tight allowed =
        only_first j (Loose j.known queries) (expr_sites j.known (standing queries allowed false) e) (value (surrounded names j scopes allowed) e) (λ x. pure (NumberedCond.is_null x.tree))
        (value_clean names j scopes queries over (λ depth t. all depth) tight allowed e)
    cond_clean (exists q) null scopes queries over all tight allowed = exists_clean names j fit scopes queries over all tight allowed q null (select_clean q null scopes queries over all tight allowed)
    cond_clean (negated c) null scopes queries over all tight allowed =
        only_first j (Loose j.known queries) (cond_sites j.known (standing queries allowed false) c) (cond_bound (surrounded names j scopes allowed) c) (λ x. pure (NumberedCond.negated x)) (cond_clean c null scopes queries over all tight allowed)
    cond_clean (conjunction cs) null scopes queries over all tight allowed =
        only_first j (Loose j.known queries) (conds_sites j.known (standing queries allowed false) cs) (tests_bound (surrounded names j scopes allowed) cs) (λ x. pure (NumberedCond.conjunction x)) (tests_clean cs null scopes queries over all tight allowed)
    cond_clean (disjunction cs) null scopes queries over all tight allowed =
        only_first j (Loose j.known queries) (conds_sites j.known (standing queries allowed false) cs) (terms_bound (surrounded names j scopes allowed) cs) (λ x. pure (NumberedCond.disjunction x)) (terms_clean cs null scopes queries over all tight allowed)

    tests_clean : (cs : Conds Named) → CondsSpellNoNull cs → (scopes : List Scope) (queries : List EnclosingQuery) (over : AllZip (IsOver j.known) scopes queries) (all : (depth : ℕ) → GroupsAt j.known scopes queries depth)
        (tight : (depth : ℕ) → TightAt j.known scopes queries depth) (allowed : Bool) → CleanIf j (Loose j.known queries) (conds_sites j.known (standing queries allowed false) cs) (tests_bound (surrounded names j scopes allowed) cs)
    tests_clean no_cond null scopes queries over all tight allowed = nothing_asked j (Loose j.known queries) (pure NumberedConds.no_cond)
    tests_clean (a_cond c cs) null scopes queries over all tight allowed =
        more_clean names j fit scopes queries over all tight allowed c cs (test (cond_bound (surrounded names j scopes allowed) c))
        (test_clean j (Loose j.known queries) (cond_sites j.known (standing queries allowed false) c) (cond_bound (surrounded names j scopes allowed) c) (cond_clean c null.0 scopes queries over all tight allowed))
        (tests_bound (surrounded names j scopes allowed) cs) (tests_clean cs null.1 scopes queries over all tight allowed)

    terms_clean : (cs : Conds Named) → CondsSpellNoNull cs → (scopes : List Scope) (queries : List EnclosingQuery) (over : AllZip (IsOver j.known) scopes queries) (all : (depth : ℕ) → GroupsAt j.known scopes queries depth)
        (tight : (depth : ℕ) → TightAt j.known scopes queries depth) (allowed : Bool) → CleanIf j (Loose j.known queries) (conds_sites j.known (standing queries allowed false) cs) (terms_bound (surrounded names j scopes allowed) cs)
    terms_clean no_cond null scopes queries over all tight allowed = nothing_asked j (Loose j.known queries) (pure NumberedConds.no_cond)
    terms_clean (a_cond c cs) null scopes queries over all tight allowed =
        more_clean names j fit scopes queries over all tight allowed c cs (cond_bound (surrounded names j scopes allowed) c) (cond_clean c null.0 scopes queries over all tight allowed)
        (terms_bound (surrounded names j scopes allowed) cs) (terms_clean cs null.1 scopes queries over all tight allowed)

    pub clause_clean : (c : Clause Named) → ClauseSpellsNoNull c → (scopes : List Scope) (queries : List EnclosingQuery) (over : AllZip (IsOver j.known) scopes queries) (all : is_present c ≡ true → (depth : ℕ) → GroupsAt j.known scopes queries depth)
        (tight : (depth : ℕ) → TightAt j.known scopes queries depth) (allowed : Bool) → CleanIf j (Loose j.known queries) (clause_sites j.known (standing queries allowed false) c) (clause_bound (surrounded names j scopes allowed) c)
    clause_clean absent null scopes queries over all tight allowed = nothing_asked j (Loose j.known queries) (pure NumberedClause.absent)
    clause_clean (present c) null scopes queries over all tight allowed =
        only_first j (Loose j.known queries) (cond_sites j.known (standing queries allowed false) c) (cond_bound (surrounded names j scopes allowed) c) (λ x. pure (NumberedClause.present x)) (cond_clean c null scopes queries over (all refl) tight allowed)

    -- a query specification that is bound breaks no rule
    pub select_clean : (q : Select Named) → SelectSpellsNoNull q → (scopes : List Scope) (queries : List EnclosingQuery) (over : AllZip (IsOver j.known) scopes queries) (all : (depth : ℕ) → GroupsAt j.known scopes queries depth)
        (tight : (depth : ℕ) → TightAt j.known scopes queries depth) (allowed : Bool) → SelectIsClean names j fit scopes queries over all tight allowed q
    select_clean (select distinct list from filter by having) null scopes queries over all tight allowed =
        select_is_clean names j fit held distinct list from filter by having scopes queries over all tight allowed
        (λ items are. clause_clean filter null.1 (lines_over items ∷ scopes) (plain_query from ∷ queries) (over_lines j scopes queries over all from items are) (λ t. groups_of_lines j scopes queries over all from items are)
        (tight_lines j scopes queries over all tight from items are) false)
        (λ items are columns places. clause_clean having null.2 (groups_over items columns ∷ scopes) (shown_query from list by having ∷ queries) (over_groups j scopes queries over all from items are columns list by having)
        (λ t. all_groups names j fit scopes queries over all from items are by columns places list having t) (tight_groups j scopes queries over all tight from items are by columns places list having) true)
