-- The fault that is answered of a search condition or of a query specification is one that the rules find there (ISO/IEC 9075:1992, 7.3
-- to 7.9, 7.11 and clause 8).
use Rattle.std.proofs.Common.{◌≡◌, ℕ, Bool, true, false, List, [], ◌∷◌, ◌++◌, Option, Ok, Err, refl}
use Rattle.std.specs.List.{AllByRecursion, AllZip, flat_map}
use Rattle.std.specs.Prelude.{⊤}
use Rattle.sq_tree.specs.declared.cond.Comparison.{Comparison}
use Rattle.sq_tree.specs.declared.cond.Quantifier.{Quantifier}
use Rattle.sq_meaning.specs.Query.{is_present}
use Rattle.sq_meaning.specs.Spelled.{Named}
use Rattle.sq_meaning.specs.Syntax.{Expr, Cond, Conds, Clause, Select, compare, compare_subquery, compare_quantified, between, in_subquery, in_list, like, is_null, exists, negated, conjunction, disjunction, no_cond, a_cond, absent, present, select}
use Rattle.sq_bound.specs.declared.condition.Compared.TheVariants.{Scalar}
use Rattle.sq_meaning.specs.Binding.{Judged}
use Rattle.sq_meaning.specs.Site.{Around, EnclosingQuery, Site, beside_subquery, clause_sites, compared_sites, cond_sites, conds_sites, escape_sites, expr_sites, kind_here, plain_query, select_sites, shown_query, text_sites}
use Rattle.sq_binding.specs.Condition.{agreeing, beside, clause_bound, compared_as, cond_bound, escape_bound, noted, scalar, select_bound, subquery, terms_bound, test, tests_bound, text}
use Rattle.sq_binding.specs.Found.{Binding, Found, ◌>>=◌, each, pure}
use Rattle.sq_binding.specs.From.{NamedTables}
use Rattle.sq_binding.specs.NumberedCondition.{NumberedClause, NumberedCond, NumberedConds}
use Rattle.sq_binding.specs.Outcome.{Outcome, and_then}
use Rattle.sq_binding.specs.Scope.{Scope}
use Rattle.sq_binding.specs.Select.{Surroundings, Typed, value}
use Rattle.sq_binding.proofs.FaultsFound.FoundKinds.{SpellsNoNull, standing}
use Rattle.sq_binding.proofs.FaultsFound.FromFaults.{NamesFit}
use Rattle.sq_binding.proofs.FaultsFound.Judged.{Among, IfJudged, Judges, each_judges, more_judges, one_judges, pure_judges, then_judges, three_judges, two_judges, wider_judges}
use Rattle.sq_binding.proofs.FaultsFound.Known.{GroupsAt, IsOver}
use Rattle.sq_binding.proofs.FaultsFound.PredicateFaults.{Anything, EscapeSpellsNoNull, IsShown, KindOf, agreeing_judges, before_judges, beside_judges, escape_judges, scalar_judges, subquery_judges, surrounded, text_judges, value_judges}
use Rattle.sq_binding.proofs.FaultsFound.SelectFaults.{ListSpellsNoNull, groups_of_lines, groups_over, lines_over, over_groups, over_lines}
use Rattle.sq_binding.proofs.FaultsFound.Sites.{fault_later, fault_left, fault_right}
use Rattle.sq_binding.proofs.FaultsFound.QueryFaults.{all_groups, is_bound, select_judged}

-- ---- no literal is the null value (5.3)

abbrev mutual
  pub CondSpellsNoNull : Cond Named → Type 0
  CondSpellsNoNull (compare op a b) = SpellsNoNull a × SpellsNoNull b
  CondSpellsNoNull (compare_subquery op a q) = SpellsNoNull a × SelectSpellsNoNull q
  CondSpellsNoNull (compare_quantified op k a q) = SpellsNoNull a × SelectSpellsNoNull q
  CondSpellsNoNull (between a low high) = SpellsNoNull a × SpellsNoNull low × SpellsNoNull high
  CondSpellsNoNull (in_subquery a q) = SpellsNoNull a × SelectSpellsNoNull q
  CondSpellsNoNull (in_list a es) = SpellsNoNull a × AllByRecursion SpellsNoNull es
  CondSpellsNoNull (like a pattern escape) = SpellsNoNull a × SpellsNoNull pattern × EscapeSpellsNoNull escape
  CondSpellsNoNull (is_null a) = SpellsNoNull a
  CondSpellsNoNull (exists q) = SelectSpellsNoNull q
  CondSpellsNoNull (negated c) = CondSpellsNoNull c
  CondSpellsNoNull (conjunction cs) = CondsSpellNoNull cs
  CondSpellsNoNull (disjunction cs) = CondsSpellNoNull cs

  pub CondsSpellNoNull : Conds Named → Type 0
  CondsSpellNoNull no_cond = ⊤
  CondsSpellNoNull (a_cond c cs) = CondSpellsNoNull c × CondsSpellNoNull cs

  pub ClauseSpellsNoNull : Clause Named → Type 0
  ClauseSpellsNoNull absent = ⊤
  ClauseSpellsNoNull (present c) = CondSpellsNoNull c

  pub SelectSpellsNoNull : Select Named → Type 0
  SelectSpellsNoNull (select distinct list from filter by having) = ListSpellsNoNull list × ClauseSpellsNoNull filter × ClauseSpellsNoNull having

-- ---- a test

test_judged : (j : Judged) (sites : List Site) (G C : Type 0) (o : Outcome (Found NumberedCond)) → IfJudged j sites G C Anything o → IfJudged j sites G C Anything (and_then o (λ x. Ok (noted x)))
test_judged j sites G C (Ok x) h = record { part = tt; free = h.free; called = h.called }
test_judged j sites G C (Err f) h = h

test_judges : (j : Judged) (sites : List Site) (G C : Type 0) (c : Binding NumberedCond) → Judges j sites G C Anything c → Judges j sites G C Anything (test c)
test_judges j sites G C c h counts = test_judged j sites G C (c counts) (h counts)

-- ---- each condition

module _ (names : NamedTables) (j : Judged) (scopes : List Scope) (queries : List EnclosingQuery) (over : AllZip (IsOver j.known) scopes queries) (all : (depth : ℕ) → GroupsAt j.known scopes queries depth) (allowed : Bool) where
  abbrev here : Around
  here = standing queries allowed false

  abbrev a : Surroundings
  a = surrounded names j scopes allowed

  abbrev Free : Type 0
  Free = GroupsAt j.known scopes queries 0

  abbrev KindIs : Expr Named → Typed → Type 0
  KindIs e = KindOf names j scopes queries over (λ depth far. all depth) allowed e

  -- a condition has the faults of its sites
  abbrev pub HasFaults : Cond Named → Type 0
  HasFaults c = Judges j (cond_sites j.known here c) Free (allowed ≡ true) Anything (cond_bound a c)

  abbrev pub SelectHasFaults : Select Named → Type 0
  SelectHasFaults q = Judges j (select_sites j.known here q) ⊥ (allowed ≡ true) (IsShown names j scopes queries over (λ depth far. all depth) allowed q) (select_bound a q)

  left_of : (xs ys : List Site) → Among j xs (xs ++ ys)
  left_of xs ys f h = fault_left j f xs ys h

  right_of : (xs ys : List Site) → Among j ys (xs ++ ys)
  right_of xs ys f h = fault_right j f xs ys h

  first_of_two : (e f : Expr Named) → SpellsNoNull e → Judges j (compared_sites j.known here e f) Free (allowed ≡ true) (KindIs e) (value a e)
  first_of_two e f null =
      wider_judges j (expr_sites j.known here e) (compared_sites j.known here e f)
      (λ g h. fault_later j g (Site.alike_wanted (kind_here j.known here e) (kind_here j.known here f)) (expr_sites j.known here e ++ expr_sites j.known here f) (fault_left j g (expr_sites j.known here e) (expr_sites j.known here f) h))
      Free (allowed ≡ true) (KindIs e) (value a e) (value_judges names j scopes queries over (λ depth far. all depth) allowed e null)

  compare_faults : (op : Comparison) (e f : Expr Named) → SpellsNoNull e → SpellsNoNull f → HasFaults (compare op e f)
  compare_faults op e f n m =
      two_judges j (compared_sites j.known here e f) Free (allowed ≡ true) (KindIs e) Anything (value a e) (λ x. agreeing a x.kind f) (λ x y. NumberedCond.compare op x.tree y) (first_of_two e f n)
      (λ x is. agreeing_judges names j scopes queries over (λ depth far. all depth) allowed e f x.kind is m)

  abbrev sites_beside : Expr Named → Select Named → List Site
  sites_beside e q = beside_subquery j.known here e q ++ select_sites j.known here q

  scalar_faults : (op : Comparison) (e : Expr Named) (q : Select Named) → SpellsNoNull e → SelectHasFaults q → HasFaults (compare_subquery op e q)
  scalar_faults op e q n h =
      two_judges j (sites_beside e q) Free (allowed ≡ true) (KindIs e) Anything (value a e) (λ x. scalar x.kind (select_bound a q)) (λ x y. NumberedCond.compare_query Scalar op x.tree y)
      (before_judges names j scopes queries over (λ depth far. all depth) allowed e q n) (λ x is. scalar_judges names j scopes queries over (λ depth far. all depth) allowed e q (select_bound a q) h x.kind is)

  quantified_faults : (op : Comparison) (k : Quantifier) (e : Expr Named) (q : Select Named) → SpellsNoNull e → SelectHasFaults q → HasFaults (compare_quantified op k e q)
  quantified_faults op k e q n h =
      two_judges j (sites_beside e q) Free (allowed ≡ true) (KindIs e) Anything (value a e) (λ x. beside x.kind (select_bound a q)) (λ x y. NumberedCond.compare_query (compared_as k) op x.tree y)
      (before_judges names j scopes queries over (λ depth far. all depth) allowed e q n) (λ x is. beside_judges names j scopes queries over (λ depth far. all depth) allowed e q (select_bound a q) h x.kind is)

  among_faults : (e : Expr Named) (q : Select Named) → SpellsNoNull e → SelectHasFaults q → HasFaults (in_subquery e q)
  among_faults e q n h =
      two_judges j (sites_beside e q) Free (allowed ≡ true) (KindIs e) Anything (value a e) (λ x. beside x.kind (select_bound a q)) (λ x y. NumberedCond.in_query x.tree y)
      (before_judges names j scopes queries over (λ depth far. all depth) allowed e q n) (λ x is. beside_judges names j scopes queries over (λ depth far. all depth) allowed e q (select_bound a q) h x.kind is)

  between_faults : (e low high : Expr Named) → SpellsNoNull e → SpellsNoNull low → SpellsNoNull high → HasFaults (between e low high)
  between_faults e low high n m l =
      three_judges j both Free (allowed ≡ true) (KindIs e) Anything Anything (value a e) (λ x. agreeing a x.kind low) (λ x. agreeing a x.kind high) (λ x y z. NumberedCond.between x.tree y z)
      (wider_judges j first both (left_of first second) Free (allowed ≡ true) (KindIs e) (value a e) (first_of_two e low n))
      (λ x is. wider_judges j first both (left_of first second) Free (allowed ≡ true) Anything (agreeing a x.kind low) (agreeing_judges names j scopes queries over (λ depth far. all depth) allowed e low x.kind is m))
      (λ x is. wider_judges j second both (right_of first second) Free (allowed ≡ true) Anything (agreeing a x.kind high) (agreeing_judges names j scopes queries over (λ depth far. all depth) allowed e high x.kind is l))
    where
      first : List Site
      first = compared_sites j.known here e low

      second : List Site
      second = compared_sites j.known here e high

      both : List Site
      both = first ++ second

  list_faults : (e : Expr Named) (es : List (Expr Named)) → SpellsNoNull e → AllByRecursion SpellsNoNull es → HasFaults (in_list e es)
  list_faults e es n m =
      two_judges j both Free (allowed ≡ true) (KindIs e) (AllZip (λ f y. ⊤) es) (value a e) (λ x. each (agreeing a x.kind) es) (λ x ys. NumberedCond.in_list x.tree ys)
      (wider_judges j (expr_sites j.known here e) both (left_of (expr_sites j.known here e) others) Free (allowed ≡ true) (KindIs e) (value a e) (value_judges names j scopes queries over (λ depth far. all depth) allowed e n))
      (λ x is. wider_judges j others both (right_of (expr_sites j.known here e) others) Free (allowed ≡ true) (AllZip (λ f y. ⊤) es) (each (agreeing a x.kind) es)
      (each_judges j Free (allowed ≡ true) SpellsNoNull (compared_sites j.known here e) (λ f y. ⊤) (agreeing a x.kind) (λ f w. agreeing_judges names j scopes queries over (λ depth far. all depth) allowed e f x.kind is w) es m))
    where
      others : List Site
      others = flat_map (compared_sites j.known here e) es

      both : List Site
      both = expr_sites j.known here e ++ others

  like_faults : (e pattern : Expr Named) (escape : Option (Expr Named)) → SpellsNoNull e → SpellsNoNull pattern → EscapeSpellsNoNull escape → HasFaults (like e pattern escape)
  like_faults e pattern escape n m l =
      three_judges j ((first ++ second) ++ third) Free (allowed ≡ true) Anything Anything Anything (text a e) (λ x. text a pattern) (λ x. escape_bound a escape) (λ x y z. NumberedCond.like x y z)
      (wider_judges j first ((first ++ second) ++ third) (λ g h. left_of (first ++ second) third g (left_of first second g h)) Free (allowed ≡ true) Anything (text a e) (text_judges names j scopes queries over (λ depth far. all depth) allowed e n))
      (λ x u. wider_judges j second ((first ++ second) ++ third) (λ g h. left_of (first ++ second) third g (right_of first second g h)) Free (allowed ≡ true) Anything (text a pattern)
      (text_judges names j scopes queries over (λ depth far. all depth) allowed pattern m))
      (λ x u. wider_judges j third ((first ++ second) ++ third) (right_of (first ++ second) third) Free (allowed ≡ true) Anything (escape_bound a escape)
      (escape_judges names j scopes queries over (λ depth far. all depth) allowed escape l))
    where
      first : List Site
      first = text_sites j.known here e

      second : List Site
      second = text_sites j.known here pattern

      third : List Site
      third = escape_sites j.known here escape

  exists_faults : (q : Select Named) → SelectHasFaults q → HasFaults (exists q)
  exists_faults q h =
      wider_judges j (select_sites j.known here q) (Site.subquery_read ∷ select_sites j.known here q) (λ f g. fault_later j f Site.subquery_read (select_sites j.known here q) g) Free (allowed ≡ true) Anything (cond_bound a (exists q))
      (one_judges j (select_sites j.known here q) Free (allowed ≡ true) (IsShown names j scopes queries over (λ depth far. all depth) allowed q) (subquery (select_bound a q)) (λ y. NumberedCond.exists y)
      (subquery_judges names j scopes queries over (λ depth far. all depth) allowed (select_sites j.known here q) q (select_bound a q) h))

  more_conds : (c : Cond Named) (cs : Conds Named) (f : Binding NumberedCond) → Judges j (cond_sites j.known here c) Free (allowed ≡ true) Anything f → (rest : Binding NumberedConds) → Judges j (conds_sites j.known here cs) Free (allowed ≡ true) Anything rest
      → Judges j (conds_sites j.known here (a_cond c cs)) Free (allowed ≡ true) Anything (f >>= λ x. rest >>= λ xs. pure (NumberedConds.a_cond x xs))
  more_conds c cs f h rest k =
      two_judges j (cond_sites j.known here c ++ conds_sites j.known here cs) Free (allowed ≡ true) Anything Anything f (λ x. rest) (λ x xs. NumberedConds.a_cond x xs)
      (wider_judges j (cond_sites j.known here c) (cond_sites j.known here c ++ conds_sites j.known here cs) (left_of (cond_sites j.known here c) (conds_sites j.known here cs)) Free (allowed ≡ true) Anything f h)
      (λ x u. wider_judges j (conds_sites j.known here cs) (cond_sites j.known here c ++ conds_sites j.known here cs) (right_of (cond_sites j.known here c) (conds_sites j.known here cs)) Free (allowed ≡ true) Anything rest k)

  abbrev pub ClauseHasFaults : Clause Named → Type 0
  ClauseHasFaults c = Judges j (clause_sites j.known here c) Free ((is_present c ≡ true) × (allowed ≡ true)) (λ x. is_bound x ≡ true → is_present c ≡ true) (clause_bound a c)

  present_faults : (c : Cond Named) → HasFaults c → ClauseHasFaults (present c)
  present_faults c h =
      then_judges j (cond_sites j.known here c) Free ((true ≡ true) × (allowed ≡ true)) Anything (λ x. is_bound x ≡ true → true ≡ true) (cond_bound a c) (λ x. pure (NumberedClause.present x))
      (more_judges j (cond_sites j.known here c) (cond_sites j.known here c) (λ f h. h) Free Free (allowed ≡ true) ((true ≡ true) × (allowed ≡ true)) Anything Anything (cond_bound a c) (λ g. g) (λ t. (refl, t)) (λ x u. tt) h)
      (λ x u. pure_judges j (cond_sites j.known here c) Free ((true ≡ true) × (allowed ≡ true)) (λ x. is_bound x ≡ true → true ≡ true) (NumberedClause.present x) (λ t. refl))

-- ---- all of them, one by the other

module _ (names : NamedTables) (j : Judged) (fit : NamesFit names j) where
  mutual
    -- the fault of a search condition is one that the rules find
    pub cond_faults : (c : Cond Named) → CondSpellsNoNull c → (scopes : List Scope) (queries : List EnclosingQuery) (over : AllZip (IsOver j.known) scopes queries) (all : (depth : ℕ) → GroupsAt j.known scopes queries depth) (allowed : Bool)
        → HasFaults names j scopes queries over all allowed c
    cond_faults (compare op e f) null scopes queries over all allowed = compare_faults names j scopes queries over all allowed op e f null.0 null.1
    cond_faults (compare_subquery op e q) null scopes queries over all allowed = scalar_faults names j scopes queries over all allowed op e q null.0 (select_faults q null.1 scopes queries over all allowed)
    cond_faults (compare_quantified op k e q) null scopes queries over all allowed = quantified_faults names j scopes queries over all allowed op k e q null.0 (select_faults q null.1 scopes queries over all allowed)
    cond_faults (between e low high) null scopes queries over all allowed = between_faults names j scopes queries over all allowed e low high null.0 null.1 null.2
    cond_faults (in_subquery e q) null scopes queries over all allowed = among_faults names j scopes queries over all allowed e q null.0 (select_faults q null.1 scopes queries over all allowed)
    cond_faults (in_list e es) null scopes queries over all allowed = list_faults names j scopes queries over all allowed e es null.0 null.1
    cond_faults (like e pattern escape) null scopes queries over all allowed = like_faults names j scopes queries over all allowed e pattern escape null.0 null.1 null.2
    cond_faults (is_null e) null scopes queries over all allowed =
        one_judges j (expr_sites j.known (standing queries allowed false) e) (GroupsAt j.known scopes queries 0) (allowed ≡ true) (KindOf names j scopes queries over (λ depth far. all depth) allowed e) (value (surrounded names j scopes allowed) e)
        (λ x. NumberedCond.is_null x.tree) (value_judges names j scopes queries over (λ depth far. all depth) allowed e null)
    cond_faults (exists q) null scopes queries over all allowed = exists_faults names j scopes queries over all allowed q (select_faults q null scopes queries over all allowed)
    cond_faults (negated c) null scopes queries over all allowed =
        one_judges j (cond_sites j.known (standing queries allowed false) c) (GroupsAt j.known scopes queries 0) (allowed ≡ true) Anything (cond_bound (surrounded names j scopes allowed) c) (λ x. NumberedCond.negated x)
        (cond_faults c null scopes queries over all allowed)
    cond_faults (conjunction cs) null scopes queries over all allowed =
        one_judges j (conds_sites j.known (standing queries allowed false) cs) (GroupsAt j.known scopes queries 0) (allowed ≡ true) Anything (tests_bound (surrounded names j scopes allowed) cs) (λ x. NumberedCond.conjunction x)
        (tests_faults cs null scopes queries over all allowed)
    cond_faults (disjunction cs) null scopes queries over all allowed =
        one_judges j (conds_sites j.known (standing queries allowed false) cs) (GroupsAt j.known scopes queries 0) (allowed ≡ true) Anything (terms_bound (surrounded names j scopes allowed) cs) (λ x. NumberedCond.disjunction x)
        (terms_faults cs null scopes queries over all allowed)

    tests_faults : (cs : Conds Named) → CondsSpellNoNull cs → (scopes : List Scope) (queries : List EnclosingQuery) (over : AllZip (IsOver j.known) scopes queries) (all : (depth : ℕ) → GroupsAt j.known scopes queries depth) (allowed : Bool)
        → Judges j (conds_sites j.known (standing queries allowed false) cs) (GroupsAt j.known scopes queries 0) (allowed ≡ true) Anything (tests_bound (surrounded names j scopes allowed) cs)
    tests_faults no_cond null scopes queries over all allowed = pure_judges j [] (GroupsAt j.known scopes queries 0) (allowed ≡ true) Anything NumberedConds.no_cond tt
    tests_faults (a_cond c cs) null scopes queries over all allowed =
        more_conds names j scopes queries over all allowed c cs (test (cond_bound (surrounded names j scopes allowed) c))
        (test_judges j (cond_sites j.known (standing queries allowed false) c) (GroupsAt j.known scopes queries 0) (allowed ≡ true) (cond_bound (surrounded names j scopes allowed) c) (cond_faults c null.0 scopes queries over all allowed))
        (tests_bound (surrounded names j scopes allowed) cs) (tests_faults cs null.1 scopes queries over all allowed)

    terms_faults : (cs : Conds Named) → CondsSpellNoNull cs → (scopes : List Scope) (queries : List EnclosingQuery) (over : AllZip (IsOver j.known) scopes queries) (all : (depth : ℕ) → GroupsAt j.known scopes queries depth) (allowed : Bool)
        → Judges j (conds_sites j.known (standing queries allowed false) cs) (GroupsAt j.known scopes queries 0) (allowed ≡ true) Anything (terms_bound (surrounded names j scopes allowed) cs)
    terms_faults no_cond null scopes queries over all allowed = pure_judges j [] (GroupsAt j.known scopes queries 0) (allowed ≡ true) Anything NumberedConds.no_cond tt
    terms_faults (a_cond c cs) null scopes queries over all allowed =
        more_conds names j scopes queries over all allowed c cs (cond_bound (surrounded names j scopes allowed) c) (cond_faults c null.0 scopes queries over all allowed)
        (terms_bound (surrounded names j scopes allowed) cs) (terms_faults cs null.1 scopes queries over all allowed)

    pub clause_faults : (c : Clause Named) → ClauseSpellsNoNull c → (scopes : List Scope) (queries : List EnclosingQuery) (over : AllZip (IsOver j.known) scopes queries)
        (all : is_present c ≡ true → (depth : ℕ) → GroupsAt j.known scopes queries depth) (allowed : Bool)
        → Judges j (clause_sites j.known (standing queries allowed false) c) (GroupsAt j.known scopes queries 0) ((is_present c ≡ true) × (allowed ≡ true)) (λ x. is_bound x ≡ true → is_present c ≡ true) (clause_bound (surrounded names j scopes allowed) c)
    clause_faults absent null scopes queries over all allowed =
        pure_judges j [] (GroupsAt j.known scopes queries 0) ((false ≡ true) × (allowed ≡ true)) (λ x. is_bound x ≡ true → false ≡ true) NumberedClause.absent (λ t. t)
    clause_faults (present c) null scopes queries over all allowed = present_faults names j scopes queries over (all refl) allowed c (cond_faults c null scopes queries over (all refl) allowed)

    -- the fault of a query specification is one that the rules find in it
    pub select_faults : (q : Select Named) → SelectSpellsNoNull q → (scopes : List Scope) (queries : List EnclosingQuery) (over : AllZip (IsOver j.known) scopes queries) (all : (depth : ℕ) → GroupsAt j.known scopes queries depth) (allowed : Bool)
        → SelectHasFaults names j scopes queries over all allowed q
    select_faults (select distinct list from filter by having) null scopes queries over all allowed =
        select_judged names j fit distinct list from filter by having scopes queries over all allowed null.0
        (λ items are. clause_faults filter null.1 (lines_over items ∷ scopes) (plain_query from ∷ queries) (over_lines j scopes queries over all from items are) (λ t. groups_of_lines j scopes queries over all from items are) false)
        (λ items are columns places. clause_faults having null.2 (groups_over items columns ∷ scopes) (shown_query from list by having ∷ queries) (over_groups j scopes queries over all from items are columns list by having)
        (λ t. all_groups names j fit scopes queries over all from items are by columns places list having t) true)
