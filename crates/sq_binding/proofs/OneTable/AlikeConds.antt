-- Search conditions and query specifications are bound alike over scopes that differ only in the positions of columns. If there is no
-- subquery, so they are over other tables (ISO/IEC 9075:1992, 7.3 to 7.9, 7.11 and clause 8).
use Rattle.std.proofs.Common.{◌≡◌, ℕ, ◌+◌, Bool, true, false, ◌||◌, List, [], ◌∷◌, length, Option, Some, None, Ok, Err, refl, sym, ap, subst, ◌∙◌}
use Rattle.std.specs.List.{AllZip}
use Rattle.std.specs.Prelude.{⊤, if◌then◌else◌, nat_eq}
use Rattle.std.proofs.lemmas.Bool.{or_left, or_right}
use Rattle.sq_value.specs.declared.domain.Kind.{Kind}
use Rattle.sq_meaning.specs.Environment.{Place}
use Rattle.sq_meaning.specs.Spelled.{Named}
use Rattle.sq_meaning.specs.Syntax.{Expr, Cond, Conds, Clause, Select, compare, compare_subquery, compare_quantified, between, in_subquery, in_list, like, is_null, exists, negated, conjunction, disjunction, no_cond, a_cond, absent, present, select}
use Rattle.sq_meaning.specs.Tables.{Declared}
use Rattle.sq_meaning.specs.Target.{clause_has_subquery, has_subquery, have_subquery}
use Rattle.sq_bound.specs.Expression.{PlacedExpr}
use Rattle.sq_bound.specs.declared.condition.Compared.TheVariants.{Scalar}
use Rattle.sq_meaning.specs.declared.fault.BindingFault.TheVariants as fault
use Rattle.sq_binding.specs.Condition.{agreeing, as_subquery, beside, clause_bound, compared_as, cond_bound, escape_bound, must_be_beside, noted, scalar, select_bound, subquery, terms_bound, test, tests_bound, text}
use Rattle.sq_binding.specs.Found.{Binding, Found, ◌>>=◌, ◌>>◌, each, from_first, has_found, pure}
use Rattle.sq_binding.specs.From.{NamedItem, NamedTables, from_bound, items_of, tables_of}
use Rattle.sq_binding.specs.NumberedCondition.{NumberedClause, NumberedCond, NumberedConds, NumberedGroups, NumberedSelect, ResultColumn, columns_of, with_number}
use Rattle.sq_binding.specs.QueryFindings.{a_status, of_subquery}
use Rattle.sq_binding.specs.Scope.{Scope}
use Rattle.sq_binding.specs.Select.{Parts, ShownColumn, Surroundings, Typed, grouping_column, groups_by, groups_of, is_star, list_bound, rightly_grouped, select_found, specification, value}
use Rattle.sq_binding.proofs.OneTable.Alike.{Both, Like, both_if, both_then}
use Rattle.sq_binding.proofs.OneTable.AlikeParts.{Alike, Anything, LikePart, LikePlace, SameColumns, SameKind, agreeing_alike, columns_are_same, each_alike, escape_alike, grouping_alike, groups_alike, list_alike, one_alike, pure_alike, same_alike, scope_same, text_alike, then_alike, value_alike}
use Rattle.sq_binding.proofs.FaultsFound.QueryFaults.{is_bound}

abbrev Same : {A : Type 0} → A → A → Type 0
Same x y = x ≡ y

-- behind a part that is bound the same
same_then : {A C D : Type 0} (S : C → D → Type 0) (b : Binding A) (f : A → Binding C) (g : A → Binding D) → ((x : A) → Alike S (f x) (g x)) → Alike S (b >>= f) (b >>= g)
same_then S b f g h = then_alike Same S b b f g (same_alike Same (λ x. refl) b) (λ x y e. subst (λ y. Alike S (f x) (g y)) e (h x))

-- ---- subqueries

abbrev pub SameShown : NumberedSelect → NumberedSelect → Type 0
SameShown s t = columns_of s ≡ columns_of t

number_kept : (n : ℕ) (s : NumberedSelect) → columns_of (with_number (Some n) s) ≡ columns_of s
number_kept n (NumberedSelect.select distinct list from filter groups columns can_fail number) = refl

numbered_alike : (x y : Found NumberedSelect) → LikePart SameShown x y → (closed : Bool)
    → LikePart SameShown
    (if closed then record x { part = with_number (Some x.subqueries) x.part; findings = of_subquery x.findings; subqueries = x.subqueries + 1 } else record x { findings = of_subquery x.findings })
    (if closed then record y { part = with_number (Some y.subqueries) y.part; findings = of_subquery y.findings; subqueries = y.subqueries + 1 } else record y { findings = of_subquery y.findings })
numbered_alike x y l true = record {
  part = number_kept x.subqueries x.part ∙ l.part ∙ sym (number_kept y.subqueries y.part);
  count = l.count;
  can_fail = l.can_fail;
  findings = ap of_subquery l.findings;
  subqueries = λ i. l.subqueries i + 1;
}
numbered_alike x y l false = record { part = l.part; count = l.count; can_fail = l.can_fail; findings = ap of_subquery l.findings; subqueries = l.subqueries }

as_alike : (x y : Found NumberedSelect) → LikePart SameShown x y → LikePart SameShown (as_subquery x) (as_subquery y)
as_alike x y l =
    subst (λ t. LikePart SameShown (as_subquery x) (if t then record y { part = with_number (Some y.subqueries) y.part; findings = of_subquery y.findings; subqueries = y.subqueries + 1 } else record y { findings = of_subquery y.findings }))
    (λ i. nat_eq (l.findings i).values.reach 0) (numbered_alike x y l (nat_eq x.findings.values.reach 0))

subquery_alike : (q r : Binding NumberedSelect) → Alike SameShown q r → Alike SameShown (subquery q) (subquery r)
subquery_alike q r h counts = both_then (LikePart SameShown) (LikePart SameShown) (q counts) (r counts) (λ x. Ok (as_subquery x)) (λ y. Ok (as_subquery y)) (h counts) as_alike

one_column_alike : (k l : Kind) (xs ys : List ResultColumn) → k ≡ l → xs ≡ ys → Alike Anything (must_be_beside k xs) (must_be_beside l ys)
one_column_alike k l xs ys same h = subst (λ b. Alike Anything (must_be_beside k xs) b) (λ i. must_be_beside (same i) (h i)) (same_alike Anything (λ x. tt) (must_be_beside k xs))

beside_alike : (k l : Kind) → k ≡ l → (q r : Binding NumberedSelect) → Alike SameShown q r → Alike Anything (beside k q) (beside l r)
beside_alike k l same q r h =
    then_alike SameShown Anything (subquery q) (subquery r) (λ x. must_be_beside k (columns_of x) >> pure x) (λ x. must_be_beside l (columns_of x) >> pure x) (subquery_alike q r h)
    (λ x y e. one_alike Anything (must_be_beside k (columns_of x)) (must_be_beside l (columns_of y)) (λ _. x) (λ _. y) (one_column_alike k l (columns_of x) (columns_of y) same e))

scalar_alike : (k l : Kind) → k ≡ l → (q r : Binding NumberedSelect) → Alike SameShown q r → Alike Anything (scalar k q) (scalar l r)
scalar_alike k l same q r h =
    then_alike Anything Anything (beside k q) (beside l r) (λ x. has_found a_status >> pure x) (λ x. has_found a_status >> pure x) (beside_alike k l same q r h)
    (λ x y e. one_alike Anything (has_found a_status) (has_found a_status) (λ _. x) (λ _. y) (same_alike Anything (λ x. tt) (has_found a_status)))

-- ---- a query specification

-- the parts of two query specifications that differ in positions alone
pub record LikeParts (p q : Parts) : Type 0 where
  pub by : AllZip LikePlace p.by q.by
  pub shown : SameColumns p.shown q.shown
  pub having : is_bound p.having ≡ is_bound q.having

abbrev LikeGroups : NumberedGroups → NumberedGroups → Type 0
LikeGroups NumberedGroups.not_grouped NumberedGroups.not_grouped = ⊤
LikeGroups (NumberedGroups.grouped by functions having) (NumberedGroups.grouped columns calls kept) = ⊤
LikeGroups _ _ = ⊥

like_groups : (by columns : List Place) (having kept : NumberedClause) (functions calls : List PlacedExpr) → AllZip LikePlace by columns → is_bound having ≡ is_bound kept → length functions ≡ length calls
    → LikeGroups (groups_by by having functions) (groups_by columns kept calls)
like_groups [] [] NumberedClause.absent NumberedClause.absent [] [] h b e = tt
like_groups [] [] NumberedClause.absent NumberedClause.absent [] (f ∷ calls) h b e = cc
like_groups [] [] NumberedClause.absent NumberedClause.absent (f ∷ functions) [] h b e = cc
like_groups [] [] NumberedClause.absent NumberedClause.absent (f ∷ functions) (g ∷ calls) h b e = tt
like_groups [] [] NumberedClause.absent (NumberedClause.present c) functions calls h b e = cc
like_groups [] [] (NumberedClause.present c) NumberedClause.absent functions calls h b e = cc
like_groups [] [] (NumberedClause.present c) (NumberedClause.present d) functions calls h b e = tt
like_groups [] (q ∷ columns) having kept functions calls h b e = absurd h
like_groups (p ∷ by) [] having kept functions calls h b e = absurd h
like_groups (p ∷ by) (q ∷ columns) having kept functions calls h b e = tt

whole_alike : (x y : Found Parts) → LikePart LikeParts x y → LikePart SameShown (select_found x) (select_found y)
whole_alike x y l = record {
  part = columns_are_same x.part.shown y.part.shown l.part.shown;
  count = refl;
  can_fail = refl;
  findings = λ i. record (l.findings i) { values = record (l.findings i).values { can_fail = (l.findings i).values.can_fail || l.can_fail i } };
  subqueries = l.subqueries;
}

rightly_alike : (star : Bool) (g h : NumberedGroups) → LikeGroups g h → (x y : Found Parts) → LikePart LikeParts x y → Both (LikePart SameShown) (rightly_grouped star g x) (rightly_grouped star h y)
rightly_alike star NumberedGroups.not_grouped NumberedGroups.not_grouped same x y l = whole_alike x y l
rightly_alike star (NumberedGroups.grouped by functions having) (NumberedGroups.grouped columns calls kept) same x y l =
    both_if (LikePart SameShown) star fault.CountMismatch (if x.findings.values.has_ungrouped then Err fault.UngroupedColumn else Ok (select_found x)) (if y.findings.values.has_ungrouped then Err fault.UngroupedColumn else Ok (select_found y))
    (subst (λ t. Both (LikePart SameShown) (if x.findings.values.has_ungrouped then Err fault.UngroupedColumn else Ok (select_found x)) (if t then Err fault.UngroupedColumn else Ok (select_found y)))
    (λ i. (l.findings i).values.has_ungrouped)
    (both_if (LikePart SameShown) x.findings.values.has_ungrouped fault.UngroupedColumn (Ok (select_found x)) (Ok (select_found y)) (whole_alike x y l)))
rightly_alike star NumberedGroups.not_grouped (NumberedGroups.grouped columns calls kept) same x y l = absurd same
rightly_alike star (NumberedGroups.grouped by functions having) NumberedGroups.not_grouped same x y l = absurd same

specification_alike : (star : Bool) (b c : Binding Parts) → Alike LikeParts b c → Alike SameShown (specification star b) (specification star c)
specification_alike star b c h counts =
    both_then (LikePart LikeParts) (LikePart SameShown) (from_first b counts) (from_first c counts) (λ x. rightly_grouped star (groups_of x) x) (λ x. rightly_grouped star (groups_of x) x) (h (record counts { functions = 0 }))
    (λ x y l. rightly_alike star (groups_of x) (groups_of y) (like_groups x.part.by y.part.by x.part.having y.part.having x.calls y.calls l.part.by l.part.having l.count) x y l)

test_alike : (c d : Binding NumberedCond) → Alike Anything c d → Alike Anything (test c) (test d)
test_alike c d h counts =
    both_then (LikePart Anything) (LikePart Anything) (c counts) (d counts) (λ x. Ok (noted x)) (λ x. Ok (noted x)) (h counts)
    (λ x y l. record { part = tt; count = l.count; can_fail = l.can_fail; findings = l.findings; subqueries = l.subqueries })

abbrev pub LikeClause : NumberedClause → NumberedClause → Type 0
LikeClause x y = is_bound x ≡ is_bound y

-- ---- all of them, one by the other

module _ (parameters : List Declared) where
  abbrev at : NamedTables → List Scope → Bool → Surroundings
  at names scopes allowed = record { names = names; parameters = parameters; scopes = scopes; functions_allowed = allowed }

  module _ (names others : NamedTables) (scopes more : List Scope) (alike : AllZip Like scopes more) (allowed : Bool) where
    abbrev a : Surroundings
    a = at names scopes allowed

    abbrev b : Surroundings
    b = at others more allowed

    abbrev pub CondAlike : Cond Named → Type 0
    CondAlike c = Alike Anything (cond_bound a c) (cond_bound b c)

    beside_value : (e : Expr Named) (f g : Typed → Binding NumberedCond) → ((x y : Typed) → x.kind ≡ y.kind → Alike Anything (f x) (g y)) → Alike Anything (value a e >>= f) (value b e >>= g)
    beside_value e f g h = then_alike SameKind Anything (value a e) (value b e) f g (value_alike names others parameters scopes more alike allowed e) h

    agree : (e : Expr Named) (x y : Typed) → x.kind ≡ y.kind → Alike Anything (agreeing a x.kind e) (agreeing b y.kind e)
    agree e x y same = agreeing_alike names others parameters scopes more alike allowed x.kind y.kind same e

    between_alike : (e low high : Expr Named) → CondAlike (between e low high)
    between_alike e low high =
        beside_value e (λ x. agreeing a x.kind low >>= λ y. agreeing a x.kind high >>= λ z. pure (NumberedCond.between x.tree y z)) (λ x. agreeing b x.kind low >>= λ y. agreeing b x.kind high >>= λ z. pure (NumberedCond.between x.tree y z))
        (λ x y same. then_alike Anything Anything (agreeing a x.kind low) (agreeing b y.kind low) (λ z. agreeing a x.kind high >>= λ w. pure (NumberedCond.between x.tree z w)) (λ z. agreeing b y.kind high >>= λ w. pure (NumberedCond.between y.tree z w))
        (agree low x y same)
        (λ z w t. one_alike Anything (agreeing a x.kind high) (agreeing b y.kind high) (λ v. NumberedCond.between x.tree z v) (λ v. NumberedCond.between y.tree w v) (agree high x y same)))

    like_alike : (e pattern : Expr Named) (escape : Option (Expr Named)) → CondAlike (like e pattern escape)
    like_alike e pattern escape =
        then_alike Anything Anything (text a e) (text b e) (λ x. text a pattern >>= λ y. escape_bound a escape >>= λ z. pure (NumberedCond.like x y z)) (λ x. text b pattern >>= λ y. escape_bound b escape >>= λ z. pure (NumberedCond.like x y z))
        (text_alike names others parameters scopes more alike allowed e)
        (λ x y t. then_alike Anything Anything (text a pattern) (text b pattern) (λ z. escape_bound a escape >>= λ v. pure (NumberedCond.like x z v)) (λ z. escape_bound b escape >>= λ v. pure (NumberedCond.like y z v))
        (text_alike names others parameters scopes more alike allowed pattern)
        (λ z w u. one_alike Anything (escape_bound a escape) (escape_bound b escape) (λ v. NumberedCond.like x z v) (λ v. NumberedCond.like y w v) (escape_alike names others parameters scopes more alike allowed escape)))

    more_alike : (c : Cond Named) (cs : Conds Named) (f g : Binding NumberedCond) → Alike Anything f g → (rest others : Binding NumberedConds) → Alike Anything rest others
        → Alike Anything (f >>= λ x. rest >>= λ xs. pure (NumberedConds.a_cond x xs)) (g >>= λ x. others >>= λ xs. pure (NumberedConds.a_cond x xs))
    more_alike c cs f g h rest others k =
        then_alike Anything Anything f g (λ x. rest >>= λ xs. pure (NumberedConds.a_cond x xs)) (λ x. others >>= λ xs. pure (NumberedConds.a_cond x xs)) h
        (λ x y t. one_alike Anything rest others (λ xs. NumberedConds.a_cond x xs) (λ xs. NumberedConds.a_cond y xs) k)

  mutual
    -- search conditions are bound alike
    pub cond_alike : (c : Cond Named) (names others : NamedTables) → (has_subquery c ≡ true → names ≡ others) → (scopes more : List Scope) (alike : AllZip Like scopes more) (allowed : Bool) → CondAlike names others scopes more alike allowed c
    cond_alike (compare op e f) names others same scopes more alike allowed =
        beside_value names others scopes more alike allowed e (λ x. agreeing (at names scopes allowed) x.kind f >>= λ y. pure (NumberedCond.compare op x.tree y)) (λ x. agreeing (at others more allowed) x.kind f >>= λ y. pure (NumberedCond.compare op x.tree y))
        (λ x y k. one_alike Anything (agreeing (at names scopes allowed) x.kind f) (agreeing (at others more allowed) y.kind f) (λ z. NumberedCond.compare op x.tree z) (λ z. NumberedCond.compare op y.tree z) (agree names others scopes more alike allowed f x y k))
    cond_alike (compare_subquery op e q) names others same scopes more alike allowed =
        beside_value names others scopes more alike allowed e (λ x. scalar x.kind (select_bound (at names scopes allowed) q) >>= λ y. pure (NumberedCond.compare_query Scalar op x.tree y))
        (λ x. scalar x.kind (select_bound (at others more allowed) q) >>= λ y. pure (NumberedCond.compare_query Scalar op x.tree y))
        (λ x y k. one_alike Anything (scalar x.kind (select_bound (at names scopes allowed) q)) (scalar y.kind (select_bound (at others more allowed) q)) (λ z. NumberedCond.compare_query Scalar op x.tree z) (λ z. NumberedCond.compare_query Scalar op y.tree z)
        (scalar_alike x.kind y.kind k (select_bound (at names scopes allowed) q) (select_bound (at others more allowed) q) (subst (λ others. Alike SameShown (select_bound (at names scopes allowed) q) (select_bound (at others more allowed) q)) (same refl) (select_alike q names scopes more alike allowed))))
    cond_alike (compare_quantified op quantifier e q) names others same scopes more alike allowed =
        beside_value names others scopes more alike allowed e (λ x. beside x.kind (select_bound (at names scopes allowed) q) >>= λ y. pure (NumberedCond.compare_query (compared_as quantifier) op x.tree y))
        (λ x. beside x.kind (select_bound (at others more allowed) q) >>= λ y. pure (NumberedCond.compare_query (compared_as quantifier) op x.tree y))
        (λ x y k. one_alike Anything (beside x.kind (select_bound (at names scopes allowed) q)) (beside y.kind (select_bound (at others more allowed) q)) (λ z. NumberedCond.compare_query (compared_as quantifier) op x.tree z)
        (λ z. NumberedCond.compare_query (compared_as quantifier) op y.tree z)
        (beside_alike x.kind y.kind k (select_bound (at names scopes allowed) q) (select_bound (at others more allowed) q) (subst (λ others. Alike SameShown (select_bound (at names scopes allowed) q) (select_bound (at others more allowed) q)) (same refl) (select_alike q names scopes more alike allowed))))
    cond_alike (between e low high) names others same scopes more alike allowed = between_alike names others scopes more alike allowed e low high
    cond_alike (in_subquery e q) names others same scopes more alike allowed =
        beside_value names others scopes more alike allowed e (λ x. beside x.kind (select_bound (at names scopes allowed) q) >>= λ y. pure (NumberedCond.in_query x.tree y))
        (λ x. beside x.kind (select_bound (at others more allowed) q) >>= λ y. pure (NumberedCond.in_query x.tree y))
        (λ x y k. one_alike Anything (beside x.kind (select_bound (at names scopes allowed) q)) (beside y.kind (select_bound (at others more allowed) q)) (λ z. NumberedCond.in_query x.tree z) (λ z. NumberedCond.in_query y.tree z)
        (beside_alike x.kind y.kind k (select_bound (at names scopes allowed) q) (select_bound (at others more allowed) q) (subst (λ others. Alike SameShown (select_bound (at names scopes allowed) q) (select_bound (at others more allowed) q)) (same refl) (select_alike q names scopes more alike allowed))))
    cond_alike (in_list e es) names others same scopes more alike allowed =
        beside_value names others scopes more alike allowed e (λ x. each (agreeing (at names scopes allowed) x.kind) es >>= λ ys. pure (NumberedCond.in_list x.tree ys)) (λ x. each (agreeing (at others more allowed) x.kind) es >>= λ ys. pure (NumberedCond.in_list x.tree ys))
        (λ x y k. one_alike (AllZip Anything) (each (agreeing (at names scopes allowed) x.kind) es) (each (agreeing (at others more allowed) y.kind) es) (λ zs. NumberedCond.in_list x.tree zs) (λ zs. NumberedCond.in_list y.tree zs)
        (each_alike Anything (agreeing (at names scopes allowed) x.kind) (agreeing (at others more allowed) y.kind) (λ f. agree names others scopes more alike allowed f x y k) es))
    cond_alike (like e pattern escape) names others same scopes more alike allowed = like_alike names others scopes more alike allowed e pattern escape
    cond_alike (is_null e) names others same scopes more alike allowed =
        one_alike SameKind (value (at names scopes allowed) e) (value (at others more allowed) e) (λ x. NumberedCond.is_null x.tree) (λ x. NumberedCond.is_null x.tree) (value_alike names others parameters scopes more alike allowed e)
    cond_alike (exists q) names others same scopes more alike allowed =
        one_alike SameShown (subquery (select_bound (at names scopes allowed) q)) (subquery (select_bound (at others more allowed) q)) (λ y. NumberedCond.exists y) (λ y. NumberedCond.exists y)
        (subquery_alike (select_bound (at names scopes allowed) q) (select_bound (at others more allowed) q) (subst (λ others. Alike SameShown (select_bound (at names scopes allowed) q) (select_bound (at others more allowed) q)) (same refl) (select_alike q names scopes more alike allowed)))
    cond_alike (negated c) names others same scopes more alike allowed =
        one_alike Anything (cond_bound (at names scopes allowed) c) (cond_bound (at others more allowed) c) (λ x. NumberedCond.negated x) (λ x. NumberedCond.negated x) (cond_alike c names others same scopes more alike allowed)
    cond_alike (conjunction cs) names others same scopes more alike allowed =
        one_alike Anything (tests_bound (at names scopes allowed) cs) (tests_bound (at others more allowed) cs) (λ x. NumberedCond.conjunction x) (λ x. NumberedCond.conjunction x) (tests_alike cs names others same scopes more alike allowed)
    cond_alike (disjunction cs) names others same scopes more alike allowed =
        one_alike Anything (terms_bound (at names scopes allowed) cs) (terms_bound (at others more allowed) cs) (λ x. NumberedCond.disjunction x) (λ x. NumberedCond.disjunction x) (terms_alike cs names others same scopes more alike allowed)

    tests_alike : (cs : Conds Named) (names others : NamedTables) → (have_subquery cs ≡ true → names ≡ others) → (scopes more : List Scope) (alike : AllZip Like scopes more) (allowed : Bool)
        → Alike Anything (tests_bound (at names scopes allowed) cs) (tests_bound (at others more allowed) cs)
    tests_alike no_cond names others same scopes more alike allowed = pure_alike Anything NumberedConds.no_cond NumberedConds.no_cond tt
    tests_alike (a_cond c cs) names others same scopes more alike allowed =
        more_alike names others scopes more alike allowed c cs (test (cond_bound (at names scopes allowed) c)) (test (cond_bound (at others more allowed) c))
        (test_alike (cond_bound (at names scopes allowed) c) (cond_bound (at others more allowed) c) (cond_alike c names others (λ t. same (or_left (has_subquery c) (have_subquery cs) t)) scopes more alike allowed))
        (tests_bound (at names scopes allowed) cs) (tests_bound (at others more allowed) cs) (tests_alike cs names others (λ t. same (or_right (has_subquery c) (have_subquery cs) t)) scopes more alike allowed)

    terms_alike : (cs : Conds Named) (names others : NamedTables) → (have_subquery cs ≡ true → names ≡ others) → (scopes more : List Scope) (alike : AllZip Like scopes more) (allowed : Bool)
        → Alike Anything (terms_bound (at names scopes allowed) cs) (terms_bound (at others more allowed) cs)
    terms_alike no_cond names others same scopes more alike allowed = pure_alike Anything NumberedConds.no_cond NumberedConds.no_cond tt
    terms_alike (a_cond c cs) names others same scopes more alike allowed =
        more_alike names others scopes more alike allowed c cs (cond_bound (at names scopes allowed) c) (cond_bound (at others more allowed) c)
        (cond_alike c names others (λ t. same (or_left (has_subquery c) (have_subquery cs) t)) scopes more alike allowed)
        (terms_bound (at names scopes allowed) cs) (terms_bound (at others more allowed) cs) (terms_alike cs names others (λ t. same (or_right (has_subquery c) (have_subquery cs) t)) scopes more alike allowed)

    pub clause_alike : (c : Clause Named) (names others : NamedTables) → (clause_has_subquery c ≡ true → names ≡ others) → (scopes more : List Scope) (alike : AllZip Like scopes more) (allowed : Bool)
        → Alike LikeClause (clause_bound (at names scopes allowed) c) (clause_bound (at others more allowed) c)
    clause_alike absent names others same scopes more alike allowed = pure_alike LikeClause NumberedClause.absent NumberedClause.absent refl
    clause_alike (present c) names others same scopes more alike allowed =
        then_alike Anything LikeClause (cond_bound (at names scopes allowed) c) (cond_bound (at others more allowed) c) (λ x. pure (NumberedClause.present x)) (λ x. pure (NumberedClause.present x)) (cond_alike c names others same scopes more alike allowed)
        (λ x y t. pure_alike LikeClause (NumberedClause.present x) (NumberedClause.present y) refl)

    -- query specifications become alike in scopes that are alike
    pub select_alike : (q : Select Named) (names : NamedTables) (scopes more : List Scope) (alike : AllZip Like scopes more) (allowed : Bool) → Alike SameShown (select_bound (at names scopes allowed) q) (select_bound (at names more allowed) q)
    select_alike (select distinct list from filter by having) names scopes more alike allowed =
        specification_alike (is_star list) (from_bound names from >>= parts scopes) (from_bound names from >>= parts more)
        (same_then LikeParts (from_bound names from) (parts scopes) (parts more)
        (λ items. then_alike LikeClause LikeParts (from_first (clause_bound (lines items scopes) filter)) (from_first (clause_bound (lines items more) filter)) (after_filter items scopes) (after_filter items more)
        (λ counts. clause_alike filter names names (λ t. refl) (over items None ∷ scopes) (over items None ∷ more) (scope_same (over items None), alike) false (record counts { functions = 0 }))
        (λ x y t. then_alike (AllZip LikePlace) LikeParts (each (grouping_column (lines items scopes)) by) (each (grouping_column (lines items more)) by) (after_columns items scopes x) (after_columns items more y)
        (each_alike LikePlace (grouping_column (lines items scopes)) (grouping_column (lines items more)) (grouping_alike (over items None) scopes more alike names names parameters false) by)
        (λ ps qs places. then_alike SameColumns LikeParts (list_bound (groups items ps scopes) (items_of items) list) (list_bound (groups items qs more) (items_of items) list) (after_list items scopes x ps) (after_list items more y qs)
        (list_alike names names parameters (over items (Some ps) ∷ scopes) (over items (Some qs) ∷ more) (groups_alike (items_of items) ps qs places, alike) true (items_of items) list)
        (λ shown others columns. then_alike LikeClause LikeParts (clause_bound (groups items ps scopes) having) (clause_bound (groups items qs more) having) (λ kept. pure (whole items x ps shown kept)) (λ kept. pure (whole items y qs others kept))
        (clause_alike having names names (λ t. refl) (over items (Some ps) ∷ scopes) (over items (Some qs) ∷ more) (groups_alike (items_of items) ps qs places, alike) true)
        (λ kept left e. pure_alike LikeParts (whole items x ps shown kept) (whole items y qs others left) (record { by = places; shown = columns; having = e })))))))
      where
        over : List NamedItem → Option (List Place) → Scope
        over items grouping = record { items = items_of items; grouping = grouping }

        lines : List NamedItem → List Scope → Surroundings
        lines items scopes = at names (over items None ∷ scopes) false

        groups : List NamedItem → List Place → List Scope → Surroundings
        groups items columns scopes = at names (over items (Some columns) ∷ scopes) true

        whole : List NamedItem → NumberedClause → List Place → List ShownColumn → NumberedClause → Parts
        whole items y columns shown kept = record { distinct = distinct; from = tables_of items; filter = y; by = columns; shown = shown; having = kept }

        after_list : List NamedItem → List Scope → NumberedClause → List Place → List ShownColumn → Binding Parts
        after_list items scopes y columns shown = clause_bound (groups items columns scopes) having >>= λ kept. pure (whole items y columns shown kept)

        after_columns : List NamedItem → List Scope → NumberedClause → List Place → Binding Parts
        after_columns items scopes y columns = list_bound (groups items columns scopes) (items_of items) list >>= after_list items scopes y columns

        after_filter : List NamedItem → List Scope → NumberedClause → Binding Parts
        after_filter items scopes y = each (grouping_column (lines items scopes)) by >>= after_columns items scopes y

        parts : List Scope → List NamedItem → Binding Parts
        parts scopes items = from_first (clause_bound (lines items scopes) filter) >>= after_filter items scopes
