-- The values and subqueries of search conditions are bound to trees by place that are well formed at the levels of their scopes. Their
-- set functions are in the order of the text (ISO/IEC 9075:1992, 6.5, 7.11 and clause 8).
use Rattle.std.proofs.Common.{◌≡◌, ℕ, zero, suc, ◌+◌, Bool, true, false, ◌||◌, List, [], ◌∷◌, ◌++◌, length, Option, Some, None, Ok, refl, sym, ap, subst, ◌∙◌, append_assoc}
use Rattle.std.proofs.lemmas.List.{append-nil}
use Rattle.std.specs.Prelude.{⊤, IsTrue, nat_eq, if◌then◌else◌}
use Rattle.std.specs.List.{AllByRecursion, flat_map}
use Rattle.sq_value.specs.declared.domain.Kind.{Kind}
use Rattle.sq_tree.specs.declared.cond.Comparison.{Comparison}
use Rattle.sq_tree.specs.declared.cond.Quantifier.{Quantifier}
use Rattle.sq_tree.specs.declared.cond.Quantifier.TheVariants as quantifier
use Rattle.sq_meaning.specs.Environment.{Row}
use Rattle.sq_meaning.specs.Expression.{set_functions}
use Rattle.sq_meaning.specs.Kind.{Kinds, kind, select_kinds}
use Rattle.sq_meaning.specs.Placed.{Placed, by_place}
use Rattle.sq_meaning.specs.Query.{cond_functions, conds_functions, clause_functions, escape_functions}
use Rattle.sq_meaning.specs.Spelled.{Named}
use Rattle.sq_meaning.specs.Status as status
use Rattle.sq_meaning.specs.Syntax.{Expr, Cond, Conds, Clause, Select, compare, compare_subquery, compare_quantified, between, in_subquery, in_list, like}
use Rattle.sq_meaning.specs.WellFormed.{Has, IsBeside, IsDeclaredAt, IsOnlyKind, WellFormedClause, WellFormedCond, WellFormedConds, WellFormedEscape, WellFormedExpr, WellFormedPair, WellFormedSelect, WellFormedText, froms, is_comparable, is_text, kinds_by_place}
use Rattle.sq_bound.specs.Condition.{PlacedClause, PlacedCond, compared_with}
use Rattle.sq_bound.specs.Expression.{PlacedExpr, missing}
use Rattle.sq_bound.specs.WellFormed.{Levels, TableKinds}
use Rattle.sq_bound.specs.declared.condition.Compared.TheVariants.{Scalar}
use Rattle.sq_bound.specs.declared.condition.TablePlace.{TablePlace}
use Rattle.sq_binding.specs.Condition.{agreeing, as_subquery, compared_as, escape_bound, select_bound}
use Rattle.sq_binding.specs.Expression.{Bound, bound}
use Rattle.sq_binding.specs.Found.{Counts, Found, after, each, joined}
use Rattle.sq_binding.specs.Numbered.{Numbered}
use Rattle.sq_binding.specs.NumberedCondition.{NumberedClause, NumberedCond, NumberedConds, NumberedSelect, select_of, with_number}
use Rattle.sq_binding.specs.PlacedQuery.{clause_placed, cond_placed, conds_placed, escape_placed, expr_placed, select_placed}
use Rattle.sq_binding.specs.QueryFindings.{a_status, of_subquery}
use Rattle.sq_binding.specs.Select.{Surroundings, Typed, value, value_found}
use Rattle.sq_binding.proofs.Standing.ExprsStand.{expr_stands}
use Rattle.sq_binding.proofs.Notes.GroupsNoted.{HasGroups}
use Rattle.sq_binding.proofs.Standing.Levels.{AreLevels, HasKind, MayStandAt, NamesKnow, Stands, kinds_declared, may_first, may_second}
use Rattle.sq_binding.proofs.Inductions.Pieces.{agreeing_holds, escape_holds, kinds_of_part, value_holds}
use Rattle.sq_binding.proofs.Placing.Placed.{bound_placed}
use Rattle.sq_binding.proofs.Placing.PlacedParts.{around, expr_alone}
use Rattle.sq_binding.proofs.Placing.PlacedQuery.{select_is_placed}
use Rattle.sq_binding.proofs.Inductions.QueryCases.{Known}
use Rattle.sq_binding.proofs.Inductions.Steps.{one_step, two_steps, three_steps}
use Rattle.sq_binding.proofs.Inductions.Turns.{each_holds, found_too, it_is, put}

-- ---- outcomes

pub ok_same : {A : Type 0} (x y : A) → ◌≡◌ {A = status.Outcome A} (Ok x) (Ok y) → x ≡ y
ok_same x y e = cc

pub has_there : {A : Type 0} (P : A → Type 0) (o : status.Outcome A) (x : A) → o ≡ Ok x → P x → Has P o
has_there P o x e p = subst (Has P) (sym e) p

-- any number of set functions may stand before a part
pub some_before : (n : ℕ) → (before : List PlacedExpr) × (length before ≡ n)
some_before zero = ([], refl)
some_before (suc n) = let rest = some_before n in (missing ∷ rest.0, ap suc rest.1)

-- ---- subqueries

pub calls_same : (q : Found NumberedSelect) → (as_subquery q).calls ≡ q.calls
calls_same q = if_closed (nat_eq q.findings.values.reach 0)
  where
    if_closed : (closed : Bool)
        → (if closed then record q { part = with_number (Some q.subqueries) q.part; findings = of_subquery q.findings; subqueries = q.subqueries + 1 } else record q { findings = of_subquery q.findings }).calls ≡ q.calls
    if_closed true = refl
    if_closed false = refl

-- what is bound is the text with its names placed
pub select_there : (s : Select Named) (a : Surroundings) (counts : Counts) (q : Found NumberedSelect) → select_bound a s counts ≡ Ok q → select_placed (around a) s ≡ Ok (select_of q.part)
select_there s a counts q is =
    let before = some_before counts.functions in
    (it_is _ (select_bound a s counts) q is (select_is_placed s a counts)).is_so before.0 [] before.1

-- ---- values

module _ (columns : TableKinds) where
  abbrev pub K : Surroundings → Kinds (Placed TablePlace)
  K a = kinds_by_place columns (kinds_declared a.parameters)

  -- A value by place: its set functions are those that are added, and it is well formed at the levels at which it may stand.
  pub record ValueStands (a : Surroundings) (e : Expr Named) (x : Found Typed) : Type 0 where
    pub tree : PlacedExpr
    pub is_placed : expr_placed (around a) e ≡ Ok tree
    pub in_order : set_functions tree ≡ x.calls
    pub stands : (levels : Levels) → MayStandAt columns levels a.scopes a.functions_allowed x.findings.values.has_ungrouped
        → HasKind columns (kinds_declared a.parameters) levels tree x.part.kind × Stands columns (kinds_declared a.parameters) levels tree

  value_part : (a : Surroundings) (counts : Counts) (e : Expr Named) (b : Bound) → bound a.scopes a.parameters a.functions_allowed false e counts.functions ≡ Ok b → ValueStands a e (value_found counts b)
  value_part a counts e b is =
      let p = bound_placed a.scopes a.parameters a.functions_allowed false e counts.functions b is in
      let s = expr_stands columns a.scopes a.parameters a.functions_allowed false e counts.functions b is in
      record {
        tree = s.tree;
        is_placed = expr_alone a.scopes a.parameters e ∙ s.is_placed;
        in_order = ap set_functions (ok_same s.tree p.tree (sym s.is_placed ∙ p.is_placed)) ∙ p.in_order;
        stands = λ levels m. s.stands levels m.are_levels m.functions m.reads (λ no. cc);
      }

  pub value_stands : (a : Surroundings) (counts : Counts) (e : Expr Named) (x : Found Typed) → value a e counts ≡ Ok x → ValueStands a e x
  value_stands a counts e x is = it_is (ValueStands a e) (value a e counts) x is (value_holds a counts (ValueStands a e) e (λ b so. value_part a counts e b so))

  -- ---- at levels

  module _ (a : Surroundings) (levels : Levels) (rows_of : TablePlace → status.Outcome (List Row)) where
    abbrev pub WellExpr : PlacedExpr → Type 0
    WellExpr = WellFormedExpr (by_place rows_of) (K a) (IsDeclaredAt (kinds_declared a.parameters)) levels

    abbrev pub WellPair : PlacedExpr → PlacedExpr → Type 0
    WellPair = WellFormedPair (by_place rows_of) (K a) (IsDeclaredAt (kinds_declared a.parameters)) levels

    abbrev pub Well : PlacedCond → Type 0
    Well = WellFormedCond (by_place rows_of) (K a) (IsDeclaredAt (kinds_declared a.parameters)) levels

    abbrev pub StandsAt : PlacedExpr → Kind → Type 0
    StandsAt t k = HasKind columns (kinds_declared a.parameters) levels t k × Stands columns (kinds_declared a.parameters) levels t

    pub well_expr : (t : PlacedExpr) (k : Kind) → StandsAt t k → WellExpr t
    well_expr t k h = (has_there (λ k. ⊤) (kind (K a) (froms levels) t) k h.0 tt, h.1 rows_of)

    pub well_pair : (t u : PlacedExpr) (k l : Kind) → StandsAt t k → StandsAt u l → is_comparable k l ≡ true → WellPair t u
    well_pair t u k l h g alike = (
      well_expr t k h,
      well_expr u l g,
      has_there (λ x. Has (λ y. IsTrue (is_comparable x y)) (kind (K a) (froms levels) u)) (kind (K a) (froms levels) t) k h.0
          (has_there (λ y. IsTrue (is_comparable k y)) (kind (K a) (froms levels) u) l g.0 alike),
    )

    pub well_text : (t : PlacedExpr) (k : Kind) → StandsAt t k → is_text k ≡ true → WellFormedText (by_place rows_of) (K a) (IsDeclaredAt (kinds_declared a.parameters)) levels t
    well_text t k h is = (well_expr t k h, has_there (λ x. IsTrue (is_text x)) (kind (K a) (froms levels) t) k h.0 is)

  -- ---- query specifications

  -- A query specification by place is well formed at the levels of the queries around, and its columns are of the kinds that are known
  -- beforehand; its set functions are its own, and what groups it is noted.
  pub record SelectStands (a : Surroundings) (counts : Counts) (s : Select Named) (x : Found NumberedSelect) : Type 0 where
    pub none : x.calls ≡ []
    pub groups : HasGroups x.part
    pub stands : (levels : Levels) → NamesKnow columns a.names → AreLevels columns levels a.scopes → (rows_of : TablePlace → status.Outcome (List Row))
        → WellFormedSelect (by_place rows_of) (K a) (IsDeclaredAt (kinds_declared a.parameters)) levels (select_of x.part)
    pub kinds_are : (levels : Levels) → NamesKnow columns a.names → AreLevels columns levels a.scopes → select_kinds (K a) (froms levels) (select_of x.part) ≡ Ok (kinds_of_part x)

  -- beside a value, whose set functions alone are added
  beside_calls : (x : Found Typed) (q : Found NumberedSelect) → q.calls ≡ [] → x.calls ≡ x.calls ++ (as_subquery q).calls
  beside_calls x q none = sym (append-nil x.calls) ∙ (λ i. x.calls ++ sym (calls_same q ∙ none) i)

  abbrev Beside : Surroundings → Levels → (TablePlace → status.Outcome (List Row)) → PlacedExpr → Found NumberedSelect → Type 0
  Beside a levels rows_of t q =
      WellExpr a levels rows_of t × IsBeside (by_place rows_of) (K a) (IsDeclaredAt (kinds_declared a.parameters)) levels t (select_of q.part)
      × WellFormedSelect (by_place rows_of) (K a) (IsDeclaredAt (kinds_declared a.parameters)) levels (select_of q.part)

  beside_stands : (a : Surroundings) (counts : Counts) (e : Expr Named) (s : Select Named) (x : Found Typed) (q : Found NumberedSelect) (v : ValueStands a e x) → SelectStands a counts s q → IsOnlyKind x.part.kind (kinds_of_part q)
      → (levels : Levels) → NamesKnow columns a.names → (more : Bool) → MayStandAt columns levels a.scopes a.functions_allowed (x.findings.values.has_ungrouped || more) → (rows_of : TablePlace → status.Outcome (List Row))
      → Beside a levels rows_of v.tree q
  beside_stands a counts e s x q v h one levels know more m rows_of =
      let left = v.stands levels (may_first columns levels a.scopes a.functions_allowed x.findings.values.has_ungrouped more m) in (
        well_expr a levels rows_of v.tree x.part.kind left,
        has_there (λ k. Has (IsOnlyKind k) (select_kinds (K a) (froms levels) (select_of q.part))) (kind (K a) (froms levels) v.tree) x.part.kind left.0
            (has_there (IsOnlyKind x.part.kind) (select_kinds (K a) (froms levels) (select_of q.part)) (kinds_of_part q) (h.kinds_are levels know m.are_levels) one),
        h.stands levels know m.are_levels rows_of,
      )

  -- however its values are compared
  quantified_stands : (a : Surroundings) (levels : Levels) (rows_of : TablePlace → status.Outcome (List Row)) (op : Comparison) (k : Quantifier) (t : PlacedExpr) (q : Found NumberedSelect) → Beside a levels rows_of t q
      → Well a levels rows_of (compared_with (compared_as k) op t (select_of q.part))
  quantified_stands a levels rows_of op quantifier.All t q h = h
  quantified_stands a levels rows_of op quantifier.Any t q h = h
  quantified_stands a levels rows_of op quantifier.Some t q h = h

  quantified_functions : (op : Comparison) (k : Quantifier) (t : PlacedExpr) (q : Found NumberedSelect) → cond_functions (compared_with (compared_as k) op t (select_of q.part)) ≡ set_functions t
  quantified_functions op quantifier.All t q = refl
  quantified_functions op quantifier.Any t q = refl
  quantified_functions op quantifier.Some t q = refl

  -- ---- conditions

  -- A search condition, likewise.
  pub record CondStands (a : Surroundings) (counts : Counts) (c : Cond Named) (x : Found NumberedCond) : Type 0 where
    pub tree : PlacedCond
    pub is_placed : cond_placed (around a) c ≡ Ok tree
    pub in_order : cond_functions tree ≡ x.calls
    pub stands : (levels : Levels) → NamesKnow columns a.names → MayStandAt columns levels a.scopes a.functions_allowed x.findings.values.has_ungrouped → (rows_of : TablePlace → status.Outcome (List Row)) → Well a levels rows_of tree

  pub record CondsStand (a : Surroundings) (counts : Counts) (cs : Conds Named) (x : Found NumberedConds) : Type 0 where
    pub tree : Conds (Placed TablePlace)
    pub is_placed : conds_placed (around a) cs ≡ Ok tree
    pub in_order : conds_functions tree ≡ x.calls
    pub stands : (levels : Levels) → NamesKnow columns a.names → MayStandAt columns levels a.scopes a.functions_allowed x.findings.values.has_ungrouped → (rows_of : TablePlace → status.Outcome (List Row))
        → WellFormedConds (by_place rows_of) (K a) (IsDeclaredAt (kinds_declared a.parameters)) levels tree

  pub record ClauseStands (a : Surroundings) (counts : Counts) (c : Clause Named) (x : Found NumberedClause) : Type 0 where
    pub tree : PlacedClause
    pub is_placed : clause_placed (around a) c ≡ Ok tree
    pub in_order : clause_functions tree ≡ x.calls
    pub stands : (levels : Levels) → NamesKnow columns a.names → MayStandAt columns levels a.scopes a.functions_allowed x.findings.values.has_ungrouped → (rows_of : TablePlace → status.Outcome (List Row))
        → WellFormedClause (by_place rows_of) (K a) (IsDeclaredAt (kinds_declared a.parameters)) levels tree

  pub compare_stands : (a : Surroundings) (counts : Counts) (op : Comparison) (e f : Expr Named) (x y : Found Typed) → value a e counts ≡ Ok x → value a f (after counts x) ≡ Ok y → is_comparable x.part.kind y.part.kind ≡ true
      → CondStands a counts (compare op e f) (joined x (put (NumberedCond.compare op x.part.tree y.part.tree) y))
  compare_stands a counts op e f x y is so alike =
      let v = value_stands a counts e x is in
      let w = value_stands a (after counts x) f y so in
      record {
        tree = compare op v.tree w.tree;
        is_placed = two_steps (compare op) (expr_placed (around a) e) (expr_placed (around a) f) v.tree w.tree v.is_placed w.is_placed;
        in_order = λ i. v.in_order i ++ w.in_order i;
        stands = λ levels know m rows_of.
            well_pair a levels rows_of v.tree w.tree x.part.kind y.part.kind (v.stands levels (may_first columns levels a.scopes a.functions_allowed x.findings.values.has_ungrouped y.findings.values.has_ungrouped m))
            (w.stands levels (may_second columns levels a.scopes a.functions_allowed x.findings.values.has_ungrouped y.findings.values.has_ungrouped m)) alike;
      }

  module _ (a : Surroundings) (counts : Counts) (e : Expr Named) (s : Select Named) (x : Found Typed) (q : Found NumberedSelect) (is : value a e counts ≡ Ok x) (h : Known select_bound SelectStands a (after counts x) s q)
      (one : IsOnlyKind x.part.kind (kinds_of_part q)) where
    pub scalar_stands : (op : Comparison) → CondStands a counts (compare_subquery op e s) (joined x (put (NumberedCond.compare_query Scalar op x.part.tree (as_subquery q).part) (found_too a_status (as_subquery q))))
    scalar_stands op =
        let v = value_stands a counts e x is in
        record {
          tree = compare_subquery op v.tree (select_of q.part);
          is_placed = two_steps (compare_subquery op) (expr_placed (around a) e) (select_placed (around a) s) v.tree (select_of q.part) v.is_placed (select_there s a (after counts x) q h.0);
          in_order = v.in_order ∙ beside_calls x q h.1.none;
          stands = λ levels know m rows_of. beside_stands a (after counts x) e s x q v h.1 one levels know (found_too a_status (as_subquery q)).findings.values.has_ungrouped m rows_of;
        }

    pub quantified_stands_by : (op : Comparison) (k : Quantifier) → CondStands a counts (compare_quantified op k e s) (joined x (put (NumberedCond.compare_query (compared_as k) op x.part.tree (as_subquery q).part) (as_subquery q)))
    quantified_stands_by op k =
        let v = value_stands a counts e x is in
        record {
          tree = compared_with (compared_as k) op v.tree (select_of q.part);
          is_placed = two_steps (compared_with (compared_as k) op) (expr_placed (around a) e) (select_placed (around a) s) v.tree (select_of q.part) v.is_placed (select_there s a (after counts x) q h.0);
          in_order = quantified_functions op k v.tree q ∙ v.in_order ∙ beside_calls x q h.1.none;
          stands = λ levels know m rows_of.
              quantified_stands a levels rows_of op k v.tree q (beside_stands a (after counts x) e s x q v h.1 one levels know (as_subquery q).findings.values.has_ungrouped m rows_of);
        }

    pub among_stands : CondStands a counts (in_subquery e s) (joined x (put (NumberedCond.in_query x.part.tree (as_subquery q).part) (as_subquery q)))
    among_stands =
        let v = value_stands a counts e x is in
        record {
          tree = in_subquery v.tree (select_of q.part);
          is_placed = two_steps in_subquery (expr_placed (around a) e) (select_placed (around a) s) v.tree (select_of q.part) v.is_placed (select_there s a (after counts x) q h.0);
          in_order = v.in_order ∙ beside_calls x q h.1.none;
          stands = λ levels know m rows_of. beside_stands a (after counts x) e s x q v h.1 one levels know (as_subquery q).findings.values.has_ungrouped m rows_of;
        }

  pub between_stands : (a : Surroundings) (counts : Counts) (e low high : Expr Named) (x y z : Found Typed) → value a e counts ≡ Ok x → value a low (after counts x) ≡ Ok y → value a high (after (after counts x) y) ≡ Ok z
      → is_comparable x.part.kind y.part.kind ≡ true → is_comparable x.part.kind z.part.kind ≡ true
      → CondStands a counts (between e low high) (joined x (joined y (put (NumberedCond.between x.part.tree y.part.tree z.part.tree) z)))
  between_stands a counts e low high x y z is so also alike same =
      let v = value_stands a counts e x is in
      let w = value_stands a (after counts x) low y so in
      let u = value_stands a (after (after counts x) y) high z also in
      record {
        tree = between v.tree w.tree u.tree;
        is_placed = three_steps between (expr_placed (around a) e) (expr_placed (around a) low) (expr_placed (around a) high) v.tree w.tree u.tree v.is_placed w.is_placed u.is_placed;
        in_order = append_assoc (set_functions v.tree) (set_functions w.tree) (set_functions u.tree) ∙ (λ i. v.in_order i ++ (w.in_order i ++ u.in_order i));
        stands = λ levels know m rows_of.
            let others = may_second columns levels a.scopes a.functions_allowed x.findings.values.has_ungrouped (y.findings.values.has_ungrouped || z.findings.values.has_ungrouped) m in
            let first = v.stands levels (may_first columns levels a.scopes a.functions_allowed x.findings.values.has_ungrouped (y.findings.values.has_ungrouped || z.findings.values.has_ungrouped) m) in (
              well_pair a levels rows_of v.tree w.tree x.part.kind y.part.kind first (w.stands levels (may_first columns levels a.scopes a.functions_allowed y.findings.values.has_ungrouped z.findings.values.has_ungrouped others)) alike,
              well_pair a levels rows_of v.tree u.tree x.part.kind z.part.kind first (u.stands levels (may_second columns levels a.scopes a.functions_allowed y.findings.values.has_ungrouped z.findings.values.has_ungrouped others)) same,
            );
      }

  -- ---- the list of IN

  -- values that agree with one of a kind
  record AgreeingStand (a : Surroundings) (k : Kind) (es : List (Expr Named)) (ys : Found (List Numbered)) : Type 0 where
    pub trees : List PlacedExpr
    pub are_placed : status.each (expr_placed (around a)) es ≡ Ok trees
    pub in_order : flat_map set_functions trees ≡ ys.calls
    pub stand : (levels : Levels) → MayStandAt columns levels a.scopes a.functions_allowed ys.findings.values.has_ungrouped → (rows_of : TablePlace → status.Outcome (List Row))
        → (t : PlacedExpr) → StandsAt a levels rows_of t k → AllByRecursion (WellPair a levels rows_of t) trees

  abbrev AgreesIs : Surroundings → Kind → Counts → Expr Named → Found Numbered → Type 0
  AgreesIs a k counts e y = (x : Found Typed) × (value a e counts ≡ Ok x) × (is_comparable k x.part.kind ≡ true) × (y ≡ put x.part.tree x)

  next_placed : (a : Surroundings) (e : Expr Named) (es : List (Expr Named)) (t : PlacedExpr) (ts : List PlacedExpr) → expr_placed (around a) e ≡ Ok t → status.each (expr_placed (around a)) es ≡ Ok ts
      → status.each (expr_placed (around a)) (e ∷ es) ≡ Ok (t ∷ ts)
  next_placed a e es t ts is are = two_steps (λ t ts. t ∷ ts) (expr_placed (around a) e) (status.each (expr_placed (around a)) es) t ts is are

  agreeing_next : (a : Surroundings) (k : Kind) (counts : Counts) (e : Expr Named) (es : List (Expr Named)) (x : Found Typed) (ys : Found (List Numbered)) → value a e counts ≡ Ok x → is_comparable k x.part.kind ≡ true → AgreeingStand a k es ys
      → AgreeingStand a k (e ∷ es) (joined (put x.part.tree x) (put (x.part.tree ∷ ys.part) ys))
  agreeing_next a k counts e es x ys is alike rest =
      let v = value_stands a counts e x is in
      record {
        trees = v.tree ∷ rest.trees;
        are_placed = next_placed a e es v.tree rest.trees v.is_placed rest.are_placed;
        in_order = λ i. v.in_order i ++ rest.in_order i;
        stand = λ levels m rows_of t left. (
          well_pair a levels rows_of t v.tree k x.part.kind left (v.stands levels (may_first columns levels a.scopes a.functions_allowed x.findings.values.has_ungrouped ys.findings.values.has_ungrouped m)) alike,
          rest.stand levels (may_second columns levels a.scopes a.functions_allowed x.findings.values.has_ungrouped ys.findings.values.has_ungrouped m) rows_of t left,
        );
      }

  agreeing_stand : (a : Surroundings) (k : Kind) (es : List (Expr Named)) (counts : Counts) (ys : Found (List Numbered)) → each (agreeing a k) es counts ≡ Ok ys → AgreeingStand a k es ys
  agreeing_stand a k es counts ys is =
      it_is (AgreeingStand a k es) (each (agreeing a k) es counts) ys is
      (each_holds (AgreesIs a k) (λ counts es ys. AgreeingStand a k es ys) (agreeing a k) (λ counts e. agreeing_holds a counts (AgreesIs a k counts e) k e (λ x so alike. (x, so, alike, refl)))
      (λ counts. record { trees = []; are_placed = refl; in_order = refl; stand = λ levels m rows_of t left. tt })
      (λ counts e es y ys p q. subst (λ y. AgreeingStand a k (e ∷ es) (joined y (put (y.part ∷ ys.part) ys))) (sym p.3) (agreeing_next a k counts e es p.0 ys p.1 p.2 q))
      es counts)

  pub list_stands : (a : Surroundings) (counts : Counts) (e : Expr Named) (es : List (Expr Named)) (x : Found Typed) (ys : Found (List Numbered)) → value a e counts ≡ Ok x → each (agreeing a x.part.kind) es (after counts x) ≡ Ok ys
      → CondStands a counts (in_list e es) (joined x (put (NumberedCond.in_list x.part.tree ys.part) ys))
  list_stands a counts e es x ys is so =
      let v = value_stands a counts e x is in
      let w = agreeing_stand a x.part.kind es (after counts x) ys so in
      record {
        tree = in_list v.tree w.trees;
        is_placed = two_steps in_list (expr_placed (around a) e) (status.each (expr_placed (around a)) es) v.tree w.trees v.is_placed w.are_placed;
        in_order = λ i. v.in_order i ++ w.in_order i;
        stands = λ levels know m rows_of.
            let left = v.stands levels (may_first columns levels a.scopes a.functions_allowed x.findings.values.has_ungrouped ys.findings.values.has_ungrouped m) in (
              well_expr a levels rows_of v.tree x.part.kind left,
              w.stand levels (may_second columns levels a.scopes a.functions_allowed x.findings.values.has_ungrouped ys.findings.values.has_ungrouped m) rows_of v.tree left,
            );
      }

  -- ---- LIKE

  record EscapeStands (a : Surroundings) (escape : Option (Expr Named)) (z : Found (Option Numbered)) : Type 0 where
    pub tree : Option PlacedExpr
    pub is_placed : escape_placed (around a) escape ≡ Ok tree
    pub in_order : escape_functions tree ≡ z.calls
    pub stands : (levels : Levels) → MayStandAt columns levels a.scopes a.functions_allowed z.findings.values.has_ungrouped → (rows_of : TablePlace → status.Outcome (List Row))
        → WellFormedEscape (by_place rows_of) (K a) (IsDeclaredAt (kinds_declared a.parameters)) levels tree

  escape_part : (a : Surroundings) (counts : Counts) (e : Expr Named) (x : Found Typed) → value a e counts ≡ Ok x → is_text x.part.kind ≡ true → EscapeStands a (Some e) (found_too a_status (put (Some x.part.tree) x))
  escape_part a counts e x is text =
      let v = value_stands a counts e x is in
      record {
        tree = Some v.tree;
        is_placed = one_step (λ (t : PlacedExpr). Some t) (expr_placed (around a) e) v.tree v.is_placed;
        in_order = v.in_order;
        stands = λ levels m rows_of. well_text a levels rows_of v.tree x.part.kind (v.stands levels (may_first columns levels a.scopes a.functions_allowed x.findings.values.has_ungrouped false m)) text;
      }

  escape_stands : (a : Surroundings) (escape : Option (Expr Named)) (counts : Counts) (z : Found (Option Numbered)) → escape_bound a escape counts ≡ Ok z → EscapeStands a escape z
  escape_stands a None counts z is =
      it_is (EscapeStands a None) (escape_bound a None counts) z is (record { tree = None; is_placed = refl; in_order = refl; stands = λ levels m rows_of. tt })
  escape_stands a (Some e) counts z is =
      it_is (EscapeStands a (Some e)) (escape_bound a (Some e) counts) z is (escape_holds a counts (EscapeStands a (Some e)) e (λ x so text. escape_part a counts e x so text))

  pub like_stands : (a : Surroundings) (counts : Counts) (e pattern : Expr Named) (escape : Option (Expr Named)) (x y : Found Typed) (z : Found (Option Numbered)) → value a e counts ≡ Ok x → value a pattern (after counts x) ≡ Ok y
      → is_text x.part.kind ≡ true → is_text y.part.kind ≡ true → escape_bound a escape (after (after counts x) y) ≡ Ok z
      → CondStands a counts (like e pattern escape) (joined x (joined y (put (NumberedCond.like x.part.tree y.part.tree z.part) z)))
  like_stands a counts e pattern escape x y z is so one two also =
      let v = value_stands a counts e x is in
      let w = value_stands a (after counts x) pattern y so in
      let u = escape_stands a escape (after (after counts x) y) z also in
      record {
        tree = like v.tree w.tree u.tree;
        is_placed = three_steps like (expr_placed (around a) e) (expr_placed (around a) pattern) (escape_placed (around a) escape) v.tree w.tree u.tree v.is_placed w.is_placed u.is_placed;
        in_order = append_assoc (set_functions v.tree) (set_functions w.tree) (escape_functions u.tree) ∙ (λ i. v.in_order i ++ (w.in_order i ++ u.in_order i));
        stands = λ levels know m rows_of.
            let others = may_second columns levels a.scopes a.functions_allowed x.findings.values.has_ungrouped (y.findings.values.has_ungrouped || z.findings.values.has_ungrouped) m in (
              well_text a levels rows_of v.tree x.part.kind
                  (v.stands levels (may_first columns levels a.scopes a.functions_allowed x.findings.values.has_ungrouped (y.findings.values.has_ungrouped || z.findings.values.has_ungrouped) m)) one,
              well_text a levels rows_of w.tree y.part.kind (w.stands levels (may_first columns levels a.scopes a.functions_allowed y.findings.values.has_ungrouped z.findings.values.has_ungrouped others)) two,
              u.stands levels (may_second columns levels a.scopes a.functions_allowed y.findings.values.has_ungrouped z.findings.values.has_ungrouped others) rows_of,
            );
      }
