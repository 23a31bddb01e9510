-- A search condition has by its places the truth that it has by its names, and a query specification the same rows, each by the
-- other (ISO/IEC 9075:1992, clause 8 and 7.9).
use Rattle.std.proofs.Common.{◌≡◌, Bool, List, [], ◌∷◌, ◌++◌, Option, Some, None, refl, Ok}
use Rattle.std.specs.Prelude.{⊤, IfOk}
use Rattle.std.specs.List.{AllZip, flat_map}
use Rattle.sq_value.specs.Pattern.{liked}
use Rattle.sq_value.specs.SetFunctions.{is_null as is_null_value}
use Rattle.sq_value.specs.Truth.{negation, known}
use Rattle.sq_tree.specs.declared.cond.Comparison.{Comparison}
use Rattle.sq_tree.specs.declared.cond.Comparison.TheVariants.{Equal, LessOrEqual, GreaterOrEqual}
use Rattle.sq_tree.specs.declared.cond.Quantifier.{Quantifier}
use Rattle.sq_tree.specs.declared.cond.Quantifier.TheVariants as quantifier
use Rattle.sq_tree.specs.declared.names.ColumnReference.{ColumnReference}
use Rattle.sq_meaning.specs.Status.{Outcome, and_then, each, with_status, like_status}
use Rattle.sq_meaning.specs.Syntax.{Expr, SelectList, expressions, Cond, Conds, Clause, Select, compare, compare_subquery, compare_quantified, between, in_subquery, in_list, like, is_null, exists, negated, conjunction, disjunction, no_cond, a_cond, absent, present, select}
use Rattle.sq_meaning.specs.Environment.{Item, Env, TableReference}
use Rattle.sq_meaning.specs.Expression.{set_functions}
use Rattle.sq_meaning.specs.Query.{all_truth, and_also, any_in_turn, any_truth, compared, compared_with_rows, comparison, cond_functions, conds_functions, escape_functions, has_rows, like_truth, only_value, or_else, rows, truth}
use Rattle.sq_meaning.specs.Placed.{Placed}
use Rattle.sq_meaning.specs.Spelled.{Named}
use Rattle.sq_bound.specs.Condition.{PlacedCond, PlacedSelect, compared_with}
use Rattle.sq_bound.specs.Expression.{PlacedExpr}
use Rattle.sq_bound.specs.declared.condition.Compared.TheVariants.{Scalar}
use Rattle.sq_bound.specs.declared.condition.TablePlace.{TablePlace}
use Rattle.sq_binding.specs.Condition.{compared_as}
use Rattle.sq_binding.specs.From.{items_of, tables_of}
use Rattle.sq_binding.specs.Placed.{placed_column}
use Rattle.sq_binding.specs.PlacedQuery.{clause_placed, cond_placed, conds_placed, escape_placed, expr_placed, item_placed, list_placed, select_placed}
use Rattle.sq_binding.specs.Scope.{FromItem}
use Rattle.sq_run.proofs.Places.Expressions.{SameExpr, SameValue, expr_same}
use Rattle.sq_run.proofs.Places.Items.{IsFit, SameItem, in_order_same, item_same}
use Rattle.sq_run.proofs.Places.Lists.{SameList, exprs_functions, list_same}
use Rattle.sq_run.proofs.Places.Outcomes.{append_zip, if_each, if_one, if_then, if_three, if_two}
use Rattle.sq_run.proofs.Places.Seen.{SameColumn, SeenEnv, column_same}
use Rattle.sq_run.proofs.Places.Setting.{Setting, around, at_places, named, names_in, scopes_with}
use Rattle.sq_run.proofs.Places.Specifications.{SameClause, specification_same}
use Rattle.sq_run.proofs.Sites.Stars.{ClauseStars, CondStars, CondsStars, ListStars, SelectStars}

abbrev PlacedConds : Type 0
PlacedConds = Conds (Placed TablePlace)

-- wherever the items of the queries around are seen, the outcomes are one
abbrev pub SameOutcome : {A : Type 0} → Setting → List (List FromItem) → (Env Item → Outcome A) → (Env (Unit {0}) → Outcome A)
    → Type 0
SameOutcome s scopes by_name by_place =
    (env : Env Item) (other : Env (Unit {0})) → SeenEnv s.parameters scopes env other → by_name env ≡ by_place other

pub record SameCond (s : Setting) (scopes : List (List FromItem)) (c : Cond Named) (t : PlacedCond) : Type 0 where
  pub truth : SameOutcome s scopes (truth (named s) c) (truth (at_places s) t)
  pub functions : AllZip (SameValue s scopes) (cond_functions c) (cond_functions t)

-- conditions that AND or OR joins
record SameConds (s : Setting) (scopes : List (List FromItem)) (cs : Conds Named) (ts : PlacedConds) : Type 0 where
  all : SameOutcome s scopes (all_truth (named s) cs) (all_truth (at_places s) ts)
  any : SameOutcome s scopes (any_truth (named s) cs) (any_truth (at_places s) ts)
  functions : AllZip (SameValue s scopes) (conds_functions cs) (conds_functions ts)

abbrev pub SameRows : Setting → List (List FromItem) → Select Named → PlacedSelect → Type 0
SameRows s scopes q t = SameOutcome s scopes (rows (named s) q) (rows (at_places s) t)

-- ---- predicates

compared_same : (s : Setting) (scopes : List (List FromItem)) (op : Comparison) (a b : Expr Named) (x y : PlacedExpr)
    → SameExpr s scopes a x → SameExpr s scopes b y
    → SameOutcome s scopes (compared (named s) op a b) (compared (at_places s) op x y)
compared_same s scopes op a b x y left right env other h =
    (λ i. and_then (left.value env other h i) (λ v. and_then (right.value env other h i) (λ w. Ok (comparison op v w))))

both_functions : (s : Setting) (scopes : List (List FromItem)) (a b : Expr Named) (x y : PlacedExpr) → SameExpr s scopes a x
    → SameExpr s scopes b y
    → AllZip (SameValue s scopes) (set_functions a ++ set_functions b) (set_functions x ++ set_functions y)
both_functions s scopes a b x y left right =
    append_zip (SameValue s scopes) (set_functions a) (set_functions b) (set_functions x)
    (set_functions y) left.functions right.functions

between_same : (s : Setting) (scopes : List (List FromItem)) (a low high : Expr Named) (x y z : PlacedExpr)
    → SameExpr s scopes a x → SameExpr s scopes low y → SameExpr s scopes high z
    → SameCond s scopes (between a low high) (between x y z)
between_same s scopes a low high x y z p q r = record {
  truth = λ env other h. (λ i. and_also (compared_same s scopes GreaterOrEqual a low x y p q env other h i) (compared_same s scopes LessOrEqual a high x z p r env other h i));
  functions = append_zip (SameValue s scopes) (set_functions a ++ set_functions low) (set_functions high) (set_functions x ++ set_functions y) (set_functions z) (both_functions s scopes a low x y p q) r.functions;
}

-- SOME and ANY are one
quantified_same : (s : Setting) (scopes : List (List FromItem)) (op : Comparison) (k : Quantifier) (a : Expr Named)
    (q : Select Named) (x : PlacedExpr) (t : PlacedSelect)
    → SameExpr s scopes a x → SameRows s scopes q t
    → SameCond s scopes (compare_quantified op k a q) (compared_with (compared_as k) op x t)
quantified_same s scopes op quantifier.All a q x t p r = record {
  truth = λ env other h. (λ i. and_then (p.value env other h i) (λ v. and_then (r env other h i) (λ found. Ok (compared_with_rows op quantifier.All v found))));
  functions = p.functions;
}
quantified_same s scopes op quantifier.Any a q x t p r = record {
  truth = λ env other h. (λ i. and_then (p.value env other h i) (λ v. and_then (r env other h i) (λ found. Ok (compared_with_rows op quantifier.Any v found))));
  functions = p.functions;
}
quantified_same s scopes op quantifier.Some a q x t p r = record {
  truth = λ env other h. (λ i. and_then (p.value env other h i) (λ v. and_then (r env other h i) (λ found. Ok (compared_with_rows op quantifier.Any v found))));
  functions = p.functions;
}

list_truth : (s : Setting) (scopes : List (List FromItem)) (a : Expr Named) (x : PlacedExpr) → SameExpr s scopes a x
    → (es : List (Expr Named)) (fs : List PlacedExpr) → AllZip (SameExpr s scopes) es fs
    → SameOutcome s scopes (λ env. any_in_turn (λ e. compared (named s) Equal a e env) es)
    (λ env. any_in_turn (λ f. compared (at_places s) Equal x f env) fs)
list_truth s scopes a x p [] [] r env other h = refl
list_truth s scopes a x p [] (f ∷ fs) r env other h = absurd r
list_truth s scopes a x p (e ∷ es) [] r env other h = absurd r
list_truth s scopes a x p (e ∷ es) (f ∷ fs) r env other h =
    (λ i. or_else (compared_same s scopes Equal a e x f p r.0 env other h i) (list_truth s scopes a x p es fs r.1 env other h i))

in_list_same : (s : Setting) (scopes : List (List FromItem)) (a : Expr Named) (es : List (Expr Named)) (x : PlacedExpr)
    (fs : List PlacedExpr)
    → SameExpr s scopes a x → AllZip (SameExpr s scopes) es fs
    → SameCond s scopes (in_list a es) (in_list x fs)
in_list_same s scopes a es x fs p r = record {
  truth = list_truth s scopes a x p es fs r;
  functions = append_zip (SameValue s scopes) (set_functions a) (flat_map set_functions es) (set_functions x) (flat_map set_functions fs) p.functions (exprs_functions s scopes es fs r);
}

abbrev SameEscape : Setting → List (List FromItem) → Option (Expr Named) → Option PlacedExpr → Type 0
SameEscape s scopes None None = ⊤
SameEscape s scopes (Some e) (Some f) = SameExpr s scopes e f
SameEscape s scopes _ _ = ⊥

escape_same : (s : Setting) (scopes : List (List FromItem)) (escape : Option (Expr Named))
    → IfOk (escape_placed (around s scopes) escape) (SameEscape s scopes escape)
escape_same s scopes None = tt
escape_same s scopes (Some e) =
    if_one (expr_placed (around s scopes) e) (λ x. Some x) (SameExpr s scopes e) (SameEscape s scopes (Some e))
    (expr_same s scopes e) (λ x same. same)

like_functions : (s : Setting) (scopes : List (List FromItem)) (e : Option (Expr Named)) (f : Option PlacedExpr)
    → SameEscape s scopes e f → AllZip (SameValue s scopes) (escape_functions e) (escape_functions f)
like_functions s scopes None None r = tt
like_functions s scopes (Some e) (Some f) r = r.functions
like_functions s scopes _ _ r = absurd r

liked_same : (s : Setting) (scopes : List (List FromItem)) (a b : Expr Named) (e : Option (Expr Named)) (x y : PlacedExpr)
    (f : Option PlacedExpr)
    → SameExpr s scopes a x → SameExpr s scopes b y → SameEscape s scopes e f
    → SameOutcome s scopes (like_truth (named s) a b e) (like_truth (at_places s) x y f)
liked_same s scopes a b None x y None p q r env other h =
    (λ i. and_then (p.value env other h i) (λ t. and_then (q.value env other h i) (λ u. with_status like_status (liked t u None))))
liked_same s scopes a b (Some e) x y (Some f) p q r env other h =
    (λ i. and_then (p.value env other h i) (λ t. and_then (q.value env other h i) (λ u. and_then (r.value env other h i) (λ v. with_status like_status (liked t u (Some v))))))
liked_same s scopes a b _ x y _ p q r env other h = absurd r

like_same : (s : Setting) (scopes : List (List FromItem)) (a b : Expr Named) (e : Option (Expr Named)) (x y : PlacedExpr)
    (f : Option PlacedExpr)
    → SameExpr s scopes a x → SameExpr s scopes b y → SameEscape s scopes e f
    → SameCond s scopes (like a b e) (like x y f)
like_same s scopes a b e x y f p q r = record {
  truth = liked_same s scopes a b e x y f p q r;
  functions = append_zip (SameValue s scopes) (set_functions a ++ set_functions b) (escape_functions e) (set_functions x ++ set_functions y) (escape_functions f) (both_functions s scopes a b x y p q) (like_functions s scopes e f r);
}

-- ---- conditions and query specifications

-- the parts of a query specification, one after the other
parts_same : (s : Setting) → IsFit s
    → (scopes : List (List FromItem)) (distinct : Bool) (list : SelectList Named) (from : List TableReference)
    (filter : Clause Named) (by : List ColumnReference) (having : Clause Named)
    → ListStars list by having
    → ((items : List FromItem) → IfOk (clause_placed (around s (items ∷ scopes)) filter) (SameClause s (items ∷ scopes) filter))
    → ((items : List FromItem) → IfOk (clause_placed (around s (items ∷ scopes)) having) (SameClause s (items ∷ scopes) having))
    → IfOk (select_placed (around s scopes) (select distinct list from filter by having))
    (SameRows s scopes (select distinct list from filter by having))
parts_same s fit scopes distinct list from filter by having stars filters havings =
    if_then (each (item_placed (names_in s)) from)
    (λ tables. and_then (clause_placed (around s (items_of tables ∷ scopes)) filter) (λ kept. and_then (each (placed_column (scopes_with (items_of tables ∷ scopes))) by) (λ columns.
    and_then (list_placed (around s (items_of tables ∷ scopes)) (items_of tables) list)
    (λ shown. and_then (clause_placed (around s (items_of tables ∷ scopes)) having) (λ groups.
    Ok (select distinct (expressions shown) (tables_of tables) kept columns groups))))))
    (AllZip (SameItem s) from) (SameRows s scopes (select distinct list from filter by having))
    (if_each (item_placed (names_in s)) (SameItem s) (item_same s fit) from)
    (λ tables from_is. if_then (clause_placed (around s (items_of tables ∷ scopes)) filter)
    (λ kept. and_then (each (placed_column (scopes_with (items_of tables ∷ scopes))) by) (λ columns.
    and_then (list_placed (around s (items_of tables ∷ scopes)) (items_of tables) list)
    (λ shown. and_then (clause_placed (around s (items_of tables ∷ scopes)) having) (λ groups.
    Ok (select distinct (expressions shown) (tables_of tables) kept columns groups)))))
    (SameClause s (items_of tables ∷ scopes) filter) (SameRows s scopes (select distinct list from filter by having))
    (filters (items_of tables))
    (λ kept filter_is. if_three (each (placed_column (scopes_with (items_of tables ∷ scopes))) by) (list_placed (around s (items_of tables ∷ scopes)) (items_of tables) list) (clause_placed (around s (items_of tables ∷ scopes)) having)
    (λ columns shown groups. select distinct (expressions shown) (tables_of tables) kept columns groups)
    (AllZip (SameColumn (items_of tables ∷ scopes)) by) (SameList s scopes (items_of tables) list)
    (SameClause s (items_of tables ∷ scopes) having) (SameRows s scopes (select distinct list from filter by having))
    (if_each (placed_column (scopes_with (items_of tables ∷ scopes))) (SameColumn (items_of tables ∷ scopes)) (column_same (items_of tables ∷ scopes)) by)
    (list_same s scopes (items_of tables) (in_order_same s from tables from_is) list)
    (havings (items_of tables))
    (λ columns shown groups by_is list_is having_is env other h.
    specification_same s scopes distinct from tables list shown filter kept by columns having groups
    (record { from_is = from_is; list_is = list_is; filter_is = filter_is; by_is = by_is; having_is = having_is }) stars env other h)))

mutual
  pub cond_same : (s : Setting) → IsFit s → (scopes : List (List FromItem)) (c : Cond Named) → CondStars c
      → IfOk (cond_placed (around s scopes) c) (SameCond s scopes c)
  cond_same s fit scopes (compare op a b) stars =
      if_two (expr_placed (around s scopes) a) (expr_placed (around s scopes) b) (λ x y. compare op x y) (SameExpr s scopes a)
      (SameExpr s scopes b) (SameCond s scopes (compare op a b)) (expr_same s scopes a) (expr_same s scopes b)
      (λ x y p q. record { truth = compared_same s scopes op a b x y p q; functions = both_functions s scopes a b x y p q })
  cond_same s fit scopes (compare_subquery op a q) stars =
      if_two (expr_placed (around s scopes) a) (select_placed (around s scopes) q) (λ x t. compared_with Scalar op x t)
      (SameExpr s scopes a) (SameRows s scopes q) (SameCond s scopes (compare_subquery op a q)) (expr_same s scopes a)
      (select_same s fit scopes q stars)
      (λ x t p r. record {
        truth = λ env other h. (λ i. and_then (p.value env other h i) (λ v. and_then (r env other h i) (λ found. and_then (only_value found) (λ w. Ok (comparison op v w)))));
        functions = p.functions;
      })
  cond_same s fit scopes (compare_quantified op k a q) stars =
      if_two (expr_placed (around s scopes) a) (select_placed (around s scopes) q)
      (λ x t. compared_with (compared_as k) op x t) (SameExpr s scopes a) (SameRows s scopes q)
      (SameCond s scopes (compare_quantified op k a q))
      (expr_same s scopes a) (select_same s fit scopes q stars)
      (λ x t p r. quantified_same s scopes op k a q x t p r)
  cond_same s fit scopes (between a low high) stars =
      if_three (expr_placed (around s scopes) a) (expr_placed (around s scopes) low) (expr_placed (around s scopes) high)
      (λ x y z. between x y z) (SameExpr s scopes a) (SameExpr s scopes low) (SameExpr s scopes high)
      (SameCond s scopes (between a low high))
      (expr_same s scopes a) (expr_same s scopes low) (expr_same s scopes high)
      (λ x y z p q r. between_same s scopes a low high x y z p q r)
  cond_same s fit scopes (in_subquery a q) stars =
      if_two (expr_placed (around s scopes) a) (select_placed (around s scopes) q) (λ x t. in_subquery x t) (SameExpr s scopes a)
      (SameRows s scopes q) (SameCond s scopes (in_subquery a q)) (expr_same s scopes a) (select_same s fit scopes q stars)
      (λ x t p r. record {
        truth = λ env other h. (λ i. and_then (p.value env other h i) (λ v. and_then (r env other h i) (λ found. Ok (compared_with_rows Equal quantifier.Any v found))));
        functions = p.functions;
      })
  cond_same s fit scopes (in_list a es) stars =
      if_two (expr_placed (around s scopes) a) (each (expr_placed (around s scopes)) es) (λ x fs. in_list x fs)
      (SameExpr s scopes a) (AllZip (SameExpr s scopes) es) (SameCond s scopes (in_list a es))
      (expr_same s scopes a) (if_each (expr_placed (around s scopes)) (SameExpr s scopes) (expr_same s scopes) es)
      (λ x fs p r. in_list_same s scopes a es x fs p r)
  cond_same s fit scopes (like a b escape) stars =
      if_three (expr_placed (around s scopes) a) (expr_placed (around s scopes) b) (escape_placed (around s scopes) escape)
      (λ x y f. like x y f) (SameExpr s scopes a) (SameExpr s scopes b) (SameEscape s scopes escape)
      (SameCond s scopes (like a b escape))
      (expr_same s scopes a) (expr_same s scopes b) (escape_same s scopes escape)
      (λ x y f p q r. like_same s scopes a b escape x y f p q r)
  cond_same s fit scopes (is_null a) stars =
      if_one (expr_placed (around s scopes) a) (λ x. is_null x) (SameExpr s scopes a) (SameCond s scopes (is_null a))
      (expr_same s scopes a)
      (λ x p. record { truth = λ env other h. (λ i. and_then (p.value env other h i) (λ v. Ok (known (is_null_value v)))); functions = p.functions })
  cond_same s fit scopes (exists q) stars =
      if_one (select_placed (around s scopes) q) (λ t. exists t) (SameRows s scopes q) (SameCond s scopes (exists q))
      (select_same s fit scopes q stars)
      (λ t r. record { truth = λ env other h. (λ i. and_then (r env other h i) (λ found. Ok (known (has_rows found)))); functions = tt })
  cond_same s fit scopes (negated c) stars =
      if_one (cond_placed (around s scopes) c) (λ d. negated d) (SameCond s scopes c) (SameCond s scopes (negated c))
      (cond_same s fit scopes c stars)
      (λ d p. record { truth = λ env other h. (λ i. and_then (p.truth env other h i) (λ t. Ok (negation t))); functions = p.functions })
  cond_same s fit scopes (conjunction cs) stars =
      if_one (conds_placed (around s scopes) cs) (λ ds. conjunction ds) (SameConds s scopes cs)
      (SameCond s scopes (conjunction cs)) (conds_same s fit scopes cs stars)
      (λ ds p. record { truth = p.all; functions = p.functions })
  cond_same s fit scopes (disjunction cs) stars =
      if_one (conds_placed (around s scopes) cs) (λ ds. disjunction ds) (SameConds s scopes cs)
      (SameCond s scopes (disjunction cs)) (conds_same s fit scopes cs stars)
      (λ ds p. record { truth = p.any; functions = p.functions })

  conds_same : (s : Setting) → IsFit s → (scopes : List (List FromItem)) (cs : Conds Named) → CondsStars cs
      → IfOk (conds_placed (around s scopes) cs) (SameConds s scopes cs)
  conds_same s fit scopes no_cond stars = record { all = λ env other h. refl; any = λ env other h. refl; functions = tt }
  conds_same s fit scopes (a_cond c cs) stars =
      if_two (cond_placed (around s scopes) c) (conds_placed (around s scopes) cs) (λ d ds. a_cond d ds) (SameCond s scopes c)
      (SameConds s scopes cs) (SameConds s scopes (a_cond c cs)) (cond_same s fit scopes c stars.0)
      (conds_same s fit scopes cs stars.1)
      (λ d ds p q. record {
        all = λ env other h. (λ i. and_also (p.truth env other h i) (q.all env other h i));
        any = λ env other h. (λ i. or_else (p.truth env other h i) (q.any env other h i));
        functions = append_zip (SameValue s scopes) (cond_functions c) (conds_functions cs) (cond_functions d) (conds_functions ds) p.functions q.functions;
      })

  pub clause_same : (s : Setting) → IsFit s → (scopes : List (List FromItem)) (c : Clause Named) → ClauseStars c
      → IfOk (clause_placed (around s scopes) c) (SameClause s scopes c)
  clause_same s fit scopes absent stars = record { truth = λ env other h. refl; functions = tt; presence = refl }
  clause_same s fit scopes (present c) stars =
      if_one (cond_placed (around s scopes) c) (λ d. present d) (SameCond s scopes c) (SameClause s scopes (present c))
      (cond_same s fit scopes c stars)
      (λ d p. record { truth = p.truth; functions = p.functions; presence = refl })

  pub select_same : (s : Setting) → IsFit s → (scopes : List (List FromItem)) (q : Select Named) → SelectStars q
      → IfOk (select_placed (around s scopes) q) (SameRows s scopes q)
  select_same s fit scopes (select distinct list from filter by having) stars =
      parts_same s fit scopes distinct list from filter by having stars.0
      (λ items. clause_same s fit (items ∷ scopes) filter stars.1) (λ items. clause_same s fit (items ∷ scopes) having stars.2)
