-- The definitions read texts by the equations of `Spelling`.
use Rattle.std.proofs.Common.{◌≡◌, Bool, true, false, List, [], ◌∷◌, ◌++◌, None, Some, refl, sym, ◌∙◌, ap, map}
use Rattle.std.specs.Prelude.{fold}
use Rattle.std.proofs.lemmas.List.{map-append}
use Rattle.std.proofs.lemmas.List.Sums.{fold-append}
use Rattle.sq_lex.specs.declared.name.Name.{Name}
use Rattle.sq_tree.specs.declared.expr.Sign.{Sign}
use Rattle.sq_tree.specs.declared.expr.TimesSign.{TimesSign}
use Rattle.sq_tree.specs.declared.expr.Added.{Added}
use Rattle.sq_tree.specs.declared.expr.Term.{Term}
use Rattle.sq_tree.specs.declared.expr.Scaled.{Scaled}
use Rattle.sq_tree.specs.declared.expr.Factor.{Factor}
use Rattle.sq_tree.specs.declared.query.QueryTerm.{QueryTerm}
use Rattle.sq_tree.specs.declared.query.UnionTerm.{UnionTerm}
use Rattle.sq_meaning.specs.Syntax.{Expr, Query, added, scaled, union}
use Rattle.sq_meaning.specs.Spelled.{Named, is_distinct_word, list_of, expr_of, term_of, factor_of, added_of, scaled_of, query_of, query_term_of, union_term_of}
use Rattle.sq_meaning.proofs.SpelledLevels.{expr_of-roll, term_of-roll, added_of-roll, scaled_of-out, factor_of-out, primary_of-Number, primary_of-Text, primary_of-Parameter, primary_of-User, primary_of-Column, primary_of-CountRows, primary_of-SetFunction, primary_of-Bracketed, cond_of-roll, conj_of-roll, test_of-out, body_of-Predicate, body_of-Exists, body_of-Bracketed, tail_of-Compare, tail_of-CompareQuery, tail_of-Between, tail_of-InQuery, tail_of-InList, tail_of-Like, tail_of-Null, table_expression_of-roll, select_of-roll, query_of-roll, union_term_of-out, query_term_of-Specification, query_term_of-Bracketed}
use Rattle.sq_run.specs.Spelling.{sum, with_sign, product, union_of, ReadsExpressions, ReadsConditions, ReadsPredicates, ReadsQueries, Reads, reading_of}

-- the last of the values that a fold joins
last_joined : {A B C : Type 0} (step : B → C → B) (f : A → C) (first : B) (before : List A) (last : A)
    → fold step first (map f (before ++ last ∷ [])) ≡ step (fold step first (map f before)) (f last)
last_joined step f first before last =
    ap (fold step first) (map-append f before (last ∷ [])) ∙ fold-append step first (map f before) (f last ∷ [])

-- ---- value expressions

last_term : (t : Term) (before : List Added) (sign : Sign) (last : Term) → expr_of (sum t (before ++ with_sign sign last ∷ [])) ≡ added sign (expr_of (sum t before)) (term_of last)
last_term t before sign last =
    expr_of-roll t (before ++ with_sign sign last ∷ [])
    ∙ last_joined (λ left s. added s.0 left s.1) added_of (term_of t) before (with_sign sign last)
    ∙ ap (λ (s : Sign × Expr Named). added s.0 (fold (λ left s. added s.0 left s.1) (term_of t) (map added_of before)) s.1) (added_of-roll sign last)
    ∙ ap (λ left. added sign left (term_of last)) (sym (expr_of-roll t before))

last_factor : (f : Factor) (before : List Scaled) (sign : TimesSign) (last : Factor) → term_of (product f (before ++ record { sign = sign; factor = last } ∷ [])) ≡ scaled sign (term_of (product f before)) (factor_of last)
last_factor f before sign last =
    term_of-roll f (before ++ record { sign = sign; factor = last } ∷ [])
    ∙ last_joined (λ left s. scaled s.0 left s.1) scaled_of (factor_of f) before (record { sign = sign; factor = last })
    ∙ ap (λ (s : TimesSign × Expr Named). scaled s.0 (fold (λ left s. scaled s.0 left s.1) (factor_of f) (map scaled_of before)) s.1) (scaled_of-out (record { sign = sign; factor = last }))
    ∙ ap (λ left. scaled sign left (factor_of last)) (sym (term_of-roll f before))

reads_expressions : (own : Name) → ReadsExpressions (reading_of own)
reads_expressions own = record {
  one_term = λ t. expr_of-roll t [];
  last_term = last_term;
  one_factor = λ f. term_of-roll f [];
  last_factor = last_factor;
  unsigned = λ p. factor_of-out (record { sign = None; primary = p });
  with_a_sign = λ sign p. factor_of-out (record { sign = Some sign; primary = p });
  numbers = primary_of-Number;
  texts = primary_of-Text;
  parameters = primary_of-Parameter;
  users = primary_of-User;
  columns = primary_of-Column;
  rows_counted = primary_of-CountRows;
  set_functions = primary_of-SetFunction;
  brackets = primary_of-Bracketed;
}

-- ---- search conditions

reads_conditions : (own : Name) → ReadsConditions (reading_of own)
reads_conditions own = record {
  ors = cond_of-roll own;
  ands = conj_of-roll own;
  without_not = λ b. test_of-out own (record { negated = false; body = b });
  with_not = λ b. test_of-out own (record { negated = true; body = b });
  brackets = body_of-Bracketed own;
}

reads_predicates : (own : Name) → ReadsPredicates (reading_of own)
reads_predicates own = record {
  comparisons = λ left op right. body_of-Predicate own left _ ∙ tail_of-Compare own op right (expr_of left);
  subqueries = λ left op q. body_of-Predicate own left _ ∙ tail_of-CompareQuery own op None q (expr_of left);
  quantified = λ left op k q. body_of-Predicate own left _ ∙ tail_of-CompareQuery own op (Some k) q (expr_of left);
  betweens = λ left not low high. body_of-Predicate own left _ ∙ tail_of-Between own not low high (expr_of left);
  in_subqueries = λ left not q. body_of-Predicate own left _ ∙ tail_of-InQuery own not q (expr_of left);
  in_lists = λ left not values. body_of-Predicate own left _ ∙ tail_of-InList own not values (expr_of left);
  likes = λ left not pattern escape. body_of-Predicate own left _ ∙ tail_of-Like own not pattern escape (expr_of left);
  nulls = λ left not. body_of-Predicate own left _ ∙ tail_of-Null own not (expr_of left);
  existence = body_of-Exists own;
}

-- ---- queries

last_query_term : (own : Name) (t : QueryTerm) (before : List UnionTerm) (all : Bool) (last : QueryTerm) → query_of own (union_of t (before ++ record { all = all; term = last } ∷ [])) ≡ union all (query_of own (union_of t before)) (query_term_of own last)
last_query_term own t before all last =
    query_of-roll own t (before ++ record { all = all; term = last } ∷ [])
    ∙ last_joined (λ left u. union u.0 left u.1) (union_term_of own) (query_term_of own t) before (record { all = all; term = last })
    ∙ ap (λ (u : Bool × Query Named). union u.0 (fold (λ left u. union u.0 left u.1) (query_term_of own t) (map (union_term_of own) before)) u.1) (union_term_of-out own (record { all = all; term = last }))
    ∙ ap (λ left. union all left (query_term_of own last)) (sym (query_of-roll own t before))

reads_queries : (own : Name) → ReadsQueries own (reading_of own)
reads_queries own = record {
  stars = refl;
  items = λ l. refl;
  selections = λ quantifier list from where_clause group_by having.
      table_expression_of-roll own from where_clause group_by having (is_distinct_word quantifier) (list_of list);
  specifications = select_of-roll own;
  one_query_term = λ t. query_of-roll own t [];
  last_query_term = last_query_term own;
  alone = query_term_of-Specification own;
  brackets = query_term_of-Bracketed own;
}

pub spelling_met : (own : Name) → Reads own (reading_of own)
spelling_met own = record {
  expressions = reads_expressions own;
  conditions = reads_conditions own;
  predicates = reads_predicates own;
  queries = reads_queries own;
}
