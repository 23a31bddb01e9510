-- A condition without a subquery and a parameter reads its row alone: it comes to the same whatever the tables and the inputs
-- are (ISO/IEC 9075:1992, 6.2 and 8.1).
use Rattle.std.specs.List.{AllByRecursion}
use Rattle.std.specs.Prelude.{◌≡◌, false, List, [], ◌∷◌, ◌++◌, flat_map, Option, refl, Some, None, Ok}
use Rattle.sq_lex.specs.declared.name.Name.{Name}
use Rattle.sq_value.specs.Pattern.{liked}
use Rattle.sq_value.specs.SetFunctions.{is_null as is_null_value}
use Rattle.sq_value.specs.Truth.{known, negation}
use Rattle.sq_tree.specs.declared.cond.Comparison.{Comparison}
use Rattle.sq_tree.specs.declared.cond.Comparison.TheVariants.{Equal, LessOrEqual, GreaterOrEqual}
use Rattle.sq_meaning.specs.Environment.{Env, Input, Item, Row, Scope, TableName, alone}
use Rattle.sq_meaning.specs.Expression.{Reading, distinct_values, function_value, product_of, sum_of, value, with_sign}
use Rattle.sq_meaning.specs.Query.{all_truth, and_also, any_in_turn, any_truth, clause_truth, compared, comparison, like_truth, or_else, truth}
use Rattle.sq_meaning.specs.Spelled.{Named}
use Rattle.sq_meaning.specs.Status.{Outcome, and_then, each, like_status, with_status}
use Rattle.sq_meaning.specs.Syntax.{Clause, Cond, Conds, Expr, a_cond, absent, added, between, bracketed, column, compare, compare_quantified, compare_subquery, conjunction, count_rows, disjunction, exists, in_list, in_subquery, is_null, like, literal, negated, no_cond, parameter, present, scaled, set_function, signed, user}
use Rattle.sq_meaning.specs.Tables.{Tables, reading_by_name}
use Rattle.sq_meaning.specs.Target.{clause_has_subquery, has_subquery, have_subquery}
use Rattle.sq_meaning.specs.Binding.{unknown_parameter}
use Rattle.sq_meaning.specs.Site.{Around, Known, Site, clause_sites, compared_sites, cond_sites, conds_sites, escape_sites, expr_sites, kind_here, known_tables, operand_of, summed_sites, text_sites}
use Rattle.sq_run.proofs.Sites.SiteLaws.{all_parts, neither, never}

module _ (within tables others : Tables) (rows_of other_rows : TableName → Outcome (List Row)) (inputs other_inputs : List Input) (name : Name) where
  abbrev m : Reading Named
  m = reading_by_name tables rows_of

  abbrev n : Reading Named
  n = reading_by_name others other_rows

  abbrev here : List (Scope Item) → Env Item
  here scopes = record { scopes = scopes; inputs = inputs; user = name }

  abbrev there : List (Scope Item) → Env Item
  there scopes = record { scopes = scopes; inputs = other_inputs; user = name }

  abbrev k : Known
  k = known_tables within

  -- no parameter is declared
  abbrev HasNone : Site → Type 0
  HasNone x = unknown_parameter k x ≡ false

  abbrev HaveNone : List Site → Type 0
  HaveNone sites = AllByRecursion HasNone sites

  value_plain : (a : Around) (e : Expr Named) → HaveNone (expr_sites k a e) → (scopes : List (Scope Item)) → value m e (here scopes) ≡ value n e (there scopes)
  value_plain a (literal v) h scopes = refl
  value_plain a (parameter p) h scopes = never h.0
  value_plain a user h scopes = refl
  value_plain a (column c) h scopes = refl
  value_plain a count_rows h [] = refl
  value_plain a count_rows h (scope ∷ outer) = refl
  value_plain a (set_function function distinct e) h [] = refl
  value_plain a (set_function function distinct e) h (scope ∷ outer) =
      let inner = all_parts HasNone (summed_sites function (kind_here k a e)) (expr_sites k (operand_of a) e) h.1 in
      (λ i. and_then (each (λ line. value_plain (operand_of a) e inner.1 (alone scope.items line ∷ outer) i) scope.group) (λ values. function_value function (distinct_values distinct values)))
  value_plain a (signed sign e) h scopes = (λ i. and_then (value_plain a e h.1 scopes i) (with_sign sign))
  value_plain a (added sign e f) h scopes =
      let both = all_parts HasNone (expr_sites k a e) (expr_sites k a f) h.1.1 in
      (λ i. and_then (value_plain a e both.0 scopes i) (λ x. and_then (value_plain a f both.1 scopes i) (λ y. sum_of sign x y)))
  value_plain a (scaled sign e f) h scopes =
      let both = all_parts HasNone (expr_sites k a e) (expr_sites k a f) h.1.1.1 in
      (λ i. and_then (value_plain a e both.0 scopes i) (λ x. and_then (value_plain a f both.1 scopes i) (λ y. product_of sign x y)))
  value_plain a (bracketed e) h scopes = value_plain a e h scopes

  compared_plain : (op : Comparison) (a : Around) (e f : Expr Named) → HaveNone (compared_sites k a e f) → (scopes : List (Scope Item))
      → compared m op e f (here scopes) ≡ compared n op e f (there scopes)
  compared_plain op a e f h scopes =
      let both = all_parts HasNone (expr_sites k a e) (expr_sites k a f) h.1 in
      (λ i. and_then (value_plain a e both.0 scopes i) (λ x. and_then (value_plain a f both.1 scopes i) (λ y. Ok (comparison op x y))))

  among_plain : (a : Around) (e : Expr Named) (fs : List (Expr Named)) → HaveNone (flat_map (compared_sites k a e) fs) → (scopes : List (Scope Item))
      → any_in_turn (λ f. compared m Equal e f (here scopes)) fs ≡ any_in_turn (λ f. compared n Equal e f (there scopes)) fs
  among_plain a e [] h scopes = refl
  among_plain a e (f ∷ fs) h scopes =
      let both = all_parts HasNone (compared_sites k a e f) (flat_map (compared_sites k a e) fs) h in
      (λ i. or_else (compared_plain Equal a e f both.0 scopes i) (among_plain a e fs both.1 scopes i))

  like_plain : (a : Around) (text pattern : Expr Named) (escape : Option (Expr Named)) → HaveNone (text_sites k a text) → HaveNone (text_sites k a pattern)
      → HaveNone (escape_sites k a escape) → (scopes : List (Scope Item)) → like_truth m text pattern escape (here scopes) ≡ like_truth n text pattern escape (there scopes)
  like_plain a text pattern None h g last scopes =
      (λ i. and_then (value_plain a text h.1 scopes i) (λ t. and_then (value_plain a pattern g.1 scopes i) (λ p. with_status like_status (liked t p None))))
  like_plain a text pattern (Some escape) h g last scopes =
      (λ i. and_then (value_plain a text h.1 scopes i) (λ t. and_then (value_plain a pattern g.1 scopes i) (λ p. and_then (value_plain a escape last.1 scopes i) (λ e. with_status like_status (liked t p (Some e))))))

  mutual
    truth_plain : (a : Around) (c : Cond Named) → has_subquery c ≡ false → HaveNone (cond_sites k a c) → (scopes : List (Scope Item)) → truth m c (here scopes) ≡ truth n c (there scopes)
    truth_plain a (compare op e f) plain h scopes = compared_plain op a e f h scopes
    truth_plain a (compare_subquery op e q) plain h scopes = never plain
    truth_plain a (compare_quantified op kind e q) plain h scopes = never plain
    truth_plain a (between e low high) plain h scopes =
        let both = all_parts HasNone (compared_sites k a e low) (compared_sites k a e high) h in
        (λ i. and_also (compared_plain GreaterOrEqual a e low both.0 scopes i) (compared_plain LessOrEqual a e high both.1 scopes i))
    truth_plain a (in_subquery e q) plain h scopes = never plain
    truth_plain a (in_list e fs) plain h scopes = among_plain a e fs (all_parts HasNone (expr_sites k a e) (flat_map (compared_sites k a e) fs) h).1 scopes
    truth_plain a (like text pattern escape) plain h scopes =
        let last = all_parts HasNone (text_sites k a text ++ text_sites k a pattern) (escape_sites k a escape) h in
        let first = all_parts HasNone (text_sites k a text) (text_sites k a pattern) last.0 in like_plain a text pattern escape first.0 first.1 last.1 scopes
    truth_plain a (is_null e) plain h scopes = (λ i. and_then (value_plain a e h scopes i) (λ x. Ok (known (is_null_value x))))
    truth_plain a (exists q) plain h scopes = never plain
    truth_plain a (negated c) plain h scopes = (λ i. and_then (truth_plain a c plain h scopes i) (λ t. Ok (negation t)))
    truth_plain a (conjunction cs) plain h scopes = all_plain a cs plain h scopes
    truth_plain a (disjunction cs) plain h scopes = any_plain a cs plain h scopes

    all_plain : (a : Around) (cs : Conds Named) → have_subquery cs ≡ false → HaveNone (conds_sites k a cs) → (scopes : List (Scope Item)) → all_truth m cs (here scopes) ≡ all_truth n cs (there scopes)
    all_plain a no_cond plain h scopes = refl
    all_plain a (a_cond c cs) plain h scopes =
        let without = neither (has_subquery c) (have_subquery cs) plain in
        let both = all_parts HasNone (cond_sites k a c) (conds_sites k a cs) h in
        (λ i. and_also (truth_plain a c without.0 both.0 scopes i) (all_plain a cs without.1 both.1 scopes i))

    any_plain : (a : Around) (cs : Conds Named) → have_subquery cs ≡ false → HaveNone (conds_sites k a cs) → (scopes : List (Scope Item)) → any_truth m cs (here scopes) ≡ any_truth n cs (there scopes)
    any_plain a no_cond plain h scopes = refl
    any_plain a (a_cond c cs) plain h scopes =
        let without = neither (has_subquery c) (have_subquery cs) plain in
        let both = all_parts HasNone (cond_sites k a c) (conds_sites k a cs) h in
        (λ i. or_else (truth_plain a c without.0 both.0 scopes i) (any_plain a cs without.1 both.1 scopes i))

  pub clause_plain : (a : Around) (c : Clause Named) → clause_has_subquery c ≡ false → HaveNone (clause_sites k a c) → (scopes : List (Scope Item))
      → clause_truth m c (here scopes) ≡ clause_truth n c (there scopes)
  clause_plain a absent plain h scopes = refl
  clause_plain a (present c) plain h scopes = truth_plain a c plain h scopes
