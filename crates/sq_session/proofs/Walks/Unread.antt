-- Conditions that read no assigned column have the same truth on rows that differ in assigned columns alone.
use Rattle.std.proofs.Common.{◌≡◌, ℕ, zero, suc, false, if◌then◌else◌, ◌||◌, List, [], ◌∷◌, Option, Some, None, Ok, refl, ap}
use Rattle.std.specs.List.{list_any}
use Rattle.std.proofs.lemmas.Bool.{or_parts}
use Rattle.sq_lex.specs.declared.name.Name.{Name}
use Rattle.sq_tree.specs.declared.cond.Comparison.{Comparison}
use Rattle.sq_tree.specs.declared.cond.Comparison.TheVariants.{Equal, LessOrEqual, GreaterOrEqual}
use Rattle.sq_store.specs.declared.table.Numbered.{Numbered}
use Rattle.sq_value.specs.declared.truth.Truth.{Truth}
use Rattle.sq_value.specs.Pattern.{liked}
use Rattle.sq_value.specs.SetFunctions.{is_null as is_null_value}
use Rattle.sq_value.specs.Truth.{known, negation}
use Rattle.sq_meaning.specs.Environment.{Env, Input, Row, alone, outermost, value_at, within}
use Rattle.sq_meaning.specs.Expression.{product_of, sum_of, value, with_sign}
use Rattle.sq_meaning.specs.Placed.{Placed, by_place}
use Rattle.sq_meaning.specs.Query.{all_truth, and_also, any_in_turn, any_truth, compared, comparison, is_true, like_truth, or_else, truth}
use Rattle.sq_meaning.specs.Status.{Outcome, ◌>>=◌, like_status, well_formed, with_status}
use Rattle.sq_meaning.specs.Syntax.{Expr, literal, parameter, user, column, count_rows, set_function, signed, added, scaled, bracketed, Cond, Conds, compare, compare_subquery, compare_quantified, between, in_subquery, in_list, like, is_null, exists, negated, conjunction, disjunction, no_cond, a_cond}
use Rattle.sq_bound.specs.Condition.{cond_of}
use Rattle.sq_bound.specs.declared.condition.BoundCond.{BoundCond}
use Rattle.sq_bound.specs.declared.statement.BoundAssignment.{BoundAssignment}
use Rattle.sq_expression.specs.Frame.{inputs_of}
use Rattle.sq_query.specs.Target.{are_true}
use Rattle.sq_session.specs.Reads.{AreAlike, AreUnread, cond_reads, conds_read, escape_reads, expr_reads, is_assigned, one_reads}
use Rattle.sq_session.specs.Walk.{is_yes, no_tables}

-- where a row is seen outside every query
abbrev pub on_row : Row → List Input → Name → Env (Unit {0})
on_row row inputs name = within (alone [] (row ∷ [])) (outermost inputs name)

module _ {T : Type 0} (tables : T → Outcome (List Row)) (sets : List BoundAssignment) (row other : Row) (alike : AreAlike sets row other) (inputs : List Input) (name : Name) where
  -- ---- values

  at_same : (depth item position : ℕ) → is_assigned sets position ≡ false
      → value_at (on_row row inputs name) (record { depth = depth; item = item; column = position }) ≡ value_at (on_row other inputs name) (record { depth = depth; item = item; column = position })
  at_same zero zero position h = ap well_formed (alike position h)
  at_same zero (suc item) position h = refl
  at_same (suc depth) item position h = refl

  value_same : (e : Expr (Placed T)) → expr_reads sets e ≡ false → value (by_place tables) e (on_row row inputs name) ≡ value (by_place tables) e (on_row other inputs name)
  value_same (literal v) h = refl
  value_same (parameter p) h = refl
  value_same user h = refl
  value_same (column p) h = at_same p.depth p.item p.column h
  value_same count_rows h = refl
  value_same (set_function function distinct e) h = refl
  value_same (signed sign e) h = (λ i. value_same e h i >>= with_sign sign)
  value_same (added sign a b) h = let n = or_parts (expr_reads sets a) (expr_reads sets b) h in (λ i. value_same a n.0 i >>= λ x. value_same b n.1 i >>= λ y. sum_of sign x y)
  value_same (scaled sign a b) h = let n = or_parts (expr_reads sets a) (expr_reads sets b) h in (λ i. value_same a n.0 i >>= λ x. value_same b n.1 i >>= λ y. product_of sign x y)
  value_same (bracketed e) h = value_same e h

  compared_same : (op : Comparison) (a b : Expr (Placed T)) → expr_reads sets a ≡ false → expr_reads sets b ≡ false
      → compared (by_place tables) op a b (on_row row inputs name) ≡ compared (by_place tables) op a b (on_row other inputs name)
  compared_same op a b h k = (λ i. value_same a h i >>= λ x. value_same b k i >>= λ y. Ok (comparison op x y))

  list_same : (a : Expr (Placed T)) (es : List (Expr (Placed T))) → expr_reads sets a ≡ false → list_any (expr_reads sets) es ≡ false
      → any_in_turn (λ e. compared (by_place tables) Equal a e (on_row row inputs name)) es ≡ any_in_turn (λ e. compared (by_place tables) Equal a e (on_row other inputs name)) es
  list_same a [] h k = refl
  list_same a (e ∷ es) h k = let n = or_parts (expr_reads sets e) (list_any (expr_reads sets) es) k in (λ i. or_else (compared_same Equal a e h n.0 i) (list_same a es h n.1 i))

  like_same : (text pattern : Expr (Placed T)) (escape : Option (Expr (Placed T))) → expr_reads sets text ≡ false → expr_reads sets pattern ≡ false → escape_reads sets escape ≡ false
      → like_truth (by_place tables) text pattern escape (on_row row inputs name) ≡ like_truth (by_place tables) text pattern escape (on_row other inputs name)
  like_same text pattern None h k l = (λ i. value_same text h i >>= λ t. value_same pattern k i >>= λ p. with_status like_status (liked t p None))
  like_same text pattern (Some escape) h k l = (λ i. value_same text h i >>= λ t. value_same pattern k i >>= λ p. value_same escape l i >>= λ e. with_status like_status (liked t p (Some e)))

  -- ---- truths

  mutual
    pub truth_same : (c : Cond (Placed T)) → cond_reads sets c ≡ false → truth (by_place tables) c (on_row row inputs name) ≡ truth (by_place tables) c (on_row other inputs name)
    truth_same (compare op a b) h = let n = or_parts (expr_reads sets a) (expr_reads sets b) h in compared_same op a b n.0 n.1
    truth_same (compare_subquery op a q) h = cc
    truth_same (compare_quantified op k a q) h = cc
    truth_same (between a low high) h =
        let n = or_parts (expr_reads sets a || expr_reads sets low) (expr_reads sets high) h in
        let k = or_parts (expr_reads sets a) (expr_reads sets low) n.0 in
        (λ i. and_also (compared_same GreaterOrEqual a low k.0 k.1 i) (compared_same LessOrEqual a high k.0 n.1 i))
    truth_same (in_subquery a q) h = cc
    truth_same (in_list a es) h = let n = or_parts (expr_reads sets a) (list_any (expr_reads sets) es) h in list_same a es n.0 n.1
    truth_same (like text pattern escape) h =
        let n = or_parts (expr_reads sets text || expr_reads sets pattern) (escape_reads sets escape) h in
        let k = or_parts (expr_reads sets text) (expr_reads sets pattern) n.0 in
        like_same text pattern escape k.0 k.1 n.1
    truth_same (is_null a) h = (λ i. value_same a h i >>= λ x. Ok (known (is_null_value x)))
    truth_same (exists q) h = cc
    truth_same (negated c) h = (λ i. truth_same c h i >>= λ t. Ok (negation t))
    truth_same (conjunction cs) h = all_same cs h
    truth_same (disjunction cs) h = any_same cs h

    all_same : (cs : Conds (Placed T)) → conds_read sets cs ≡ false → all_truth (by_place tables) cs (on_row row inputs name) ≡ all_truth (by_place tables) cs (on_row other inputs name)
    all_same no_cond h = refl
    all_same (a_cond c cs) h = let n = or_parts (cond_reads sets c) (conds_read sets cs) h in (λ i. and_also (truth_same c n.0 i) (all_same cs n.1 i))

    any_same : (cs : Conds (Placed T)) → conds_read sets cs ≡ false → any_truth (by_place tables) cs (on_row row inputs name) ≡ any_truth (by_place tables) cs (on_row other inputs name)
    any_same no_cond h = refl
    any_same (a_cond c cs) h = let n = or_parts (cond_reads sets c) (conds_read sets cs) h in (λ i. or_else (truth_same c n.0 i) (any_same cs n.1 i))

-- ---- rows that are meant

pub unread : (sets : List BoundAssignment) (conditions : List BoundCond) → one_reads sets conditions ≡ false → AreUnread sets conditions
unread sets conditions h values name r other alike = ap is_yes (each_same conditions h)
  where
    test : Numbered → BoundCond → Outcome Truth
    test x c = truth (by_place no_tables) (cond_of [] c) (on_row x.row (inputs_of values) name)

    each_same : (cs : List BoundCond) → one_reads sets cs ≡ false → are_true (test r) cs ≡ are_true (test other) cs
    each_same [] k = refl
    each_same (c ∷ cs) k =
        let n = or_parts (cond_reads sets (cond_of [] c)) (one_reads sets cs) k in
        let first = truth_same no_tables sets r.row other.row alike (inputs_of values) name (cond_of [] c) n.0 in
        let others = each_same cs n.1 in
        (λ i. is_true (first i) >>= λ holds. if holds then others i else Ok false)
