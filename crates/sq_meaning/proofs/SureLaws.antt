-- A sure tree never ends with a status other than 42000, in whatever environment (ISO/IEC 9075:1992, 6.5, 6.11, 7.9 and clause 8).
use Rattle.std.proofs.Common.{◌≡◌, inl, inr, ℕ, Bool, true, false, ◌&&◌, List, [], ◌∷◌, ◌++◌, map, Option, Some, None, refl, Ok, Err}
use Rattle.std.specs.Prelude.{⊤, IfSome, Result, if◌then◌else◌, not}
use Rattle.std.specs.List.{AllByRecursion, list_all, flat_map}
use Rattle.std.proofs.lemmas.Bool.{and_parts, not-true}
use Rattle.sq_value.proofs.Truths.{both_left, both_right}
use Rattle.sq_value.specs.Pattern.{liked, pattern_items, cut_as_read, plain, with_item}
use Rattle.sq_value.specs.SetFunctions.{is_null as is_null_value}
use Rattle.sq_value.specs.Truth.{negation, known as known_truth, both, either}
use Rattle.sq_value.specs.declared.fault.LikeFault.{LikeFault}
use Rattle.sq_value.specs.declared.pattern.Item.{Item as PatternItem}
use Rattle.sq_value.specs.declared.truth.Truth.{Truth}
use Rattle.sq_value.specs.declared.truth.Truth.TheVariants.{False, Unknown, True}
use Rattle.sq_value.specs.declared.value.Value.{Value}
use Rattle.sq_value.specs.declared.value.Value.TheVariants.{Null, Num, Chars}
use Rattle.sq_tree.specs.declared.cond.Comparison.{Comparison}
use Rattle.sq_tree.specs.declared.cond.Comparison.TheVariants.{Equal, LessOrEqual, GreaterOrEqual}
use Rattle.sq_tree.specs.declared.cond.Quantifier.TheVariants as quantifier
use Rattle.sq_tree.specs.declared.expr.SetFunction.{SetFunction}
use Rattle.sq_tree.specs.declared.expr.SetFunction.TheVariants.{Count, Sum, Avg, Min, Max}
use Rattle.sq_tree.specs.declared.expr.Sign.{Sign}
use Rattle.sq_tree.specs.declared.expr.Sign.TheVariants.{Plus, Minus}
use Rattle.sq_meaning.specs.Status.{Outcome, and_then, each, kept, well_formed, with_status, like_status, not_well_formed}
use Rattle.sq_meaning.specs.Syntax.{Naming, Expr, literal, parameter, user, column, count_rows, set_function, signed, added, scaled, bracketed, SelectList, all_columns, expressions, Cond, Conds, Clause, Select, compare, compare_subquery, compare_quantified, between, in_subquery, in_list, like, is_null, exists, negated, conjunction, disjunction, no_cond, a_cond, absent, present, select}
use Rattle.sq_meaning.specs.Environment.{Row, Line, Scope, Env, Place, within, alone, value_at, with_indicator, is_below_zero}
use Rattle.sq_meaning.specs.Expression.{value, with_sign, of_nearest, over_group, function_value, distinct_values}
use Rattle.sq_meaning.specs.Placed.{Placed, input_at, by_place}
use Rattle.sq_meaning.specs.Query.{compared, comparison, and_also, or_else, any_in_turn, compared_with_rows, has_rows, like_truth, list_functions, clause_functions, is_grouped, group_scope, grouping_values, grouped, groups_by, group_scopes, scopes_of, listed_values, is_true, truth, all_truth, any_truth, clause_truth, rows}
use Rattle.sq_meaning.specs.Quiet.{has_no_escape}
use Rattle.sq_meaning.specs.Rows.{product, firsts, same_row}
use Rattle.sq_meaning.specs.Sure.{IsSureOutcome, is_extreme, is_sure_expr, is_sure_list, is_sure, are_sure, is_sure_clause, is_sure_select}
use Rattle.sq_meaning.proofs.Parts.{ExprParts, CondParts, ListHas, ClauseHas, functions_have}

-- ---- tests

pub all_passed : {A : Type 0} (p : A → Bool) (xs : List A) → list_all p xs ≡ true → AllByRecursion (λ x. p x ≡ true) xs
all_passed p [] h = tt
all_passed p (x ∷ xs) h = (both_left (p x) (list_all p xs) h, all_passed p xs (both_right (p x) (list_all p xs) h))

-- ---- outcomes

value_there : {A : Type 0} (x : A) → IsSureOutcome (Ok x)
value_there x = inl tt

then_no_fault : {A B : Type 0} (o : Outcome A) (f : A → Outcome B) → IsSureOutcome o → ((x : A) → IsSureOutcome (f x)) → IsSureOutcome (and_then o f)
then_no_fault (Ok x) f h t = t x
then_no_fault (Err s) f (inl h) t = absurd h
then_no_fault (Err s) f (inr e) t = inr cc

there_no_fault : {A : Type 0} (o : Option A) → IsSureOutcome (well_formed o)
there_no_fault (Some x) = inl tt
there_no_fault None = inr refl

each_no_fault : {A B : Type 0} (W : A → Type 0) (f : A → Outcome B) → ((x : A) → W x → IsSureOutcome (f x)) → (xs : List A) → AllByRecursion W xs → IsSureOutcome (each f xs)
each_no_fault W f t [] w = inl tt
each_no_fault W f t (x ∷ xs) w =
    then_no_fault (f x) (λ y. and_then (each f xs) (λ ys. Ok (y ∷ ys))) (t x w.0)
    (λ y. then_no_fault (each f xs) (λ ys. Ok (y ∷ ys)) (each_no_fault W f t xs w.1) (λ ys. value_there (y ∷ ys)))

all_no_fault : {A B : Type 0} (f : A → Outcome B) → ((x : A) → IsSureOutcome (f x)) → (xs : List A) → IsSureOutcome (each f xs)
all_no_fault f t [] = inl tt
all_no_fault f t (x ∷ xs) =
    then_no_fault (f x) (λ y. and_then (each f xs) (λ ys. Ok (y ∷ ys))) (t x) (λ y. then_no_fault (each f xs) (λ ys. Ok (y ∷ ys)) (all_no_fault f t xs) (λ ys. value_there (y ∷ ys)))

kept_no_fault : {A : Type 0} (test : A → Outcome Bool) → ((x : A) → IsSureOutcome (test x)) → (xs : List A) → IsSureOutcome (kept test xs)
kept_no_fault test t [] = inl tt
kept_no_fault test t (x ∷ xs) =
    then_no_fault (test x) (λ passes. and_then (kept test xs) (λ ys. Ok (if passes then x ∷ ys else ys))) (t x)
    (λ passes. then_no_fault (kept test xs) (λ ys. Ok (if passes then x ∷ ys else ys)) (kept_no_fault test t xs) (λ ys. value_there (if passes then x ∷ ys else ys)))

also_no_fault : (o p : Outcome Truth) → IsSureOutcome o → IsSureOutcome p → IsSureOutcome (and_also o p)
also_no_fault (Err s) p h k = h
also_no_fault (Ok False) p h k = inl tt
also_no_fault (Ok Unknown) p h k = then_no_fault p (λ t. Ok (both Unknown t)) k (λ t. value_there (both Unknown t))
also_no_fault (Ok True) p h k = then_no_fault p (λ t. Ok (both True t)) k (λ t. value_there (both True t))

else_no_fault : (o p : Outcome Truth) → IsSureOutcome o → IsSureOutcome p → IsSureOutcome (or_else o p)
else_no_fault (Err s) p h k = h
else_no_fault (Ok True) p h k = inl tt
else_no_fault (Ok Unknown) p h k = then_no_fault p (λ t. Ok (either Unknown t)) k (λ t. value_there (either Unknown t))
else_no_fault (Ok False) p h k = then_no_fault p (λ t. Ok (either False t)) k (λ t. value_there (either False t))

in_turn_no_fault : {A : Type 0} (W : A → Type 0) (test : A → Outcome Truth) → ((x : A) → W x → IsSureOutcome (test x)) → (xs : List A) → AllByRecursion W xs → IsSureOutcome (any_in_turn test xs)
in_turn_no_fault W test t [] w = inl tt
in_turn_no_fault W test t (x ∷ xs) w = else_no_fault (test x) (any_in_turn test xs) (t x w.0) (in_turn_no_fault W test t xs w.1)

true_no_fault : (o : Outcome Truth) → IsSureOutcome o → IsSureOutcome (is_true o)
true_no_fault (Ok True) h = inl tt
true_no_fault (Ok Unknown) h = inl tt
true_no_fault (Ok False) h = inl tt
true_no_fault (Err s) (inl h) = absurd h
true_no_fault (Err s) (inr e) = inr cc

nearest_no_fault : {H A : Type 0} (env : Env H) (f : Scope H → Env H → Outcome A) → ((scope : Scope H) (outer : Env H) → IsSureOutcome (f scope outer)) → IsSureOutcome (of_nearest env f)
nearest_no_fault {H} {A} env f t = split env.scopes
  where
    split : (scopes : List (Scope H)) → IsSureOutcome (elim scopes as (λ _. Outcome A) [ [] ↦ not_well_formed | scope ∷ outer ↦ f scope (record env { scopes = outer }) ])
    split [] = inr refl
    split (scope ∷ outer) = t scope (record env { scopes = outer })

-- ---- LIKE without ESCAPE

Read : Result (List PatternItem) LikeFault → Type 0
Read (Ok items) = ⊤
Read (Err fault) = ⊥

read_more : (i : PatternItem) (r : Result (List PatternItem) LikeFault) → Read r → Read (with_item i r)
unfolding Read
read_more i (Ok items) h = tt
read_more i (Err fault) h = h

pattern_read : (codes : List ℕ) → Read (pattern_items None codes)
unfolding Read
pattern_read [] = tt
pattern_read (c ∷ []) = tt
pattern_read (c ∷ d ∷ cs) = read_more (plain c) (pattern_items None (d ∷ cs)) (pattern_read (d ∷ cs))

cut_no_fault : (text : List ℕ) (r : Result (List PatternItem) LikeFault) → Read r → IsSureOutcome (with_status like_status (cut_as_read text r))
unfolding Read
cut_no_fault text (Ok items) h = inl tt
cut_no_fault text (Err fault) h = absurd h

liked_no_fault : (t p : Value) → IsSureOutcome (with_status like_status (liked t p None))
liked_no_fault (Chars text) (Chars pattern) = cut_no_fault text (pattern_items None pattern) (pattern_read pattern)
liked_no_fault (Chars text) Null = inl tt
liked_no_fault (Chars text) (Num n) = inl tt
liked_no_fault Null p = inl tt
liked_no_fault (Num n) p = inl tt

-- ---- values

sign_no_fault : (sign : Sign) (v : Value) → IsSureOutcome (with_sign sign v)
sign_no_fault sign Null = inl tt
sign_no_fault Plus (Num n) = inl tt
sign_no_fault Minus (Num n) = inl tt
sign_no_fault sign (Chars t) = inr refl

function_no_fault : (function : SetFunction) (values : List Value) → is_extreme function ≡ true → IsSureOutcome (function_value function values)
function_no_fault Min values h = inl tt
function_no_fault Max values h = inl tt
function_no_fault Count values h = absurd cc
function_no_fault Sum values h = absurd cc
function_no_fault Avg values h = absurd cc

-- ---- what is sure is made of what is sure

no_escape : {N : Naming} (escape : Option (Expr N)) → has_no_escape escape ≡ true → IfSome escape (λ e. is_sure_expr e ≡ true)
no_escape None h = tt
no_escape (Some e) h = absurd cc

module _ {N : Naming} where
  abbrev pub AreSureExprs : List (Expr N) → Type 0
  AreSureExprs es = AllByRecursion (λ e. is_sure_expr e ≡ true) es

  sure_expr : ExprParts {N = N} (λ n e. is_sure_expr e ≡ true)
  sure_expr = record {
    of_signed = λ n sign e h. h;
    of_added = λ n sign a b h. absurd cc;
    of_scaled = λ n sign a b h. absurd cc;
    of_bracketed = λ n e h. h;
  }

  module _ (may_fail : N.Table → Bool) where
    sure_cond : CondParts {N = N} (λ n e. is_sure_expr e ≡ true) (λ n c. is_sure may_fail c ≡ true)
        (λ n cs. are_sure may_fail cs ≡ true) (λ n q. is_sure_select may_fail q ≡ true)
    sure_cond = record {
      of_compare = λ n op a b h. and_parts (is_sure_expr a) (is_sure_expr b) h;
      of_scalar = λ n op a q h. absurd cc;
      of_quantified = λ n op k a q h. and_parts (is_sure_expr a) (is_sure_select may_fail q) h;
      of_between = λ n a low high h.
          let last = and_parts (is_sure_expr a && is_sure_expr low) (is_sure_expr high) h in
          let first = and_parts (is_sure_expr a) (is_sure_expr low) last.0 in (first.0, first.1, last.1);
      of_among = λ n a q h. and_parts (is_sure_expr a) (is_sure_select may_fail q) h;
      of_list = λ n a es h.
          let both = and_parts (is_sure_expr a) (list_all is_sure_expr es) h in (both.0, all_passed is_sure_expr es both.1);
      of_like = λ n text pattern escape h.
          let last = and_parts (is_sure_expr text && is_sure_expr pattern) (has_no_escape escape) h in
          let first = and_parts (is_sure_expr text) (is_sure_expr pattern) last.0 in
          (first.0, first.1, no_escape escape last.1);
      of_null = λ n a h. h;
      of_exists = λ n q h. h;
      of_negated = λ n c h. h;
      of_conjunction = λ n cs h. h;
      of_disjunction = λ n cs h. h;
      of_first = λ n c cs h. and_parts (is_sure may_fail c) (are_sure may_fail cs) h;
    }

    list_sure : (list : SelectList N) → is_sure_list list ≡ true → ListHas (λ n e. is_sure_expr e ≡ true) 0 list
    list_sure all_columns h = tt
    list_sure (expressions es) h = all_passed is_sure_expr es h

    clause_sure : (c : Clause N) → is_sure_clause may_fail c ≡ true → ClauseHas (λ n d. is_sure may_fail d ≡ true) 0 c
    clause_sure absent h = tt
    clause_sure (present c) h = h

    functions_sure : (list : SelectList N) (having : Clause N) → is_sure_list list ≡ true → is_sure_clause may_fail having ≡ true
        → AreSureExprs (list_functions list ++ clause_functions having)
    functions_sure list having h k =
        functions_have (λ n e. is_sure_expr e ≡ true) sure_expr (λ n c. is_sure may_fail c ≡ true)
        (λ n cs. are_sure may_fail cs ≡ true) (λ n q. is_sure_select may_fail q ≡ true) sure_cond 0 list having
        (list_sure list h) (clause_sure having k)

-- ---- trees by place, whatever rows the tables have

module _ {T : Type 0} (tables : T → Outcome (List Row)) where
  abbrev Surroundings : Type 0
  Surroundings = Env (Unit {0})

  pub sure_value : (e : Expr (Placed T)) (env : Surroundings) → is_sure_expr e ≡ true → IsSureOutcome (value (by_place tables) e env)
  sure_value (literal v) env h = inl tt
  sure_value (parameter p) env h =
      then_no_fault (input_at env.inputs p.position) (with_indicator (input_at env.inputs) p.indicator) (there_no_fault _) (indicated p.indicator)
    where
      indicated : (i : Option ℕ) (v : Value) → IsSureOutcome (with_indicator (input_at env.inputs) i v)
      indicated None v = inl tt
      indicated (Some i) v = then_no_fault (input_at env.inputs i) (λ w. Ok (if is_below_zero w then Null else v)) (there_no_fault _) (λ w. value_there (if is_below_zero w then Null else v))
  sure_value user env h = inl tt
  sure_value (column p) env h = there_no_fault _
  sure_value count_rows env h = absurd cc
  sure_value (set_function function distinct e) env h =
      then_no_fault (over_group env (value (by_place tables) e)) (λ values. function_value function (distinct_values distinct values))
      (nearest_no_fault env (λ scope outer. each (λ line. value (by_place tables) e (within (alone scope.items line) outer)) scope.group)
      (λ scope outer. all_no_fault (λ line. value (by_place tables) e (within (alone scope.items line) outer))
      (λ line. sure_value e (within (alone scope.items line) outer) (both_right (is_extreme function) (is_sure_expr e) h)) scope.group))
      (λ values. function_no_fault function (distinct_values distinct values) (both_left (is_extreme function) (is_sure_expr e) h))
  sure_value (signed sign e) env h = then_no_fault (value (by_place tables) e env) (with_sign sign) (sure_value e env h) (sign_no_fault sign)
  sure_value (added sign a b) env h = absurd cc
  sure_value (scaled sign a b) env h = absurd cc
  sure_value (bracketed e) env h = sure_value e env h

  sure_compared : (op : Comparison) (a b : Expr (Placed T)) (env : Surroundings) → is_sure_expr a ≡ true → is_sure_expr b ≡ true → IsSureOutcome (compared (by_place tables) op a b env)
  sure_compared op a b env h k =
      then_no_fault (value (by_place tables) a env) (λ x. and_then (value (by_place tables) b env) (λ y. Ok (comparison op x y))) (sure_value a env h)
      (λ x. then_no_fault (value (by_place tables) b env) (λ y. Ok (comparison op x y)) (sure_value b env k) (λ y. value_there (comparison op x y)))

  sure_liked : (text pattern : Expr (Placed T)) (escape : Option (Expr (Placed T))) (env : Surroundings) → is_sure_expr text ≡ true → is_sure_expr pattern ≡ true → has_no_escape escape ≡ true
      → IsSureOutcome (like_truth (by_place tables) text pattern escape env)
  sure_liked text pattern None env h k none =
      then_no_fault (value (by_place tables) text env) (λ t. and_then (value (by_place tables) pattern env) (λ p. with_status like_status (liked t p None))) (sure_value text env h)
      (λ t. then_no_fault (value (by_place tables) pattern env) (λ p. with_status like_status (liked t p None)) (sure_value pattern env k) (liked_no_fault t))
  sure_liked text pattern (Some e) env h k none = absurd cc

  -- a value beside the rows of a subquery
  sure_beside : {A : Type 0} (a : Expr (Placed T)) (q : Select (Placed T)) (env : Surroundings) (f : Value → List Row → A) → is_sure_expr a ≡ true → IsSureOutcome (rows (by_place tables) q env)
      → IsSureOutcome (and_then (value (by_place tables) a env) (λ v. and_then (rows (by_place tables) q env) (λ rs. Ok (f v rs))))
  sure_beside a q env f h k =
      then_no_fault (value (by_place tables) a env) (λ v. and_then (rows (by_place tables) q env) (λ rs. Ok (f v rs))) (sure_value a env h)
      (λ v. then_no_fault (rows (by_place tables) q env) (λ rs. Ok (f v rs)) k (λ rs. value_there (f v rs)))

  -- ---- the phases of a query specification

  sure_grouping : (by : List Place) (env : Surroundings) → IsSureOutcome (grouping_values (by_place tables) by env)
  sure_grouping by env = all_no_fault (λ c. value_at env c) (λ c. there_no_fault _) by

  sure_groups : (by : List Place) (heads : List (Unit {0})) (lines : List Line) (env : Surroundings) → IsSureOutcome (groups_by (by_place tables) by heads lines env)
  sure_groups [] heads lines env = inl tt
  sure_groups (c ∷ by) heads lines env =
      then_no_fault (each (λ line. and_then (grouping_values (by_place tables) (c ∷ by) (within (alone heads line) env)) (λ key. Ok (key, line))) lines) (λ keyed. Ok (grouped keyed))
      (all_no_fault (λ line. and_then (grouping_values (by_place tables) (c ∷ by) (within (alone heads line) env)) (λ key. Ok (key, line)))
      (λ line. then_no_fault (grouping_values (by_place tables) (c ∷ by) (within (alone heads line) env)) (λ key. Ok (key, line)) (sure_grouping (c ∷ by) (within (alone heads line) env)) (λ key. value_there (key, line))) lines)
      (λ keyed. value_there (grouped keyed))

  sure_group_scopes : (functions : List (Expr (Placed T))) (by : List Place) (heads : List (Unit {0})) (lines : List Line) (env : Surroundings) → AreSureExprs functions → IsSureOutcome (group_scopes (by_place tables) functions by heads lines env)
  sure_group_scopes functions by heads lines env h =
      then_no_fault (groups_by (by_place tables) by heads lines env)
      (λ groups. and_then (each (λ group. each (λ f. value (by_place tables) f (within (group_scope heads group) env)) functions) groups) (λ _. Ok (map (group_scope heads) groups)))
      (sure_groups by heads lines env)
      (λ groups. then_no_fault (each (λ group. each (λ f. value (by_place tables) f (within (group_scope heads group) env)) functions) groups) (λ _. Ok (map (group_scope heads) groups))
      (all_no_fault (λ group. each (λ f. value (by_place tables) f (within (group_scope heads group) env)) functions)
      (λ group. each_no_fault (λ f. is_sure_expr f ≡ true) (λ f. value (by_place tables) f (within (group_scope heads group) env)) (λ f s. sure_value f (within (group_scope heads group) env) s) functions h) groups)
      (λ _. value_there (map (group_scope heads) groups)))

  sure_scopes : (list : SelectList (Placed T)) (by : List Place) (having : Clause (Placed T)) (heads : List (Unit {0})) (lines : List Line) (env : Surroundings) → AreSureExprs (list_functions list ++ clause_functions having)
      → IsSureOutcome (scopes_of (by_place tables) list by having heads lines env)
  sure_scopes list by having heads lines env h = split (is_grouped list by having)
    where
      split : (grouped : Bool) → IsSureOutcome (if grouped then group_scopes (by_place tables) (list_functions list ++ clause_functions having) by heads lines env else Ok (map (alone heads) lines))
      split true = sure_group_scopes (list_functions list ++ clause_functions having) by heads lines env h
      split false = inl tt

  sure_listed : (list : SelectList (Placed T)) (env : Surroundings) → is_sure_list list ≡ true → IsSureOutcome (listed_values (by_place tables) list env)
  sure_listed all_columns env h = nearest_no_fault env (λ scope outer. Ok (flat_map (λ row. row) scope.line)) (λ scope outer. inl tt)
  sure_listed (expressions es) env h = each_no_fault (λ e. is_sure_expr e ≡ true) (λ e. value (by_place tables) e env) (λ e s. sure_value e env s) es (all_passed is_sure_expr es h)

  abbrev after_list : Bool → List Row → Outcome (List Row)
  after_list distinct shown = Ok (if distinct then firsts same_row shown else shown)

  abbrev after_having : Bool → SelectList (Placed T) → Surroundings → List (Scope (Unit {0})) → Outcome (List Row)
  after_having distinct list env left = and_then (each (λ scope. listed_values (by_place tables) list (within scope env)) left) (after_list distinct)

  abbrev after_scopes : Bool → SelectList (Placed T) → Clause (Placed T) → Surroundings → List (Scope (Unit {0})) → Outcome (List Row)
  after_scopes distinct list having env scopes = and_then (kept (λ scope. is_true (clause_truth (by_place tables) having (within scope env))) scopes) (after_having distinct list env)

  abbrev after_lines : Bool → SelectList (Placed T) → List Place → Clause (Placed T) → Surroundings → List (Unit {0}) → List Line → Outcome (List Row)
  after_lines distinct list by having env heads lines = and_then (scopes_of (by_place tables) list by having heads lines env) (after_scopes distinct list having env)

  abbrev after_tables : Bool → SelectList (Placed T) → Clause (Placed T) → List Place → Clause (Placed T) → Surroundings → List (Unit {0}) → List (List Row) → Outcome (List Row)
  after_tables distinct list filter by having env heads found =
      and_then (kept (λ line. is_true (clause_truth (by_place tables) filter (within (alone heads line) env))) (product found)) (after_lines distinct list by having env heads)

  abbrev after_heads : Bool → SelectList (Placed T) → List T → Clause (Placed T) → List Place → Clause (Placed T) → Surroundings → List (Unit {0}) → Outcome (List Row)
  after_heads distinct list from filter by having env heads = and_then (each tables from) (after_tables distinct list filter by having env heads)

  -- a query specification whose clauses have a truth in whatever scope
  sure_phases : (distinct : Bool) (list : SelectList (Placed T)) (from : List T) (filter : Clause (Placed T)) (by : List Place) (having : Clause (Placed T)) (env : Surroundings) → AllByRecursion (λ t. IsSureOutcome (tables t)) from
      → is_sure_list list ≡ true → AreSureExprs (list_functions list ++ clause_functions having)
      → ((scope : Scope (Unit {0})) → IsSureOutcome (clause_truth (by_place tables) filter (within scope env))) → ((scope : Scope (Unit {0})) → IsSureOutcome (clause_truth (by_place tables) having (within scope env)))
      → IsSureOutcome (rows (by_place tables) (select distinct list from filter by having) env)
  sure_phases distinct list from filter by having env there listed functions wheres havings =
      then_no_fault (each (by_place tables).item from) (after_heads distinct list from filter by having env) (all_no_fault (by_place tables).item (λ t. inl tt) from)
      (λ heads. then_no_fault (each tables from) (after_tables distinct list filter by having env heads) (each_no_fault (λ t. IsSureOutcome (tables t)) tables (λ t h. h) from there)
      (λ found. then_no_fault (kept (λ line. is_true (clause_truth (by_place tables) filter (within (alone heads line) env))) (product found)) (after_lines distinct list by having env heads)
      (kept_no_fault (λ line. is_true (clause_truth (by_place tables) filter (within (alone heads line) env))) (λ line. true_no_fault _ (wheres (alone heads line))) (product found))
      (λ lines. then_no_fault (scopes_of (by_place tables) list by having heads lines env) (after_scopes distinct list having env) (sure_scopes list by having heads lines env functions)
      (λ scopes. then_no_fault (kept (λ scope. is_true (clause_truth (by_place tables) having (within scope env))) scopes) (after_having distinct list env)
      (kept_no_fault (λ scope. is_true (clause_truth (by_place tables) having (within scope env))) (λ scope. true_no_fault _ (havings scope)) scopes)
      (λ left. then_no_fault (each (λ scope. listed_values (by_place tables) list (within scope env)) left) (after_list distinct)
      (all_no_fault (λ scope. listed_values (by_place tables) list (within scope env)) (λ scope. sure_listed list (within scope env) listed) left) (λ shown. value_there (if distinct then firsts same_row shown else shown)))))))

module _ {T : Type 0} (may_fail : T → Bool) (tables : T → Outcome (List Row)) (there : (t : T) → may_fail t ≡ false → IsSureOutcome (tables t)) where
  from_there : (from : List T) → list_all (λ t. not (may_fail t)) from ≡ true → AllByRecursion (λ t. IsSureOutcome (tables t)) from
  from_there [] h = tt
  from_there (t ∷ from) h =
      (there t (not-true (may_fail t) (both_left (not (may_fail t)) (list_all (λ t. not (may_fail t)) from) h)), from_there from (both_right (not (may_fail t)) (list_all (λ t. not (may_fail t)) from) h))

  mutual
    truth_no_fault : (c : Cond (Placed T)) (env : Env (Unit {0})) → is_sure may_fail c ≡ true → IsSureOutcome (truth (by_place tables) c env)
    truth_no_fault (compare op a b) env h = sure_compared tables op a b env (both_left (is_sure_expr a) (is_sure_expr b) h) (both_right (is_sure_expr a) (is_sure_expr b) h)
    truth_no_fault (compare_subquery op a q) env h = absurd cc
    truth_no_fault (compare_quantified op k a q) env h =
        sure_beside tables a q env (compared_with_rows op k) (both_left (is_sure_expr a) (is_sure_select may_fail q) h) (rows_no_fault q env (both_right (is_sure_expr a) (is_sure_select may_fail q) h))
    truth_no_fault (between a low high) env h =
        let two : (is_sure_expr a && is_sure_expr low) ≡ true = both_left (is_sure_expr a && is_sure_expr low) (is_sure_expr high) h in
        let first : is_sure_expr a ≡ true = both_left (is_sure_expr a) (is_sure_expr low) two in
        also_no_fault (compared (by_place tables) GreaterOrEqual a low env) (compared (by_place tables) LessOrEqual a high env)
        (sure_compared tables GreaterOrEqual a low env first (both_right (is_sure_expr a) (is_sure_expr low) two))
        (sure_compared tables LessOrEqual a high env first (both_right (is_sure_expr a && is_sure_expr low) (is_sure_expr high) h))
    truth_no_fault (in_subquery a q) env h =
        sure_beside tables a q env (compared_with_rows Equal quantifier.Any) (both_left (is_sure_expr a) (is_sure_select may_fail q) h) (rows_no_fault q env (both_right (is_sure_expr a) (is_sure_select may_fail q) h))
    truth_no_fault (in_list a es) env h =
        in_turn_no_fault (λ e. is_sure_expr e ≡ true) (λ e. compared (by_place tables) Equal a e env) (λ e s. sure_compared tables Equal a e env (both_left (is_sure_expr a) (list_all is_sure_expr es) h) s)
        es (all_passed is_sure_expr es (both_right (is_sure_expr a) (list_all is_sure_expr es) h))
    truth_no_fault (like text pattern escape) env h =
        let two : (is_sure_expr text && is_sure_expr pattern) ≡ true = both_left (is_sure_expr text && is_sure_expr pattern) (has_no_escape escape) h in
        sure_liked tables text pattern escape env (both_left (is_sure_expr text) (is_sure_expr pattern) two) (both_right (is_sure_expr text) (is_sure_expr pattern) two)
        (both_right (is_sure_expr text && is_sure_expr pattern) (has_no_escape escape) h)
    truth_no_fault (is_null a) env h = then_no_fault (value (by_place tables) a env) (λ x. Ok (known_truth (is_null_value x))) (sure_value tables a env h) (λ x. inl tt)
    truth_no_fault (exists q) env h = then_no_fault (rows (by_place tables) q env) (λ rs. Ok (known_truth (has_rows rs))) (rows_no_fault q env h) (λ rs. inl tt)
    truth_no_fault (negated c) env h = then_no_fault (truth (by_place tables) c env) (λ t. Ok (negation t)) (truth_no_fault c env h) (λ t. inl tt)
    truth_no_fault (conjunction cs) env h = all_no_faults cs env h
    truth_no_fault (disjunction cs) env h = any_no_faults cs env h

    all_no_faults : (cs : Conds (Placed T)) (env : Env (Unit {0})) → are_sure may_fail cs ≡ true → IsSureOutcome (all_truth (by_place tables) cs env)
    all_no_faults no_cond env h = inl tt
    all_no_faults (a_cond c cs) env h =
        also_no_fault (truth (by_place tables) c env) (all_truth (by_place tables) cs env) (truth_no_fault c env (both_left (is_sure may_fail c) (are_sure may_fail cs) h)) (all_no_faults cs env (both_right (is_sure may_fail c) (are_sure may_fail cs) h))

    any_no_faults : (cs : Conds (Placed T)) (env : Env (Unit {0})) → are_sure may_fail cs ≡ true → IsSureOutcome (any_truth (by_place tables) cs env)
    any_no_faults no_cond env h = inl tt
    any_no_faults (a_cond c cs) env h =
        else_no_fault (truth (by_place tables) c env) (any_truth (by_place tables) cs env) (truth_no_fault c env (both_left (is_sure may_fail c) (are_sure may_fail cs) h)) (any_no_faults cs env (both_right (is_sure may_fail c) (are_sure may_fail cs) h))

    clause_no_fault : (c : Clause (Placed T)) (env : Env (Unit {0})) → is_sure_clause may_fail c ≡ true → IsSureOutcome (clause_truth (by_place tables) c env)
    clause_no_fault absent env h = inl tt
    clause_no_fault (present c) env h = truth_no_fault c env h

    rows_no_fault : (q : Select (Placed T)) (env : Env (Unit {0})) → is_sure_select may_fail q ≡ true → IsSureOutcome (rows (by_place tables) q env)
    rows_no_fault (select distinct list from filter by having) env h =
        let there_all = list_all (λ t. not (may_fail t)) from in
        let listed = is_sure_list list in
        let filtered = is_sure_clause may_fail filter in
        let kept_groups = is_sure_clause may_fail having in
        let three : (there_all && listed && filtered) ≡ true = both_left (there_all && listed && filtered) kept_groups h in
        let two : (there_all && listed) ≡ true = both_left (there_all && listed) filtered three in
        let list_is : listed ≡ true = both_right there_all listed two in
        let having_is : kept_groups ≡ true = both_right (there_all && listed && filtered) kept_groups h in
        sure_phases tables distinct list from filter by having env (from_there from (both_left there_all listed two)) list_is
        (functions_sure may_fail list having list_is having_is)
        (λ scope. clause_no_fault filter (within scope env) (both_right (there_all && listed) filtered three)) (λ scope. clause_no_fault having (within scope env) having_is)

-- a condition that is sure has a truth wherever it is well formed
pub sure_truth : {T : Type 0} (may_fail : T → Bool) (tables : T → Outcome (List Row)) → ((t : T) → may_fail t ≡ false → IsSureOutcome (tables t))
    → (c : Cond (Placed T)) → is_sure may_fail c ≡ true → (env : Env (Unit {0})) → IsSureOutcome (truth (by_place tables) c env)
sure_truth may_fail tables there c h env = truth_no_fault may_fail tables there c env h

-- a query specification that is sure has rows, or ends with 42000
pub sure_rows : {T : Type 0} (may_fail : T → Bool) (tables : T → Outcome (List Row)) → ((t : T) → may_fail t ≡ false → IsSureOutcome (tables t))
    → (q : Select (Placed T)) → is_sure_select may_fail q ≡ true → (env : Env (Unit {0})) → IsSureOutcome (rows (by_place tables) q env)
sure_rows may_fail tables there q h env = rows_no_fault may_fail tables there q env h
