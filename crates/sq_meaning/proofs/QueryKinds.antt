-- A well-formed condition has a truth, and a well-formed query specification rows of its kinds, or there is none for another
-- cause than 42000 (ISO/IEC 9075:1992, 7.9 and clause 8).
use Rattle.std.proofs.Common.{◌≡◌, Bool, List, [], ◌∷◌, ◌++◌, Option, Some, None, sym, subst, Ok, Err}
use Rattle.std.specs.Prelude.{⊤, if◌then◌else◌, Result}
use Rattle.std.specs.List.{AllByRecursion}
use Rattle.sq_value.specs.Pattern.{liked}
use Rattle.sq_value.specs.SetFunctions.{is_null as is_null_value}
use Rattle.sq_value.specs.Truth.{negation, known as known_truth, both, either}
use Rattle.sq_value.specs.declared.fault.LikeFault.{LikeFault}
use Rattle.sq_value.specs.declared.fault.LikeFault.TheVariants as like_fault
use Rattle.sq_value.specs.declared.truth.Truth.{Truth}
use Rattle.sq_value.specs.declared.truth.Truth.TheVariants.{False, Unknown, True}
use Rattle.sq_value.specs.declared.value.Value.{Value}
use Rattle.sq_tree.specs.declared.cond.Comparison.{Comparison}
use Rattle.sq_tree.specs.declared.cond.Comparison.TheVariants.{Equal, LessOrEqual, GreaterOrEqual}
use Rattle.sq_tree.specs.declared.cond.Quantifier.TheVariants as quantifier
use Rattle.sq_meaning.specs.Status.{Outcome, and_then, each, kept, with_status, like_status}
use Rattle.sq_meaning.specs.Syntax.{Naming, Expr, SelectList, Cond, Conds, Clause, Select, compare, compare_subquery, compare_quantified, between, in_subquery, in_list, like, is_null, exists, negated, conjunction, disjunction, no_cond, a_cond, absent, present, select}
use Rattle.sq_meaning.specs.Environment.{Row, Line, Scope, Env, within, alone}
use Rattle.sq_meaning.specs.Expression.{Reading, value}
use Rattle.sq_meaning.specs.Kind.{Kinds, list_kinds, select_kinds}
use Rattle.sq_meaning.specs.Query.{compared, comparison, and_also, or_else, any_in_turn, only_value, compared_with_rows, has_rows, like_truth, list_functions, clause_functions, is_some_of, is_grouped, scopes_of, listed_values, is_true, truth, all_truth, any_truth, clause_truth, rows}
use Rattle.sq_meaning.specs.Rows.{product, firsts, same_row}
use Rattle.sq_meaning.specs.WellFormed.{Answers, Has, IsRowOf, AreRowsOf, Level, froms, of_lines, shown_level, Agrees, WellFormedExpr, WellFormedPair, WellFormedText, WellFormedEscape, WellFormedTable, WellFormedCond, WellFormedConds, WellFormedClause, WellFormedSelect, IsLineOf, IsScopeOf, IsEnvOf}
use Rattle.sq_meaning.proofs.AnswerLaws.{all_firsts_if, valued, weaker, then_answers, each_answers, kept_answers, each_valued}
use Rattle.sq_meaning.proofs.FunctionKinds.{functions_well_formed}
use Rattle.sq_meaning.proofs.RowKinds.{each_known, AreTables, tables_answer, lines_of, within_scope, line_scope, value_answers, scopes_answer, listed_answer, list_valued}

-- ---- truths

-- an outcome whose status, if it has one, is not 42000
abbrev pub Ends : {A : Type 0} → Outcome A → Type 0
Ends r = Answers (λ x. ⊤) r

ends_then : {A B : Type 0} (r : Outcome A) (f : A → Outcome B) → Ends r → ((x : A) → Ends (f x)) → Ends (and_then r f)
ends_then r f h t = then_answers (λ x. ⊤) (λ y. ⊤) r f h (λ x p. t x)

also_ends : (r q : Outcome Truth) → Ends r → Ends q → Ends (and_also r q)
also_ends (Err status) q h g = h
also_ends (Ok False) q h g = tt
also_ends (Ok Unknown) q h g = ends_then q (λ t. Ok (both Unknown t)) g (λ t. tt)
also_ends (Ok True) q h g = ends_then q (λ t. Ok (both True t)) g (λ t. tt)

else_ends : (r q : Outcome Truth) → Ends r → Ends q → Ends (or_else r q)
else_ends (Err status) q h g = h
else_ends (Ok True) q h g = tt
else_ends (Ok Unknown) q h g = ends_then q (λ t. Ok (either Unknown t)) g (λ t. tt)
else_ends (Ok False) q h g = ends_then q (λ t. Ok (either False t)) g (λ t. tt)

in_turn_ends : {A : Type 0} (W : A → Type 0) (test : A → Outcome Truth) → ((x : A) → W x → Ends (test x)) → (xs : List A) → AllByRecursion W xs → Ends (any_in_turn test xs)
in_turn_ends W test t [] w = tt
in_turn_ends W test t (x ∷ xs) w = else_ends (test x) (any_in_turn test xs) (t x w.0) (in_turn_ends W test t xs w.1)

like_ends : (r : Result Truth LikeFault) → Ends (with_status like_status r)
like_ends (Ok t) = tt
like_ends (Err like_fault.EscapeLength) = tt
like_ends (Err like_fault.EscapeSequence) = tt

true_ends : (r : Outcome Truth) → Ends r → Ends (is_true r)
true_ends (Ok True) h = tt
true_ends (Ok Unknown) h = tt
true_ends (Ok False) h = tt
true_ends (Err status) h = h

only_ends : (found : List Row) → Ends (only_value found)
only_ends [] = tt
only_ends (r ∷ []) = tt
only_ends (r ∷ s ∷ found) = tt

module _ {N : Naming} (m : Reading N) (k : Kinds N) (IsDeclared : N.Parameter → Type 0) (agrees : Agrees m k) where
  compared_ends : (levels : List (Level N)) (op : Comparison) (a b : Expr N) (env : Env N.Item) → WellFormedPair m k IsDeclared levels a b → IsEnvOf m k IsDeclared levels env → Ends (compared m op a b env)
  compared_ends levels op a b env w e =
      ends_then (value m a env) (λ x. and_then (value m b env) (λ y. Ok (comparison op x y))) (value_answers m k IsDeclared agrees levels a env w.0 e)
      (λ x. ends_then (value m b env) (λ y. Ok (comparison op x y)) (value_answers m k IsDeclared agrees levels b env w.1 e) (λ y. tt))

  like_truth_ends : (levels : List (Level N)) (text pattern : Expr N) (escape : Option (Expr N)) (env : Env N.Item) → WellFormedText m k IsDeclared levels text → WellFormedText m k IsDeclared levels pattern → WellFormedEscape m k IsDeclared levels escape
      → IsEnvOf m k IsDeclared levels env → Ends (like_truth m text pattern escape env)
  like_truth_ends levels text pattern None env v w u e =
      ends_then (value m text env) (λ t. and_then (value m pattern env) (λ p. with_status like_status (liked t p None))) (value_answers m k IsDeclared agrees levels text env v.0 e)
      (λ t. ends_then (value m pattern env) (λ p. with_status like_status (liked t p None)) (value_answers m k IsDeclared agrees levels pattern env w.0 e) (λ p. like_ends (liked t p None)))
  like_truth_ends levels text pattern (Some escape) env v w u e =
      ends_then (value m text env) (λ t. and_then (value m pattern env) (λ p. and_then (value m escape env) (λ c. with_status like_status (liked t p (Some c))))) (value_answers m k IsDeclared agrees levels text env v.0 e)
      (λ t. ends_then (value m pattern env) (λ p. and_then (value m escape env) (λ c. with_status like_status (liked t p (Some c)))) (value_answers m k IsDeclared agrees levels pattern env w.0 e)
      (λ p. ends_then (value m escape env) (λ c. with_status like_status (liked t p (Some c))) (value_answers m k IsDeclared agrees levels escape env u.0 e) (λ c. like_ends (liked t p (Some c)))))

  -- ---- the phases of a query specification, the last one first

  -- rows of the kinds of the query specification
  abbrev pub HasRows : List (Level N) → Select N → Outcome (List Row) → Type 0
  HasRows levels q found = Answers (λ rs. Has (λ kinds. AreRowsOf kinds rs) (select_kinds k (froms levels) q)) found

  abbrev after_having : Bool → SelectList N → Env N.Item → List (Scope N.Item) → Outcome (List Row)
  after_having distinct list env left = and_then (each (λ scope. listed_values m list (within scope env)) left) (λ shown. Ok (if distinct then firsts same_row shown else shown))

  abbrev after_scopes : Bool → SelectList N → Clause N → Env N.Item → List (Scope N.Item) → Outcome (List Row)
  after_scopes distinct list having env scopes = and_then (kept (λ scope. is_true (clause_truth m having (within scope env))) scopes) (after_having distinct list env)

  abbrev after_lines : Bool → SelectList N → List N.Column → Clause N → List N.Item → Env N.Item → List Line → Outcome (List Row)
  after_lines distinct list by having heads env lines = and_then (scopes_of m list by having heads lines env) (after_scopes distinct list having env)

  abbrev after_tables : Bool → SelectList N → Clause N → List N.Column → Clause N → List N.Item → Env N.Item → List (List Row) → Outcome (List Row)
  after_tables distinct list filter by having heads env tables = and_then (kept (λ line. is_true (clause_truth m filter (within (alone heads line) env))) (product tables)) (after_lines distinct list by having heads env)

  abbrev ScopesOf : SelectList N → List N.Table → List N.Column → Clause N → List (Scope N.Item) → Type 0
  ScopesOf list from by having = AllByRecursion (IsScopeOf m k IsDeclared (shown_level list from by having))

  list_shown : (levels : List (Level N)) (distinct : Bool) (list : SelectList N) (from : List N.Table) (filter : Clause N) (by : List N.Column) (having : Clause N) (env : Env N.Item) → IsEnvOf m k IsDeclared levels env
      → WellFormedSelect m k IsDeclared levels (select distinct list from filter by having) → (left : List (Scope N.Item)) → ScopesOf list from by having left
      → HasRows levels (select distinct list from filter by having) (after_having distinct list env left)
  list_shown levels distinct list from filter by having env e w left h =
      then_answers (AllByRecursion (λ row. Has (λ kinds. IsRowOf kinds row) (list_kinds k (froms levels) from list))) (λ rs. Has (λ kinds. AreRowsOf kinds rs) (list_kinds k (froms levels) from list))
      (each (λ scope. listed_values m list (within scope env)) left) (λ shown. Ok (if distinct then firsts same_row shown else shown))
      (each_answers (IsScopeOf m k IsDeclared (shown_level list from by having)) (λ row. Has (λ kinds. IsRowOf kinds row) (list_kinds k (froms levels) from list)) (λ scope. listed_values m list (within scope env))
      (λ scope s. listed_answer m k IsDeclared agrees levels from (is_grouped list by having) (is_some_of by) list scope env w.1 s e) left h)
      (λ shown rs. each_known (list_kinds k (froms levels) from list) (if distinct then firsts same_row shown else shown) (list_valued m k IsDeclared agrees levels from (is_grouped list by having) (is_some_of by) list w.0 w.1)
      (all_firsts_if (λ row. Has (λ kinds. IsRowOf kinds row) (list_kinds k (froms levels) from list)) same_row distinct shown rs))

  having_tested : (levels : List (Level N)) (distinct : Bool) (list : SelectList N) (from : List N.Table) (filter : Clause N) (by : List N.Column) (having : Clause N) (env : Env N.Item) → IsEnvOf m k IsDeclared levels env
      → WellFormedSelect m k IsDeclared levels (select distinct list from filter by having)
      → ((scope : Scope N.Item) → IsScopeOf m k IsDeclared (shown_level list from by having) scope → Ends (clause_truth m having (within scope env)))
      → (scopes : List (Scope N.Item)) → ScopesOf list from by having scopes → HasRows levels (select distinct list from filter by having) (after_scopes distinct list having env scopes)
  having_tested levels distinct list from filter by having env e w havings scopes h =
      then_answers (ScopesOf list from by having) (λ rs. Has (λ kinds. AreRowsOf kinds rs) (list_kinds k (froms levels) from list)) (kept (λ scope. is_true (clause_truth m having (within scope env))) scopes) (after_having distinct list env)
      (kept_answers (IsScopeOf m k IsDeclared (shown_level list from by having)) (λ scope. is_true (clause_truth m having (within scope env))) (λ scope s. true_ends (clause_truth m having (within scope env)) (havings scope s)) scopes h)
      (list_shown levels distinct list from filter by having env e w)

  lines_grouped : (levels : List (Level N)) (distinct : Bool) (list : SelectList N) (from : List N.Table) (filter : Clause N) (by : List N.Column) (having : Clause N) (env : Env N.Item) → IsEnvOf m k IsDeclared levels env
      → WellFormedSelect m k IsDeclared levels (select distinct list from filter by having)
      → ((scope : Scope N.Item) → IsScopeOf m k IsDeclared (shown_level list from by having) scope → Ends (clause_truth m having (within scope env)))
      → (heads : List N.Item) → each m.item from ≡ Ok heads → (lines : List Line) → AllByRecursion (IsLineOf m k IsDeclared from) lines
      → HasRows levels (select distinct list from filter by having) (after_lines distinct list by having heads env lines)
  lines_grouped levels distinct list from filter by having env e w havings heads items lines h =
      then_answers (ScopesOf list from by having) (λ rs. Has (λ kinds. AreRowsOf kinds rs) (list_kinds k (froms levels) from list)) (scopes_of m list by having heads lines env) (after_scopes distinct list having env)
      (scopes_answer m k IsDeclared agrees levels from (is_grouped list by having) (list_functions list ++ clause_functions having) by heads lines env items w.3
      (functions_well_formed m k IsDeclared (shown_level list from by having ∷ levels) (is_grouped list by having) list having w.1 w.4) h e)
      (having_tested levels distinct list from filter by having env e w havings)

  tables_joined : (levels : List (Level N)) (distinct : Bool) (list : SelectList N) (from : List N.Table) (filter : Clause N) (by : List N.Column) (having : Clause N) (env : Env N.Item) → IsEnvOf m k IsDeclared levels env
      → WellFormedSelect m k IsDeclared levels (select distinct list from filter by having)
      → ((scope : Scope N.Item) → IsScopeOf m k IsDeclared (of_lines from) scope → Ends (clause_truth m filter (within scope env)))
      → ((scope : Scope N.Item) → IsScopeOf m k IsDeclared (shown_level list from by having) scope → Ends (clause_truth m having (within scope env)))
      → (heads : List N.Item) → each m.item from ≡ Ok heads → (tables : List (List Row)) → AreTables m k IsDeclared agrees from tables
      → HasRows levels (select distinct list from filter by having) (after_tables distinct list filter by having heads env tables)
  tables_joined levels distinct list from filter by having env e w wheres havings heads items tables h =
      then_answers (AllByRecursion (IsLineOf m k IsDeclared from)) (λ rs. Has (λ kinds. AreRowsOf kinds rs) (list_kinds k (froms levels) from list))
      (kept (λ line. is_true (clause_truth m filter (within (alone heads line) env))) (product tables)) (after_lines distinct list by having heads env)
      (kept_answers (IsLineOf m k IsDeclared from) (λ line. is_true (clause_truth m filter (within (alone heads line) env)))
      (λ line l. true_ends (clause_truth m filter (within (alone heads line) env)) (wheres (alone heads line) (line_scope m k IsDeclared agrees from heads line items l))) (product tables) (lines_of m k IsDeclared agrees from tables h))
      (lines_grouped levels distinct list from filter by having env e w havings heads items)

  -- a query specification whose conditions have a truth on every line and group
  rows_given : (levels : List (Level N)) (distinct : Bool) (list : SelectList N) (from : List N.Table) (filter : Clause N) (by : List N.Column) (having : Clause N) (env : Env N.Item) → IsEnvOf m k IsDeclared levels env
      → WellFormedSelect m k IsDeclared levels (select distinct list from filter by having)
      → ((scope : Scope N.Item) → IsScopeOf m k IsDeclared (of_lines from) scope → Ends (clause_truth m filter (within scope env)))
      → ((scope : Scope N.Item) → IsScopeOf m k IsDeclared (shown_level list from by having) scope → Ends (clause_truth m having (within scope env)))
      → HasRows levels (select distinct list from filter by having) (rows m (select distinct list from filter by having) env)
  rows_given levels distinct list from filter by having env e w wheres havings =
      let heads = valued (each m.item from) (each_valued (WellFormedTable m k IsDeclared) m.item (λ t h. h.1) from w.0) in
      subst (λ r. HasRows levels (select distinct list from filter by having) (and_then r (λ hs. and_then (each m.rows from) (after_tables distinct list filter by having hs env)))) (sym heads.1)
      (then_answers (AreTables m k IsDeclared agrees from) (λ rs. Has (λ kinds. AreRowsOf kinds rs) (list_kinds k (froms levels) from list)) (each m.rows from) (after_tables distinct list filter by having heads.0 env) (tables_answer m k IsDeclared agrees from w.0)
      (tables_joined levels distinct list from filter by having env e w wheres havings heads.0 heads.1))

  rows_end : (levels : List (Level N)) (q : Select N) (found : Outcome (List Row)) → HasRows levels q found → Ends found
  rows_end levels q found h = weaker (λ rs. Has (λ kinds. AreRowsOf kinds rs) (select_kinds k (froms levels) q)) (λ rs. ⊤) found (λ rs p. tt) h

  -- a value beside the rows of a subquery
  beside_ends : {A : Type 0} (levels : List (Level N)) (a : Expr N) (q : Select N) (env : Env N.Item) (f : Value → List Row → Outcome A) → ((v : Value) (rs : List Row) → Ends (f v rs)) → WellFormedExpr m k IsDeclared levels a → IsEnvOf m k IsDeclared levels env
      → HasRows levels q (rows m q env) → Ends (and_then (value m a env) (λ v. and_then (rows m q env) (f v)))
  beside_ends levels a q env f t w e h = ends_then (value m a env) (λ v. and_then (rows m q env) (f v)) (value_answers m k IsDeclared agrees levels a env w e) (λ v. ends_then (rows m q env) (f v) (rows_end levels q (rows m q env) h) (t v))

  mutual
    -- the truth of a well-formed condition
    pub truth_of_kinds : (c : Cond N) (levels : List (Level N)) (env : Env N.Item) → WellFormedCond m k IsDeclared levels c → IsEnvOf m k IsDeclared levels env → Ends (truth m c env)
    truth_of_kinds (compare op a b) levels env w e = compared_ends levels op a b env w e
    truth_of_kinds (compare_subquery op a q) levels env w e =
        beside_ends levels a q env (λ x rs. and_then (only_value rs) (λ y. Ok (comparison op x y))) (λ x rs. ends_then (only_value rs) (λ y. Ok (comparison op x y)) (only_ends rs) (λ y. tt)) w.0 e (rows_of_kinds q levels env w.2 e)
    truth_of_kinds (compare_quantified op every a q) levels env w e = beside_ends levels a q env (λ x rs. Ok (compared_with_rows op every x rs)) (λ x rs. tt) w.0 e (rows_of_kinds q levels env w.2 e)
    truth_of_kinds (between a low high) levels env w e =
        also_ends (compared m GreaterOrEqual a low env) (compared m LessOrEqual a high env) (compared_ends levels GreaterOrEqual a low env w.0 e) (compared_ends levels LessOrEqual a high env w.1 e)
    truth_of_kinds (in_subquery a q) levels env w e = beside_ends levels a q env (λ x rs. Ok (compared_with_rows Equal quantifier.Any x rs)) (λ x rs. tt) w.0 e (rows_of_kinds q levels env w.2 e)
    truth_of_kinds (in_list a es) levels env w e = in_turn_ends (WellFormedPair m k IsDeclared levels a) (λ b. compared m Equal a b env) (λ b p. compared_ends levels Equal a b env p e) es w.1
    truth_of_kinds (like text pattern escape) levels env w e = like_truth_ends levels text pattern escape env w.0 w.1 w.2 e
    truth_of_kinds (is_null a) levels env w e = ends_then (value m a env) (λ x. Ok (known_truth (is_null_value x))) (value_answers m k IsDeclared agrees levels a env w e) (λ x. tt)
    truth_of_kinds (exists q) levels env w e = ends_then (rows m q env) (λ rs. Ok (known_truth (has_rows rs))) (rows_end levels q (rows m q env) (rows_of_kinds q levels env w e)) (λ rs. tt)
    truth_of_kinds (negated c) levels env w e = ends_then (truth m c env) (λ t. Ok (negation t)) (truth_of_kinds c levels env w e) (λ t. tt)
    truth_of_kinds (conjunction cs) levels env w e = all_of_kinds cs levels env w e
    truth_of_kinds (disjunction cs) levels env w e = any_of_kinds cs levels env w e

    all_of_kinds : (cs : Conds N) (levels : List (Level N)) (env : Env N.Item) → WellFormedConds m k IsDeclared levels cs → IsEnvOf m k IsDeclared levels env → Ends (all_truth m cs env)
    all_of_kinds no_cond levels env w e = tt
    all_of_kinds (a_cond c cs) levels env w e = also_ends (truth m c env) (all_truth m cs env) (truth_of_kinds c levels env w.0 e) (all_of_kinds cs levels env w.1 e)

    any_of_kinds : (cs : Conds N) (levels : List (Level N)) (env : Env N.Item) → WellFormedConds m k IsDeclared levels cs → IsEnvOf m k IsDeclared levels env → Ends (any_truth m cs env)
    any_of_kinds no_cond levels env w e = tt
    any_of_kinds (a_cond c cs) levels env w e = else_ends (truth m c env) (any_truth m cs env) (truth_of_kinds c levels env w.0 e) (any_of_kinds cs levels env w.1 e)

    pub clause_of_kinds : (c : Clause N) (levels : List (Level N)) (env : Env N.Item) → WellFormedClause m k IsDeclared levels c → IsEnvOf m k IsDeclared levels env → Ends (clause_truth m c env)
    clause_of_kinds absent levels env w e = tt
    clause_of_kinds (present c) levels env w e = truth_of_kinds c levels env w e

    -- the rows of a well-formed query specification
    pub rows_of_kinds : (q : Select N) (levels : List (Level N)) (env : Env N.Item) → WellFormedSelect m k IsDeclared levels q → IsEnvOf m k IsDeclared levels env → HasRows levels q (rows m q env)
    rows_of_kinds (select distinct list from filter by having) levels env w e =
        rows_given levels distinct list from filter by having env e w
        (λ scope s. clause_of_kinds filter (of_lines from ∷ levels) (within scope env) w.2 (within_scope m k IsDeclared agrees (of_lines from) levels scope env s e))
        (λ scope s. clause_of_kinds having (shown_level list from by having ∷ levels) (within scope env) w.4 (within_scope m k IsDeclared agrees (shown_level list from by having) levels scope env s e))
