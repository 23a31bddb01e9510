-- The phases of a well-formed query specification (ISO/IEC 9075:1992, 7.4 to 7.9): lines, groups and shown rows are of the
-- kinds of their tables and expressions.
use Rattle.std.proofs.Common.{◌≡◌, Bool, true, false, List, [], ◌∷◌, ◌++◌, map, refl, ap, ◌∙◌, Ok, Err}
use Rattle.std.specs.Prelude.{⊤, IsTrue, IsFalse, if◌then◌else◌, not, ◌||◌, filter}
use Rattle.std.specs.List.{AllByRecursion, AllZip, flat_map}
use Rattle.std.proofs.lemmas.Bool.{and_from}
use Rattle.sq_value.specs.Comparison.{is_same}
use Rattle.sq_value.specs.Domain.{IsOfKind}
use Rattle.sq_value.specs.declared.domain.Kind.{Kind}
use Rattle.sq_value.specs.laws.ValueOrder.{same_equiv}
use Rattle.sq_meaning.specs.Status.{Outcome, and_then, each}
use Rattle.sq_meaning.specs.Syntax.{Naming, Expr, column, SelectList, all_columns, expressions}
use Rattle.sq_meaning.specs.Environment.{Row, Line, Scope, Env, within, alone, items_in}
use Rattle.sq_meaning.specs.Expression.{Reading, value}
use Rattle.sq_meaning.specs.Kind.{Kinds, kind, list_kinds}
use Rattle.sq_meaning.specs.Query.{is_some_of, first_line, group_scope, grouping_values, grouped, groups_by, group_scopes, listed_values}
use Rattle.sq_meaning.specs.Rows.{product, same_row, firsts, classes}
use Rattle.sq_meaning.specs.WellFormed.{Answers, Has, HasValue, IsRowOf, AreRowsOf, Level, froms, of_lines, Agrees, OnlyIf, WellFormedExpr, WellFormedExprs, WellFormedColumn, WellFormedTable, WellFormedList, IsLineOf, IsScopeOf, AreItemsOf, IsEnvOf}
use Rattle.sq_meaning.proofs.AnswerLaws.{all_weaker, all_mapped, all_flat_mapped, all_filtered, all_firsts, fits_there, fits_any, weaker, then_answers, each_answers, each_fits, each_valued}
use Rattle.sq_meaning.proofs.ValueKinds.{value_fits}

-- ---- classes have elements

abbrev IsSome : {A : Type 0} → List A → Type 0
IsSome xs = IsTrue (is_some_of xs)

some_with : {A : Type 0} (b : Bool) (x : A) (xs : List A) → IsSome xs → IsSome (if b then x ∷ xs else xs)
some_with true x xs h = refl
some_with false x xs h = h

some_of_itself : {A : Type 0} (b : Bool) (x : A) (xs : List A) → b ≡ true → IsSome (if b then x ∷ xs else xs)
some_of_itself true x xs e = refl
some_of_itself false x xs e = cc

-- each is of its own class
each_in_class : {A : Type 0} (same : A → A → Bool) → ((x : A) → same x x ≡ true) → (xs : List A) → AllByRecursion (λ x. IsSome (filter (same x) xs)) xs
each_in_class same itself [] = tt
each_in_class same itself (x ∷ xs) =
    (some_of_itself (same x x) x (filter (same x) xs) (itself x), all_weaker (λ y. IsSome (filter (same y) xs)) (λ y. IsSome (filter (same y) (x ∷ xs))) (λ y h. some_with (same y x) x (filter (same y) xs) h) xs (each_in_class same itself xs))

-- a class has an element, and P holds of all its elements
class_of : {A : Type 0} (P : A → Type 0) (same : A → A → Bool) → ((x : A) → same x x ≡ true) → (xs : List A) → AllByRecursion P xs
    → AllByRecursion (λ ys. AllByRecursion P ys × IsSome ys) (classes same xs)
class_of P same itself xs h =
    all_mapped (λ x. IsSome (filter (same x) xs)) (λ ys. AllByRecursion P ys × IsSome ys) (λ x. filter (same x) xs) (λ x s. (all_filtered P (same x) xs h, s))
    (firsts same xs) (all_firsts (λ x. IsSome (filter (same x) xs)) same xs (each_in_class same itself xs))

row_itself : (r : Row) → same_row r r ≡ true
row_itself [] = refl
row_itself (v ∷ r) = and_from (is_same v v) (same_row r r) (same_equiv.refl v) (row_itself r)

-- ---- kinds of several rows

pub known_each : (o : Outcome (List Kind)) (rows : List Row) → Has (λ kinds. AreRowsOf kinds rows) o → AllByRecursion (λ row. Has (λ kinds. IsRowOf kinds row) o) rows
known_each (Ok kinds) rows h = h
known_each (Err status) rows h = absurd h

pub each_known : (o : Outcome (List Kind)) (rows : List Row) → HasValue o → AllByRecursion (λ row. Has (λ kinds. IsRowOf kinds row) o) rows → Has (λ kinds. AreRowsOf kinds rows) o
each_known (Ok kinds) rows v h = h
each_known (Err status) rows v h = absurd v

pub each_zip : {X B : Type 0} (W : X → Type 0) (R : X → B → Type 0) (f : X → Outcome B) → ((x : X) → W x → Answers (R x) (f x)) → (xs : List X) → AllByRecursion W xs → Answers (AllZip R xs) (each f xs)
each_zip W R f g [] w = tt
each_zip W R f g (x ∷ xs) w =
    then_answers (R x) (AllZip R (x ∷ xs)) (f x) (λ y. and_then (each f xs) (λ ys. Ok (y ∷ ys))) (g x w.0)
    (λ y q. then_answers (AllZip R xs) (AllZip R (x ∷ xs)) (each f xs) (λ ys. Ok (y ∷ ys)) (each_zip W R f g xs w.1) (λ ys qs. (q, qs)))

-- two rows, one after the other
joined_rows : (ks ls : List Kind) (r s : Row) → IsRowOf ks r → IsRowOf ls s → IsRowOf (ks ++ ls) (r ++ s)
joined_rows [] ls [] s h k = k
joined_rows [] ls (v ∷ r) s h k = absurd h
joined_rows (c ∷ ks) ls [] s h k = absurd h
joined_rows (c ∷ ks) ls (v ∷ r) s h k = (h.0, joined_rows ks ls r s h.1 k)

first_and_others : (o : Outcome (List Kind)) (p : Outcome (List (List Kind))) (row others : Row) → Has (λ kinds. IsRowOf kinds row) o
    → Has (λ kinds. IsRowOf kinds others) (and_then p (λ tables. Ok (flat_map (λ kinds. kinds) tables)))
    → Has (λ kinds. IsRowOf kinds (row ++ others)) (and_then (and_then o (λ y. and_then p (λ ys. Ok (y ∷ ys)))) (λ tables. Ok (flat_map (λ kinds. kinds) tables)))
first_and_others (Ok kinds) (Ok tables) row others h k = joined_rows kinds (flat_map (λ ks. ks) tables) row others h k
first_and_others (Ok kinds) (Err status) row others h k = absurd k
first_and_others (Err status) p row others h k = absurd h

line_if : {P : Type 0} (g some : Bool) → IsFalse g → OnlyIf (not g || some) P → P
line_if false some f p = p
line_if true some f p = cc

first_if : (P : Line → Type 0) (class : List (Row × Line)) → AllByRecursion (λ pair. P pair.1) class → IsSome class → P (first_line (map (λ pair. pair.1) class))
first_if P [] h some = cc
first_if P (pair ∷ class) h some = h.0

module _ {N : Naming} (m : Reading N) (k : Kinds N) (IsDeclared : N.Parameter → Type 0) (agrees : Agrees m k) where
  -- ---- FROM

  abbrev pub IsRowOfTable : N.Table → Row → Type 0
  IsRowOfTable t row = Has (λ kinds. IsRowOf kinds row) (k.columns t)

  abbrev pub AreTables : List N.Table → List (List Row) → Type 0
  AreTables = AllZip (λ t rows. AllByRecursion (IsRowOfTable t) rows)

  pub tables_answer : (from : List N.Table) → AllByRecursion (WellFormedTable m k IsDeclared) from → Answers (AreTables from) (each m.rows from)
  tables_answer =
      each_zip (WellFormedTable m k IsDeclared) (λ t rows. AllByRecursion (IsRowOfTable t) rows) m.rows
      (λ t w. weaker (λ rows. Has (λ kinds. AreRowsOf kinds rows) (k.columns t)) (AllByRecursion (IsRowOfTable t)) (m.rows t) (known_each (k.columns t)) (fits_there AreRowsOf (k.columns t) (m.rows t) w.0 (agrees.rows t)))

  pub lines_of : (from : List N.Table) (tables : List (List Row)) → AreTables from tables → AllByRecursion (IsLineOf m k IsDeclared from) (product tables)
  lines_of [] [] h = (tt, tt)
  lines_of [] (rows ∷ tables) h = absurd h
  lines_of (t ∷ from) [] h = absurd h
  lines_of (t ∷ from) (rows ∷ tables) h =
      all_flat_mapped (IsRowOfTable t) (IsLineOf m k IsDeclared (t ∷ from)) (λ row. map (λ line. row ∷ line) (product tables))
      (λ row p. all_mapped (IsLineOf m k IsDeclared from) (IsLineOf m k IsDeclared (t ∷ from)) (λ line. row ∷ line) (λ line q. (p, q)) (product tables) (lines_of from tables h.1)) rows h.0

  items_within : (level : Level N) (levels : List (Level N)) (scope : Scope N.Item) (env : Env N.Item) → each m.item level.from ≡ Ok scope.items → AreItemsOf m k IsDeclared (froms levels) (items_in env)
      → AreItemsOf m k IsDeclared (froms (level ∷ levels)) (items_in (within scope env))
  items_within level levels scope env e is = (
    scope.items ∷ is.0,
    ap (λ r. and_then r (λ y. and_then (each (each m.item) (froms levels)) (λ ys. Ok (y ∷ ys)))) e ∙ ap (λ r. and_then r (λ ys. Ok (scope.items ∷ ys))) is.1,
    λ c. agrees.outer c scope.items is.0 (items_in env) (is.2 c),
  )

  pub within_scope : (level : Level N) (levels : List (Level N)) (scope : Scope N.Item) (env : Env N.Item) → IsScopeOf m k IsDeclared level scope → IsEnvOf m k IsDeclared levels env → IsEnvOf m k IsDeclared (level ∷ levels) (within scope env)
  within_scope level levels scope env s e = record { items = items_within level levels scope env s.items e.items; scopes = (s.found, e.scopes); inputs = e.inputs }

  pub line_scope : (from : List N.Table) (heads : List N.Item) (line : Line) → each m.item from ≡ Ok heads → IsLineOf m k IsDeclared from line → IsScopeOf m k IsDeclared (of_lines from) (alone heads line)
  line_scope from heads line items is_line = record { items = items; found = record { line = is_line; group = tt } }

  -- ---- expressions

  pub value_answers : (levels : List (Level N)) (e : Expr N) (env : Env N.Item) → WellFormedExpr m k IsDeclared levels e → IsEnvOf m k IsDeclared levels env → Answers (λ v. ⊤) (value m e env)
  value_answers levels e env w is_env = fits_any IsOfKind (kind k (froms levels) e) (value m e env) w.0 (value_fits m k IsDeclared agrees levels e env w.1 is_env)

  pub values_answer : (levels : List (Level N)) (es : List (Expr N)) (env : Env N.Item) → WellFormedExprs m k IsDeclared levels es → IsEnvOf m k IsDeclared levels env
      → Answers (λ row. Has (λ kinds. IsRowOf kinds row) (each (kind k (froms levels)) es)) (each (λ e. value m e env) es)
  values_answer levels es env w is_env =
      fits_there (AllZip IsOfKind) (each (kind k (froms levels)) es) (each (λ e. value m e env) es)
      (each_valued (WellFormedExpr m k IsDeclared levels) (kind k (froms levels)) (λ e h. h.0) es w)
      (each_fits IsOfKind (WellFormedExpr m k IsDeclared levels) (kind k (froms levels)) (λ e. value m e env) (λ e h. value_fits m k IsDeclared agrees levels e env h.1 is_env) es w)

  -- ---- groups

  -- a group of lines, with a first one if GROUP BY is there
  pub record IsGroupOf (from : List N.Table) (some : Bool) (group : List Line) : Type 0 where
    pub lines : AllByRecursion (IsLineOf m k IsDeclared from) group
    pub first : OnlyIf some (IsLineOf m k IsDeclared from (first_line group))

  class_lines : (from : List N.Table) (class : List (Row × Line)) → AllByRecursion (λ pair. IsLineOf m k IsDeclared from pair.1) class × IsSome class → IsGroupOf from true (map (λ pair. pair.1) class)
  class_lines from class h = record {
    lines = all_mapped (λ pair. IsLineOf m k IsDeclared from pair.1) (IsLineOf m k IsDeclared from) (λ pair. pair.1) (λ pair p. p) class h.0;
    first = first_if (IsLineOf m k IsDeclared from) class h.0 h.1;
  }

  groups_of : (from : List N.Table) (keyed : List (Row × Line)) → AllByRecursion (λ pair. IsLineOf m k IsDeclared from pair.1) keyed → AllByRecursion (IsGroupOf from true) (grouped keyed)
  groups_of from keyed h =
      all_mapped (λ class. AllByRecursion (λ pair. IsLineOf m k IsDeclared from pair.1) class × IsSome class) (IsGroupOf from true) (map (λ pair. pair.1)) (class_lines from)
      (classes (λ a b. same_row a.0 b.0) keyed) (class_of (λ pair. IsLineOf m k IsDeclared from pair.1) (λ a b. same_row a.0 b.0) (λ pair. row_itself pair.0) keyed h)

  pub groups_answer : (levels : List (Level N)) (from : List N.Table) (by : List N.Column) (heads : List N.Item) (lines : List Line) (env : Env N.Item) → each m.item from ≡ Ok heads
      → AllByRecursion (WellFormedColumn m k IsDeclared (of_lines from ∷ levels)) by → AllByRecursion (IsLineOf m k IsDeclared from) lines → IsEnvOf m k IsDeclared levels env
      → Answers (AllByRecursion (IsGroupOf from (is_some_of by))) (groups_by m by heads lines env)
  groups_answer levels from [] heads lines env items w h is_env = (record { lines = h; first = tt }, tt)
  groups_answer levels from (c ∷ by) heads lines env items w h is_env =
      then_answers (AllByRecursion (λ pair. IsLineOf m k IsDeclared from pair.1)) (AllByRecursion (IsGroupOf from true))
      (each (λ line. and_then (grouping_values m (c ∷ by) (within (alone heads line) env)) (λ key. Ok (key, line))) lines) (λ keyed. Ok (grouped keyed))
      (each_answers (IsLineOf m k IsDeclared from) (λ pair. IsLineOf m k IsDeclared from pair.1) (λ line. and_then (grouping_values m (c ∷ by) (within (alone heads line) env)) (λ key. Ok (key, line)))
      (λ line is_line. then_answers (AllByRecursion (λ v. ⊤)) (λ pair. IsLineOf m k IsDeclared from pair.1) (grouping_values m (c ∷ by) (within (alone heads line) env)) (λ key. Ok (key, line))
      (each_answers (WellFormedColumn m k IsDeclared (of_lines from ∷ levels)) (λ v. ⊤) (λ d. value m (column d) (within (alone heads line) env))
      (λ d is_column. value_answers (of_lines from ∷ levels) (column d) (within (alone heads line) env) is_column (within_scope (of_lines from) levels (alone heads line) env (line_scope from heads line items is_line) is_env)) (c ∷ by) w)
      (λ key keys. is_line)) lines h)
      (groups_of from)

  -- ---- what the select list is computed for

  group_is_scope : (from : List N.Table) (some : Bool) (heads : List N.Item) (group : List Line) → each m.item from ≡ Ok heads → IsGroupOf from some group → IsScopeOf m k IsDeclared (record { from = from; has_line = some }) (group_scope heads group)
  group_is_scope from some heads group items g = record { items = items; found = record { line = g.first; group = g.lines } }

  groups_are_scopes : (levels : List (Level N)) (from : List N.Table) (functions : List (Expr N)) (by : List N.Column) (heads : List N.Item) (lines : List Line) (env : Env N.Item) → each m.item from ≡ Ok heads
      → AllByRecursion (WellFormedColumn m k IsDeclared (of_lines from ∷ levels)) by → WellFormedExprs m k IsDeclared (record { from = from; has_line = is_some_of by } ∷ levels) functions
      → AllByRecursion (IsLineOf m k IsDeclared from) lines → IsEnvOf m k IsDeclared levels env
      → Answers (AllByRecursion (IsScopeOf m k IsDeclared (record { from = from; has_line = is_some_of by }))) (group_scopes m functions by heads lines env)
  groups_are_scopes levels from functions by heads lines env items w f h is_env =
      then_answers (AllByRecursion (IsGroupOf from (is_some_of by))) (AllByRecursion (IsScopeOf m k IsDeclared (record { from = from; has_line = is_some_of by }))) (groups_by m by heads lines env)
      (λ groups. and_then (each (λ group. each (λ e. value m e (within (group_scope heads group) env)) functions) groups) (λ _. Ok (map (group_scope heads) groups)))
      (groups_answer levels from by heads lines env items w h is_env)
      (λ groups gs. then_answers (AllByRecursion (λ vs. ⊤)) (AllByRecursion (IsScopeOf m k IsDeclared (record { from = from; has_line = is_some_of by }))) (each (λ group. each (λ e. value m e (within (group_scope heads group) env)) functions) groups) (λ _. Ok (map (group_scope heads) groups))
      (each_answers (IsGroupOf from (is_some_of by)) (λ vs. ⊤) (λ group. each (λ e. value m e (within (group_scope heads group) env)) functions)
      (λ group g. weaker (AllByRecursion (λ v. ⊤)) (λ vs. ⊤) (each (λ e. value m e (within (group_scope heads group) env)) functions) (λ vs p. tt)
      (each_answers (WellFormedExpr m k IsDeclared (record { from = from; has_line = is_some_of by } ∷ levels)) (λ v. ⊤) (λ e. value m e (within (group_scope heads group) env))
      (λ e is_expr. value_answers (record { from = from; has_line = is_some_of by } ∷ levels) e (within (group_scope heads group) env) is_expr
      (within_scope (record { from = from; has_line = is_some_of by }) levels (group_scope heads group) env (group_is_scope from (is_some_of by) heads group items g) is_env)) functions f)) groups gs)
      (λ vs p. all_mapped (IsGroupOf from (is_some_of by)) (IsScopeOf m k IsDeclared (record { from = from; has_line = is_some_of by })) (group_scope heads) (λ group g. group_is_scope from (is_some_of by) heads group items g) groups gs))

  pub scopes_answer : (levels : List (Level N)) (from : List N.Table) (g : Bool) (functions : List (Expr N)) (by : List N.Column) (heads : List N.Item) (lines : List Line) (env : Env N.Item) → each m.item from ≡ Ok heads
      → AllByRecursion (WellFormedColumn m k IsDeclared (of_lines from ∷ levels)) by → WellFormedExprs m k IsDeclared (record { from = from; has_line = not g || is_some_of by } ∷ levels) functions
      → AllByRecursion (IsLineOf m k IsDeclared from) lines → IsEnvOf m k IsDeclared levels env
      → Answers (AllByRecursion (IsScopeOf m k IsDeclared (record { from = from; has_line = not g || is_some_of by }))) (if g then group_scopes m functions by heads lines env else Ok (map (alone heads) lines))
  scopes_answer levels from true functions by heads lines env items w f h is_env = groups_are_scopes levels from functions by heads lines env items w f h is_env
  scopes_answer levels from false functions by heads lines env items w f h is_env =
      all_mapped (IsLineOf m k IsDeclared from) (IsScopeOf m k IsDeclared (of_lines from)) (alone heads) (λ line is_line. line_scope from heads line items is_line) lines h

  -- ---- the select list

  star_kinds : (from : List N.Table) (line : Line) → IsLineOf m k IsDeclared from line → Has (λ kinds. IsRowOf kinds (flat_map (λ row. row) line)) (list_kinds k [] from all_columns)
  star_kinds [] [] h = tt
  star_kinds [] (row ∷ line) h = absurd h
  star_kinds (t ∷ from) [] h = absurd h
  star_kinds (t ∷ from) (row ∷ line) h = first_and_others (k.columns t) (each k.columns from) row (flat_map (λ r. r) line) h.0 (star_kinds from line h.1)

  pub listed_answer : (levels : List (Level N)) (from : List N.Table) (g some : Bool) (list : SelectList N) (scope : Scope N.Item) (env : Env N.Item)
      → WellFormedList m k IsDeclared (record { from = from; has_line = not g || some } ∷ levels) g list → IsScopeOf m k IsDeclared (record { from = from; has_line = not g || some }) scope → IsEnvOf m k IsDeclared levels env
      → Answers (λ row. Has (λ kinds. IsRowOf kinds row) (list_kinds k (froms levels) from list)) (listed_values m list (within scope env))
  listed_answer levels from g some all_columns scope env w s is_env = star_kinds from scope.line (line_if g some w s.found.line)
  listed_answer levels from g some (expressions es) scope env w s is_env =
      values_answer (record { from = from; has_line = not g || some } ∷ levels) es (within scope env) w (within_scope (record { from = from; has_line = not g || some }) levels scope env s is_env)

  pub list_valued : (levels : List (Level N)) (from : List N.Table) (g some : Bool) (list : SelectList N) → AllByRecursion (WellFormedTable m k IsDeclared) from
      → WellFormedList m k IsDeclared (record { from = from; has_line = not g || some } ∷ levels) g list → HasValue (list_kinds k (froms levels) from list)
  list_valued levels from g some all_columns t w = star_valued (each k.columns from) (each_valued (WellFormedTable m k IsDeclared) k.columns (λ x h. h.0) from t)
    where
      star_valued : (o : Outcome (List (List Kind))) → HasValue o → HasValue (and_then o (λ tables. Ok (flat_map (λ kinds. kinds) tables)))
      star_valued (Ok tables) h = tt
      star_valued (Err status) h = absurd h
  list_valued levels from g some (expressions es) t w = each_valued (WellFormedExpr m k IsDeclared (record { from = from; has_line = not g || some } ∷ levels)) (kind k (from ∷ froms levels)) (λ e h. h.0) es w
