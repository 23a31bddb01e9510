-- The value of a well-formed expression is of the expression's kind, or there is none for another cause than 42000 (ISO/IEC
-- 9075:1992, 6.11 to 6.13).
use Rattle.std.proofs.Common.{◌≡◌, ℕ, zero, suc, Bool, true, false, List, [], ◌∷◌, sym, ap, subst, ◌∙◌, Ok, Err}
use Rattle.std.specs.Prelude.{IsTrue, slice_get, pos, length}
use Rattle.std.specs.List.{AllByRecursion, AllZip}
use Rattle.std.specs.Option.{option_and_then}
use Rattle.sq_value.specs.Domain.{IsOfKind}
use Rattle.sq_value.specs.declared.domain.Kind.{Kind}
use Rattle.sq_meaning.specs.Status.{Outcome, and_then, each, well_formed}
use Rattle.sq_meaning.specs.Syntax.{Naming, Expr, literal, parameter, user, column, count_rows, set_function, signed, added, scaled, bracketed}
use Rattle.sq_meaning.specs.Environment.{Row, Line, Input, Scope, Env, within, alone, items_in, value_at}
use Rattle.sq_meaning.specs.Expression.{Reading, value, over_group, with_sign, sum_of, product_of, function_value, distinct_values}
use Rattle.sq_meaning.specs.Kind.{Kinds, kind, signed_kind, sum_kind, product_kind, function_kind}
use Rattle.sq_meaning.specs.WellFormed.{Answers, Has, Fits, IsRowOf, Level, froms, HasLine, of_lines, inside_function, kind_there, Agrees, MayStand, OnlyIf, IsInQuery, IsLineOf, HasRowsOf, IsEnvOf}
use Rattle.sq_meaning.proofs.AnswerLaws.{known, then_fits, each_answers}
use Rattle.sq_meaning.proofs.OperatorKinds.{number_of_scale, literal_fits, sum_fits, product_fits, sign_fits, function_fits, length_fixed}

-- ---- outcomes

-- what is made of one thing that is there
same_fits : {A C D : Type 0} (P : A → Type 0) (Q : C → D → Type 0) (r : Outcome A) (g : A → Outcome C) (f : A → Outcome D)
    → Has P r → ((x : A) → P x → Fits Q (g x) (f x)) → Fits Q (and_then r g) (and_then r f)
same_fits P Q (Ok x) g f h t = t x h
same_fits P Q (Err status) g f h t = absurd h

-- a list of values of one kind
each_of_kind : {X A B : Type 0} (P : A → B → Type 0) (W : X → Type 0) (o : Outcome A) (f : X → Outcome B) → ((x : X) → W x → Fits P o (f x))
    → (xs : List X) → AllByRecursion W xs → Fits (λ a. AllByRecursion (P a)) o (each f xs)
each_of_kind P W (Ok a) f t xs w = each_answers W (P a) f t xs w
each_of_kind P W (Err status) f t xs w = tt

-- ---- columns

column_fits : (kinds : List Kind) (row : Row) (j : ℕ) → IsRowOf kinds row → Fits IsOfKind (well_formed (slice_get kinds j)) (well_formed (slice_get row j))
column_fits [] row j h = tt
column_fits (c ∷ kinds) [] j h = absurd h
column_fits (c ∷ kinds) (v ∷ row) zero h = h.0
column_fits (c ∷ kinds) (v ∷ row) (suc j) h = column_fits kinds row j h.1

row_fits : (o : Outcome (List Kind)) (row : Row) (j : ℕ) → Has (λ kinds. IsRowOf kinds row) o → Fits IsOfKind (and_then o (λ kinds. well_formed (slice_get kinds j))) (well_formed (slice_get row j))
row_fits (Ok kinds) row j h = column_fits kinds row j h
row_fits (Err status) row j h = absurd h

if_line : {P : Type 0} (b : Bool) → IsTrue b → OnlyIf b P → P
if_line true t p = p
if_line false t p = cc

module _ {N : Naming} (m : Reading N) (k : Kinds N) (IsDeclared : N.Parameter → Type 0) where
  item_fits : (from : List N.Table) (line : Line) (i j : ℕ) → IsLineOf m k IsDeclared from line
      → Fits IsOfKind (and_then (well_formed (slice_get from i)) (λ t. and_then (k.columns t) (λ kinds. well_formed (slice_get kinds j)))) (well_formed (option_and_then (λ row. slice_get row j) (slice_get line i)))
  item_fits [] line i j h = tt
  item_fits (t ∷ from) [] i j h = absurd h
  item_fits (t ∷ from) (row ∷ line) zero j h = row_fits (k.columns t) row j h.0
  item_fits (t ∷ from) (row ∷ line) (suc i) j h = item_fits from line i j h.1

  place_fits : (levels : List (Level N)) (scopes : List (Scope N.Item)) (d i j : ℕ) → AllZip (HasRowsOf m k IsDeclared) levels scopes → HasLine levels d
      → Fits IsOfKind (and_then (well_formed (slice_get (froms levels) d)) (λ from. and_then (well_formed (slice_get from i)) (λ t. and_then (k.columns t) (λ kinds. well_formed (slice_get kinds j)))))
      (well_formed (option_and_then (λ (scope : Scope N.Item). option_and_then (λ row. slice_get row j) (slice_get scope.line i)) (slice_get scopes d)))
  place_fits [] scopes d i j h there = absurd there
  place_fits (level ∷ outer) [] d i j h there = absurd h
  place_fits (level ∷ outer) (s ∷ scopes) zero i j h there = item_fits level.from s.line i j (if_line level.has_line there h.0.line)
  place_fits (level ∷ outer) (s ∷ scopes) (suc d) i j h there = place_fits outer scopes d i j h.1 there

  reference_fits : Agrees m k → (levels : List (Level N)) (c : N.Column) (env : Env N.Item) → MayStand m k IsDeclared levels (column c) → IsEnvOf m k IsDeclared levels env
      → Fits IsOfKind (k.column c (froms levels)) (value m (column c) env)
  reference_fits agrees levels c env stands is_env =
      subst (λ o. Fits IsOfKind o (value m (column c) env)) (sym (agrees.columns c (froms levels) ∙ (λ i. and_then (is_env.items.1 i) (λ items. and_then (m.place c items) (kind_there k.columns (froms levels)))) ∙ ap (λ r. and_then r (kind_there k.columns (froms levels))) (is_env.items.2 c)))
      (same_fits (λ p. HasLine levels p.depth) IsOfKind (m.place c (items_in env)) (kind_there k.columns (froms levels)) (value_at env)
      (subst (Has (λ p. HasLine levels p.depth)) (ap (λ r. and_then r (m.place c)) is_env.items.1 ∙ is_env.items.2 c) stands)
      (λ p there. place_fits levels env.scopes p.depth p.item p.column is_env.scopes there))

  -- ---- set functions

  count_fits : (levels : List (Level N)) (scopes : List (Scope N.Item)) (inputs : List Input) (name : List ℕ) → MayStand m k IsDeclared levels count_rows → AllZip (HasRowsOf m k IsDeclared) levels scopes
      → Fits IsOfKind (kind k (froms levels) count_rows) (value m count_rows (record { scopes = scopes; inputs = inputs; user = name }))
  count_fits [] scopes inputs name stands h = absurd stands
  count_fits (level ∷ outer) [] inputs name stands h = absurd h
  count_fits (level ∷ outer) (s ∷ scopes) inputs name stands h = number_of_scale 0 (pos (length s.group))

  group_fits : (levels : List (Level N)) (scopes : List (Scope N.Item)) (inputs : List Input) (name : List ℕ) (e : Expr N)
      → ((levels' : List (Level N)) (env : Env N.Item) → MayStand m k IsDeclared levels' e → IsEnvOf m k IsDeclared levels' env → Fits IsOfKind (kind k (froms levels') e) (value m e env))
      → IsInQuery levels × MayStand m k IsDeclared (inside_function levels) e → IsEnvOf m k IsDeclared levels (record { scopes = scopes; inputs = inputs; user = name })
      → Fits (λ c. AllByRecursion (IsOfKind c)) (kind k (froms levels) e) (over_group (record { scopes = scopes; inputs = inputs; user = name }) (value m e))
  group_fits [] scopes inputs name e within_fits stands is_env = absurd stands.0
  group_fits (level ∷ outer) [] inputs name e within_fits stands is_env = absurd is_env.scopes
  group_fits (level ∷ outer) (s ∷ scopes) inputs name e within_fits stands is_env =
      each_of_kind IsOfKind (IsLineOf m k IsDeclared level.from) (kind k (level.from ∷ froms outer) e) (λ line. value m e (within (alone s.items line) (record { scopes = scopes; inputs = inputs; user = name })))
      (λ line is_line. within_fits (of_lines level.from ∷ outer) (within (alone s.items line) (record { scopes = scopes; inputs = inputs; user = name })) stands.1
      (record { items = is_env.items; scopes = (record { line = is_line; group = tt }, is_env.scopes.1); inputs = is_env.inputs }))
      s.group is_env.scopes.0.group

  -- ---- values

  -- the value is of the kind that the expression has
  pub value_fits : Agrees m k → (levels : List (Level N)) (e : Expr N) (env : Env N.Item) → MayStand m k IsDeclared levels e → IsEnvOf m k IsDeclared levels env → Fits IsOfKind (kind k (froms levels) e) (value m e env)
  value_fits agrees levels (literal v) env stands is_env = literal_fits v
  value_fits agrees levels (parameter p) env stands is_env = is_env.inputs p stands
  value_fits agrees levels user env stands is_env = length_fixed 18 env.user
  value_fits agrees levels (column c) env stands is_env = reference_fits agrees levels c env stands is_env
  value_fits agrees levels count_rows env stands is_env = count_fits levels env.scopes env.inputs env.user stands is_env.scopes
  value_fits agrees levels (set_function function distinct e) env stands is_env =
      then_fits (λ c. AllByRecursion (IsOfKind c)) IsOfKind (kind k (froms levels) e) (function_kind function) (over_group env (value m e)) (λ values. function_value function (distinct_values distinct values))
      (group_fits levels env.scopes env.inputs env.user e (λ levels' env'. value_fits agrees levels' e env') stands is_env) (function_fits function distinct)
  value_fits agrees levels (signed sign e) env stands is_env = then_fits IsOfKind IsOfKind (kind k (froms levels) e) signed_kind (value m e env) (with_sign sign) (value_fits agrees levels e env stands is_env) (sign_fits sign)
  value_fits agrees levels (added sign a b) env stands is_env =
      then_fits IsOfKind IsOfKind (kind k (froms levels) a) (λ x. and_then (kind k (froms levels) b) (sum_kind x)) (value m a env) (λ v. and_then (value m b env) (sum_of sign v)) (value_fits agrees levels a env stands.0 is_env)
      (λ x v p. then_fits IsOfKind IsOfKind (kind k (froms levels) b) (sum_kind x) (value m b env) (sum_of sign v) (value_fits agrees levels b env stands.1 is_env) (λ y w q. sum_fits sign x y v w p q))
  value_fits agrees levels (scaled sign a b) env stands is_env =
      then_fits IsOfKind IsOfKind (kind k (froms levels) a) (λ x. and_then (kind k (froms levels) b) (product_kind sign x)) (value m a env) (λ v. and_then (value m b env) (product_of sign v)) (value_fits agrees levels a env stands.0 is_env)
      (λ x v p. then_fits IsOfKind IsOfKind (kind k (froms levels) b) (product_kind sign x) (value m b env) (product_of sign v) (value_fits agrees levels b env stands.1 is_env) (λ y w q. product_fits sign x y v w p q))
  value_fits agrees levels (bracketed e) env stands is_env = value_fits agrees levels e env stands is_env

  pub value_of_kind : Agrees m k → (levels : List (Level N)) (e : Expr N) (c : Kind) (env : Env N.Item) → kind k (froms levels) e ≡ Ok c → MayStand m k IsDeclared levels e → IsEnvOf m k IsDeclared levels env
      → Answers (IsOfKind c) (value m e env)
  value_of_kind agrees levels e c env is_kind stands is_env = known IsOfKind (kind k (froms levels) e) c (value m e env) is_kind (value_fits agrees levels e env stands is_env)
