-- Two readings give a condition the same truth, and a query specification the same rows, where what is read is the same
-- (ISO/IEC 9075:1992, 6.4, 7.9 and clause 8).
use Rattle.std.proofs.Common.{◌≡◌, ℕ, suc, Bool, List, [], ◌∷◌, ◌++◌, map, Option, Some, None, refl, ap, subst, Ok}
use Rattle.std.specs.Prelude.{⊤, IfSome, if◌then◌else◌}
use Rattle.std.specs.List.{AllByRecursion}
use Rattle.sq_lex.specs.declared.name.Name.{Name}
use Rattle.sq_value.specs.Pattern.{liked}
use Rattle.sq_value.specs.SetFunctions.{is_null as is_null_value}
use Rattle.sq_value.specs.Truth.{negation, known}
use Rattle.sq_value.specs.declared.truth.Truth.{Truth}
use Rattle.sq_value.specs.declared.value.Value.{Value}
use Rattle.sq_tree.specs.declared.cond.Comparison.{Comparison}
use Rattle.sq_tree.specs.declared.cond.Comparison.TheVariants.{Equal, LessOrEqual, GreaterOrEqual}
use Rattle.sq_tree.specs.declared.cond.Quantifier.TheVariants as quantifier
use Rattle.sq_tree.specs.declared.expr.SetFunction.{SetFunction}
use Rattle.sq_meaning.specs.Status.{Outcome, and_then, each, kept, with_status, like_status}
use Rattle.sq_meaning.specs.Syntax.{Naming, Expr, literal, parameter, user, column, count_rows, set_function, signed, added, scaled, bracketed, SelectList, all_columns, expressions, Cond, Conds, Clause, Select, compare, compare_subquery, compare_quantified, between, in_subquery, in_list, like, is_null, exists, negated, conjunction, disjunction, no_cond, a_cond, absent, present, select}
use Rattle.sq_meaning.specs.Environment.{Line, Scope, Env, within, alone}
use Rattle.sq_meaning.specs.Expression.{Reading, value, over_group, count_of, with_sign, sum_of, product_of, function_value, distinct_values, user_value}
use Rattle.sq_meaning.specs.Rows.{product, firsts, same_row}
use Rattle.sq_meaning.specs.Query.{compared, comparison, and_also, or_else, any_in_turn, only_value, compared_with_rows, has_rows, like_truth, list_functions, clause_functions, is_grouped, group_scope, grouping_values, grouped, groups_by, scopes_of, listed_values, is_true, truth, all_truth, any_truth, clause_truth, rows}
use Rattle.sq_meaning.proofs.Parts.{ExprParts, CondParts, SelectParts, ListHas, ClauseHas, functions_have}

-- ---- along a list

pub each_same : {A B : Type 0} (P : A → Type 0) (f g : A → Outcome B) → ((x : A) → P x → f x ≡ g x) → (xs : List A)
    → AllByRecursion P xs → each f xs ≡ each g xs
each_same P f g same [] h = refl
each_same P f g same (x ∷ xs) h =
    λ i. and_then (same x h.0 i) (λ y. and_then (each_same P f g same xs h.1 i) (λ ys. Ok (y ∷ ys)))

in_turn_same : {A : Type 0} (P : A → Type 0) (f g : A → Outcome Truth) → ((x : A) → P x → f x ≡ g x) → (xs : List A)
    → AllByRecursion P xs → any_in_turn f xs ≡ any_in_turn g xs
in_turn_same P f g same [] h = refl
in_turn_same P f g same (x ∷ xs) h = λ i. or_else (same x h.0 i) (in_turn_same P f g same xs h.1 i)

-- ---- environments that are related

-- The nearest scopes have the same group, and R holds where a line of it stands in their place.
abbrev pub GroupsAlike : {H : Type 0} → (List (Scope H) → List (Scope H) → Type 0) → List (Scope H) → List (Scope H)
    → Type 0
GroupsAlike R [] [] = ⊤
GroupsAlike R (s ∷ xs) (t ∷ ys) =
    (s.group ≡ t.group) × ((line : Line) → R (alone s.items line ∷ xs) (alone t.items line ∷ ys))
GroupsAlike R _ _ = ⊥

-- the same scopes
pub alike_itself : {H : Type 0} (xs ys : List (Scope H)) → xs ≡ ys → GroupsAlike (λ us vs. us ≡ vs) xs ys
alike_itself {H} xs ys h = subst (λ (zs : List (Scope H)). GroupsAlike (λ us vs. us ≡ vs) xs zs) h (same xs)
  where
    same : (zs : List (Scope H)) → GroupsAlike (λ us vs. us ≡ vs) zs zs
    same [] = tt
    same (s ∷ zs) = (refl, λ line. refl)

-- what holds beside R, too
pub alike_beside : {H : Type 0} (R : List (Scope H) → List (Scope H) → Type 0) (Q : Type 0) → Q → (xs ys : List (Scope H))
    → GroupsAlike R xs ys → GroupsAlike (λ us vs. R us vs × Q) xs ys
alike_beside R Q q [] [] h = tt
alike_beside R Q q (s ∷ xs) (t ∷ ys) h = (h.0, λ line. (h.1 line, q))
alike_beside R Q q _ _ h = absurd h

-- an environment with other scopes
abbrev pub among : {H : Type 0} → Env H → List (Scope H) → Env H
among env scopes = record env { scopes = scopes }

-- What has E has a column, parameter or USER only if the two readings give it the same value in related environments.
pub record ReadTheSame {N : Naming} (m k : Reading N) (E : ℕ → Expr N → Type 0)
    (Here : ℕ → Env N.Item → Env N.Item → Type 0) : Type 0 where
  pub operands : (n : ℕ) (f : SetFunction) (distinct : Bool) (e : Expr N) → E n (set_function f distinct e) → E n e
  pub columns : (n : ℕ) (c : N.Column) (env other : Env N.Item) → E n (column c) → Here n env other
      → value m (column c) env ≡ value k (column c) other
  pub inputs : (n : ℕ) (p : N.Parameter) (env other : Env N.Item) → E n (parameter p) → Here n env other
      → m.input p env.inputs ≡ k.input p other.inputs
  pub users : (n : ℕ) (env other : Env N.Item) → E n user → Here n env other → env.user ≡ other.user
  pub groups : (n : ℕ) (env other : Env N.Item) → Here n env other
      → GroupsAlike (λ xs ys. Here n (among env xs) (among other ys)) env.scopes other.scopes

-- The scopes of a query are related too, one query deeper; and what has F has the same items and the same rows.
pub record FindTheSame {N : Naming} (m k : Reading N) (F : List N.Table → Type 0)
    (Here : ℕ → Env N.Item → Env N.Item → Type 0) : Type 0 where
  pub inside : (n : ℕ) (env other : Env N.Item) → Here n env other → (s : Scope N.Item)
      → Here (suc n) (within s env) (within s other)
  pub tables : (from : List N.Table) → F from
      → (each m.item from ≡ each k.item from) × (each m.rows from ≡ each k.rows from)

module _ {N : Naming} (m k : Reading N) (E : ℕ → Expr N → Type 0) (Here : ℕ → Env N.Item → Env N.Item → Type 0)
    (part : ExprParts E) (read : ReadTheSame m k E Here) where
  -- ---- values

  over_same : (n : ℕ) (f g : Env N.Item → Outcome Value) (env other : Env N.Item)
      → ((xs ys : List (Scope N.Item)) → Here n (among env xs) (among other ys) → f (among env xs) ≡ g (among other ys))
      → (xs ys : List (Scope N.Item)) → GroupsAlike (λ xs ys. Here n (among env xs) (among other ys)) xs ys
      → over_group (among env xs) f ≡ over_group (among other ys) g
  over_same n f g env other same [] [] h = refl
  over_same n f g env other same (s ∷ xs) (t ∷ ys) h =
      λ i. each (λ line. same (alone s.items line ∷ xs) (alone t.items line ∷ ys) (h.1 line) i) (h.0 i)
  over_same n f g env other same _ _ h = absurd h

  count_same : (n : ℕ) (env other : Env N.Item) (xs ys : List (Scope N.Item))
      → GroupsAlike (λ xs ys. Here n (among env xs) (among other ys)) xs ys
      → value m count_rows (among env xs) ≡ value k count_rows (among other ys)
  count_same n env other [] [] h = refl
  count_same n env other (s ∷ xs) (t ∷ ys) h = ap (λ (group : List Line). count_of group) h.0
  count_same n env other _ _ h = absurd h

  pub value_same : (n : ℕ) (e : Expr N) → E n e → (env other : Env N.Item) → Here n env other
      → value m e env ≡ value k e other
  value_same n (literal v) r env other h = refl
  value_same n (parameter p) r env other h = read.inputs n p env other r h
  value_same n user r env other h = ap (λ (name : Name). Ok (user_value name)) (read.users n env other r h)
  value_same n (column c) r env other h = read.columns n c env other r h
  value_same n count_rows r env other h =
      count_same n env other env.scopes other.scopes (read.groups n env other h)
  value_same n (set_function f distinct e) r env other h =
      ap (λ o. and_then o (λ values. function_value f (distinct_values distinct values)))
      (over_same n (value m e) (value k e) env other
      (λ xs ys. value_same n e (read.operands n f distinct e r) (among env xs) (among other ys))
      env.scopes other.scopes (read.groups n env other h))
  value_same n (signed sign e) r env other h =
      ap (λ o. and_then o (with_sign sign)) (value_same n e (part.of_signed n sign e r) env other h)
  value_same n (added sign a b) r env other h =
      let both = part.of_added n sign a b r in
      λ i. and_then (value_same n a both.0 env other h i) (λ x. and_then (value_same n b both.1 env other h i) (sum_of sign x))
  value_same n (scaled sign a b) r env other h =
      let both = part.of_scaled n sign a b r in
      λ i. and_then (value_same n a both.0 env other h i) (λ x. and_then (value_same n b both.1 env other h i) (product_of sign x))
  value_same n (bracketed e) r env other h = value_same n e (part.of_bracketed n e r) env other h

  pub values_same : (n : ℕ) (es : List (Expr N)) → AllByRecursion (E n) es → (env other : Env N.Item) → Here n env other
      → each (λ e. value m e env) es ≡ each (λ e. value k e other) es
  values_same n es r env other h =
      each_same (E n) (λ e. value m e env) (λ e. value k e other) (λ e s. value_same n e s env other h) es r

  pub compared_same : (n : ℕ) (op : Comparison) (a b : Expr N) → E n a → E n b → (env other : Env N.Item)
      → Here n env other → compared m op a b env ≡ compared k op a b other
  compared_same n op a b r s env other h =
      λ i. and_then (value_same n a r env other h i)
      (λ x. and_then (value_same n b s env other h i) (λ y. Ok (comparison op x y)))

  pub like_same : (n : ℕ) (text pattern : Expr N) (escape : Option (Expr N)) → E n text → E n pattern → IfSome escape (E n)
      → (env other : Env N.Item) → Here n env other → like_truth m text pattern escape env ≡ like_truth k text pattern escape other
  like_same n text pattern None r s u env other h =
      λ i. and_then (value_same n text r env other h i)
      (λ t. and_then (value_same n pattern s env other h i) (λ p. with_status like_status (liked t p None)))
  like_same n text pattern (Some e) r s u env other h =
      λ i. and_then (value_same n text r env other h i) (λ t. and_then (value_same n pattern s env other h i)
      (λ p. and_then (value_same n e u env other h i) (λ v. with_status like_status (liked t p (Some v)))))

  pub listed_same : (n : ℕ) (list : SelectList N) → ListHas E n list → (s : Scope N.Item) (env other : Env N.Item)
      → Here n (within s env) (within s other) → listed_values m list (within s env) ≡ listed_values k list (within s other)
  listed_same n all_columns r s env other h = refl
  listed_same n (expressions es) r s env other h = values_same n es r (within s env) (within s other) h

  -- ---- groups

  -- in whatever scope of a query
  abbrev pub Inside : ℕ → Env N.Item → Env N.Item → Type 0
  Inside n env other = (s : Scope N.Item) → Here (suc n) (within s env) (within s other)

  groups_same : (n : ℕ) (by : List N.Column) → AllByRecursion (λ c. E (suc n) (column c)) by → (heads : List N.Item)
      (lines : List Line) (env other : Env N.Item) → Inside n env other
      → groups_by m by heads lines env ≡ groups_by k by heads lines other
  groups_same n [] r heads lines env other h = refl
  groups_same n (c ∷ by) r heads lines env other h =
      λ i. and_then (each (λ line. and_then (keys line i) (λ key. Ok (key, line))) lines) (λ keyed. Ok (grouped keyed))
    where
      keys : (line : Line) → grouping_values m (c ∷ by) (within (alone heads line) env)
          ≡ grouping_values k (c ∷ by) (within (alone heads line) other)
      keys line =
          each_same (λ c. E (suc n) (column c)) (λ c. value m (column c) (within (alone heads line) env))
          (λ c. value k (column c) (within (alone heads line) other))
          (λ c s. read.columns (suc n) c (within (alone heads line) env) (within (alone heads line) other) s (h (alone heads line)))
          (c ∷ by) r

  pub scopes_same : (n : ℕ) (list : SelectList N) (by : List N.Column) (having : Clause N)
      → AllByRecursion (E (suc n)) (list_functions list ++ clause_functions having)
      → AllByRecursion (λ c. E (suc n) (column c)) by → (heads : List N.Item) (lines : List Line) (env other : Env N.Item)
      → Inside n env other → scopes_of m list by having heads lines env ≡ scopes_of k list by having heads lines other
  scopes_same n list by having r s heads lines env other h =
      λ i. if is_grouped list by having
      then and_then (groups_same n by s heads lines env other h i) (λ groups. and_then
      (each (λ group. values_same (suc n) (list_functions list ++ clause_functions having) r
      (within (group_scope heads group) env) (within (group_scope heads group) other) (h (group_scope heads group)) i) groups)
      (λ _. Ok (map (group_scope heads) groups)))
      else Ok (map (alone heads) lines)

  -- ---- truths, and the rows of query specifications

  module _ (C : ℕ → Cond N → Type 0) (Cs : ℕ → Conds N → Type 0) (S : ℕ → Select N → Type 0) (F : List N.Table → Type 0)
      (parts : CondParts E C Cs S) (clauses : SelectParts E C S F) (find : FindTheSame m k F Here) where
    mutual
      pub truth_same : (n : ℕ) (c : Cond N) → C n c → (env other : Env N.Item) → Here n env other
          → truth m c env ≡ truth k c other
      truth_same n (compare op a b) r env other h =
          let both = parts.of_compare n op a b r in compared_same n op a b both.0 both.1 env other h
      truth_same n (compare_subquery op a q) r env other h =
          let both = parts.of_scalar n op a q r in
          λ i. and_then (value_same n a both.0 env other h i) (λ x. and_then (rows_same n q both.1 env other (find.inside n env other h) i)
          (λ rs. and_then (only_value rs) (λ y. Ok (comparison op x y))))
      truth_same n (compare_quantified op quantifier a q) r env other h =
          let both = parts.of_quantified n op quantifier a q r in
          λ i. and_then (value_same n a both.0 env other h i)
          (λ x. and_then (rows_same n q both.1 env other (find.inside n env other h) i) (λ rs. Ok (compared_with_rows op quantifier x rs)))
      truth_same n (between a low high) r env other h =
          let all = parts.of_between n a low high r in
          λ i. and_also (compared_same n GreaterOrEqual a low all.0 all.1 env other h i)
          (compared_same n LessOrEqual a high all.0 all.2 env other h i)
      truth_same n (in_subquery a q) r env other h =
          let both = parts.of_among n a q r in
          λ i. and_then (value_same n a both.0 env other h i)
          (λ x. and_then (rows_same n q both.1 env other (find.inside n env other h) i) (λ rs. Ok (compared_with_rows Equal quantifier.Any x rs)))
      truth_same n (in_list a es) r env other h =
          let both = parts.of_list n a es r in
          in_turn_same (E n) (λ e. compared m Equal a e env) (λ e. compared k Equal a e other)
          (λ e s. compared_same n Equal a e both.0 s env other h) es both.1
      truth_same n (like text pattern escape) r env other h =
          let all = parts.of_like n text pattern escape r in
          like_same n text pattern escape all.0 all.1 all.2 env other h
      truth_same n (is_null a) r env other h =
          ap (λ o. and_then o (λ x. Ok (known (is_null_value x)))) (value_same n a (parts.of_null n a r) env other h)
      truth_same n (exists q) r env other h =
          ap (λ o. and_then o (λ rs. Ok (known (has_rows rs)))) (rows_same n q (parts.of_exists n q r) env other (find.inside n env other h))
      truth_same n (negated c) r env other h =
          ap (λ o. and_then o (λ t. Ok (negation t))) (truth_same n c (parts.of_negated n c r) env other h)
      truth_same n (conjunction cs) r env other h = all_same n cs (parts.of_conjunction n cs r) env other h
      truth_same n (disjunction cs) r env other h = any_same n cs (parts.of_disjunction n cs r) env other h

      all_same : (n : ℕ) (cs : Conds N) → Cs n cs → (env other : Env N.Item) → Here n env other
          → all_truth m cs env ≡ all_truth k cs other
      all_same n no_cond r env other h = refl
      all_same n (a_cond c cs) r env other h =
          let both = parts.of_first n c cs r in
          λ i. and_also (truth_same n c both.0 env other h i) (all_same n cs both.1 env other h i)

      any_same : (n : ℕ) (cs : Conds N) → Cs n cs → (env other : Env N.Item) → Here n env other
          → any_truth m cs env ≡ any_truth k cs other
      any_same n no_cond r env other h = refl
      any_same n (a_cond c cs) r env other h =
          let both = parts.of_first n c cs r in
          λ i. or_else (truth_same n c both.0 env other h i) (any_same n cs both.1 env other h i)

      pub clause_same : (n : ℕ) (c : Clause N) → ClauseHas C n c → (env other : Env N.Item) → Here n env other
          → clause_truth m c env ≡ clause_truth k c other
      clause_same n absent r env other h = refl
      clause_same n (present c) r env other h = truth_same n c r env other h

      pub rows_same : (n : ℕ) (q : Select N) → S n q → (env other : Env N.Item) → Inside n env other
          → rows m q env ≡ rows k q other
      rows_same n (select distinct list from filter by having) r env other h =
          let all = clauses.of_select n distinct list from filter by having r in
          let found = find.tables from all.0 in
          let functions = functions_have E part C Cs S parts (suc n) list having all.1 all.4 in
          λ i. and_then (found.0 i) (λ heads. and_then (found.1 i) (λ ts. and_then
          (kept (λ line. is_true (clause_same (suc n) filter all.2 (within (alone heads line) env) (within (alone heads line) other) (h (alone heads line)) i)) (product ts))
          (λ lines. and_then (scopes_same n list by having functions all.3 heads lines env other h i) (λ scopes. and_then
          (kept (λ s. is_true (clause_same (suc n) having all.4 (within s env) (within s other) (h s) i)) scopes) (λ left. and_then
          (each (λ s. listed_same (suc n) list all.1 s env other (h s) i) left)
          (λ shown. Ok (if distinct then firsts same_row shown else shown)))))))
