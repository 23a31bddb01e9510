-- A reading that differs in the rows of tables alone gives the same values, and the same truth where no table is read or the tables
-- that are read have the same rows (ISO/IEC 9075:1992, 6.11, 7.9 and clause 8).
use Rattle.std.proofs.Common.{◌≡◌, ℕ, false, List, [], ◌∷◌, ◌++◌, refl, subst}
use Rattle.std.specs.Prelude.{⊤}
use Rattle.sq_meaning.specs.Status.{Outcome, each}
use Rattle.sq_meaning.specs.Syntax.{Naming, Expr, column, SelectList, all_columns, expressions, Cond, Conds, Clause, Select}
use Rattle.sq_meaning.specs.Environment.{Row, Line, Scope, Env, within}
use Rattle.sq_meaning.specs.Expression.{Reading, value}
use Rattle.sq_meaning.specs.Query.{list_functions, clause_functions, scopes_of, listed_values, truth, clause_truth, rows}
use Rattle.sq_meaning.specs.Target.{has_subquery, have_subquery}
use Rattle.sq_meaning.proofs.AnswerLaws.{all_true}
use Rattle.sq_meaning.proofs.Parts.{CondParts, SelectParts, ClauseHas, any_expr, plain_cond, no_select}
use Rattle.sq_meaning.proofs.Related.{FindTheSame, GroupsAlike, ReadTheSame, among, clause_same, rows_same, scopes_same, truth_same, value_same, values_same}

module _ {N : Naming} (m : Reading N) (others : N.Table → Outcome (List Row)) where
  -- the reading with these rows
  abbrev pub over : Reading N
  over = record m { rows = others }

  -- every expression, in one and the same environment
  abbrev Any : ℕ → Expr N → Type 0
  Any n e = ⊤

  abbrev Same : ℕ → Env N.Item → Env N.Item → Type 0
  Same n env other = env ≡ other

  itself : (env : Env N.Item) (xs : List (Scope N.Item)) → GroupsAlike (λ us vs. among env us ≡ among env vs) xs xs
  itself env [] = tt
  itself env (s ∷ xs) = (refl, λ line. refl)

  reads : ReadTheSame m over Any Same
  reads = record {
    operands = λ n f distinct e h. tt;
    columns = λ n c env other r h. λ i. value m (column c) (h i);
    inputs = λ n p env other r h. λ i. m.input p ((h i).inputs);
    users = λ n env other r h. λ i. (h i).user;
    groups = λ n env other h.
        subst (λ (o : Env N.Item). GroupsAlike (λ us vs. among env us ≡ among o vs) env.scopes o.scopes) h (itself env env.scopes);
  }

  pub value_over : (e : Expr N) (env : Env N.Item) → value m e env ≡ value over e env
  value_over e env = value_same m over Any Same any_expr reads 0 e tt env env refl

  pub scopes_over : (list : SelectList N) (by : List N.Column) (having : Clause N) (heads : List N.Item) (lines : List Line)
      (env : Env N.Item) → scopes_of m list by having heads lines env ≡ scopes_of over list by having heads lines env
  scopes_over list by having heads lines env =
      scopes_same m over Any Same any_expr reads 0 list by having (all_true (list_functions list ++ clause_functions having))
      (all_true by) heads lines env env (λ s. refl)

  pub listed_over : (list : SelectList N) (env : Env N.Item) → listed_values m list env ≡ listed_values over list env
  listed_over all_columns env = refl
  listed_over (expressions es) env = values_same m over Any Same any_expr reads 0 es (all_true es) env env refl

  -- ---- where the tables that are read have the same rows

  module _ (C : ℕ → Cond N → Type 0) (Cs : ℕ → Conds N → Type 0) (S : ℕ → Select N → Type 0) (F : List N.Table → Type 0)
      (parts : CondParts Any C Cs S) (clauses : SelectParts Any C S F)
      (alike : (from : List N.Table) → F from → each m.rows from ≡ each others from) where
    find : FindTheSame m over F Same
    find = record { inside = λ n env other h s. λ i. within s (h i); tables = λ from f. (refl, alike from f) }

    pub truth_over : (n : ℕ) (c : Cond N) → C n c → (env : Env N.Item) → truth m c env ≡ truth over c env
    truth_over n c r env = truth_same m over Any Same any_expr reads C Cs S F parts clauses find n c r env env refl

    pub clause_over : (n : ℕ) (c : Clause N) → ClauseHas C n c → (env : Env N.Item) → clause_truth m c env ≡ clause_truth over c env
    clause_over n c r env = clause_same m over Any Same any_expr reads C Cs S F parts clauses find n c r env env refl

    pub rows_over : (n : ℕ) (q : Select N) → S n q → (env : Env N.Item) → rows m q env ≡ rows over q env
    rows_over n q r env = rows_same m over Any Same any_expr reads C Cs S F parts clauses find n q r env env (λ s. refl)

  -- ---- where no table is read

  -- a condition without a subquery has the same truth whatever rows the tables have
  pub plain_over : (c : Cond N) (env : Env N.Item) → has_subquery c ≡ false → truth m c env ≡ truth over c env
  plain_over c env h =
      truth_over (λ n d. has_subquery d ≡ false) (λ n ds. have_subquery ds ≡ false) (λ n q. ⊥) (λ from. ⊥) plain_cond
      (no_select (λ n d. has_subquery d ≡ false)) (λ from f. absurd f) 0 c h env
