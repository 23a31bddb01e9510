-- What a property of trees says of their parts, and so of their set functions: one principle for expressions, search conditions
-- and query specifications (ISO/IEC 9075:1992, 6.5, 6.11, 7.9 and 8.12).
use Rattle.std.proofs.Common.{◌≡◌, ℕ, suc, Bool, false, List, ◌++◌, Option, Some, None}
use Rattle.std.specs.Prelude.{⊤, IfSome}
use Rattle.std.specs.List.{AllByRecursion, flat_map}
use Rattle.std.proofs.lemmas.Bool.{or_parts}
use Rattle.sq_tree.specs.declared.cond.Comparison.{Comparison}
use Rattle.sq_tree.specs.declared.cond.Quantifier.{Quantifier}
use Rattle.sq_tree.specs.declared.expr.Sign.{Sign}
use Rattle.sq_tree.specs.declared.expr.TimesSign.{TimesSign}
use Rattle.sq_meaning.specs.Syntax.{Naming, Expr, literal, parameter, user, column, count_rows, set_function, signed, added, scaled, bracketed, SelectList, all_columns, expressions, Cond, Conds, Clause, Select, compare, compare_subquery, compare_quantified, between, in_subquery, in_list, like, is_null, exists, negated, conjunction, disjunction, no_cond, a_cond, absent, present, select}
use Rattle.sq_meaning.specs.Expression.{set_functions}
use Rattle.sq_meaning.specs.Query.{escape_functions, cond_functions, conds_functions, list_functions, clause_functions}
use Rattle.sq_meaning.specs.Target.{has_subquery, have_subquery}
use Rattle.sq_meaning.proofs.AnswerLaws.{all_appended, all_flat_mapped, all_true}

-- ---- what a property says of parts. It may depend on how many queries deep a tree stands

-- An expression that has the property is made of operands that have it.
pub record ExprParts {N : Naming} (E : ℕ → Expr N → Type 0) : Type 0 where
  pub of_signed : (n : ℕ) (sign : Sign) (e : Expr N) → E n (signed sign e) → E n e
  pub of_added : (n : ℕ) (sign : Sign) (a b : Expr N) → E n (added sign a b) → E n a × E n b
  pub of_scaled : (n : ℕ) (sign : TimesSign) (a b : Expr N) → E n (scaled sign a b) → E n a × E n b
  pub of_bracketed : (n : ℕ) (e : Expr N) → E n (bracketed e) → E n e

-- A condition that has C is made of expressions that have E, of conditions that have C, and of subqueries that have S.
pub record CondParts {N : Naming} (E : ℕ → Expr N → Type 0) (C : ℕ → Cond N → Type 0) (Cs : ℕ → Conds N → Type 0)
    (S : ℕ → Select N → Type 0) : Type 0 where
  pub of_compare : (n : ℕ) (op : Comparison) (a b : Expr N) → C n (compare op a b) → E n a × E n b
  pub of_scalar : (n : ℕ) (op : Comparison) (a : Expr N) (q : Select N) → C n (compare_subquery op a q) → E n a × S n q
  pub of_quantified : (n : ℕ) (op : Comparison) (k : Quantifier) (a : Expr N) (q : Select N)
      → C n (compare_quantified op k a q) → E n a × S n q
  pub of_between : (n : ℕ) (a low high : Expr N) → C n (between a low high) → E n a × E n low × E n high
  pub of_among : (n : ℕ) (a : Expr N) (q : Select N) → C n (in_subquery a q) → E n a × S n q
  pub of_list : (n : ℕ) (a : Expr N) (es : List (Expr N)) → C n (in_list a es) → E n a × AllByRecursion (E n) es
  pub of_like : (n : ℕ) (text pattern : Expr N) (escape : Option (Expr N)) → C n (like text pattern escape)
      → E n text × E n pattern × IfSome escape (E n)
  pub of_null : (n : ℕ) (a : Expr N) → C n (is_null a) → E n a
  pub of_exists : (n : ℕ) (q : Select N) → C n (exists q) → S n q
  pub of_negated : (n : ℕ) (c : Cond N) → C n (negated c) → C n c
  pub of_conjunction : (n : ℕ) (cs : Conds N) → C n (conjunction cs) → Cs n cs
  pub of_disjunction : (n : ℕ) (cs : Conds N) → C n (disjunction cs) → Cs n cs
  pub of_first : (n : ℕ) (c : Cond N) (cs : Conds N) → Cs n (a_cond c cs) → C n c × Cs n cs

abbrev pub ListHas : {N : Naming} → (ℕ → Expr N → Type 0) → ℕ → SelectList N → Type 0
ListHas E n all_columns = ⊤
ListHas E n (expressions es) = AllByRecursion (E n) es

abbrev pub ClauseHas : {N : Naming} → (ℕ → Cond N → Type 0) → ℕ → Clause N → Type 0
ClauseHas C n absent = ⊤
ClauseHas C n (present c) = C n c

-- A query specification that has S is made of such clauses, one query deeper, and of a FROM clause that has F.
pub record SelectParts {N : Naming} (E : ℕ → Expr N → Type 0) (C : ℕ → Cond N → Type 0) (S : ℕ → Select N → Type 0)
    (F : List N.Table → Type 0) : Type 0 where
  pub of_select : (n : ℕ) (distinct : Bool) (list : SelectList N) (from : List N.Table) (filter : Clause N)
      (by : List N.Column) (having : Clause N) → S n (select distinct list from filter by having)
      → F from × ListHas E (suc n) list × ClauseHas C (suc n) filter
      × AllByRecursion (λ c. E (suc n) (column c)) by × ClauseHas C (suc n) having

pub any_escape : {N : Naming} (escape : Option (Expr N)) → IfSome escape (λ e. ⊤)
any_escape None = tt
any_escape (Some e) = tt

-- each expression has this property
pub any_expr : {N : Naming} → ExprParts {N = N} (λ n e. ⊤)
any_expr = record {
  of_signed = λ n sign e h. tt;
  of_added = λ n sign a b h. (tt, tt);
  of_scaled = λ n sign a b h. (tt, tt);
  of_bracketed = λ n e h. tt;
}

pub any_list : {N : Naming} (n : ℕ) (list : SelectList N) → ListHas {N = N} (λ n e. ⊤) n list
any_list n all_columns = tt
any_list n (expressions es) = all_true es

any_clause : {N : Naming} (n : ℕ) (c : Clause N) → ClauseHas {N = N} (λ n c. ⊤) n c
any_clause n absent = tt
any_clause n (present c) = tt

-- so has each condition and each query specification
pub any_cond : {N : Naming} → CondParts {N = N} (λ n e. ⊤) (λ n c. ⊤) (λ n cs. ⊤) (λ n q. ⊤)
any_cond = record {
  of_compare = λ n op a b h. (tt, tt);
  of_scalar = λ n op a q h. (tt, tt);
  of_quantified = λ n op k a q h. (tt, tt);
  of_between = λ n a low high h. (tt, tt, tt);
  of_among = λ n a q h. (tt, tt);
  of_list = λ n a es h. (tt, all_true es);
  of_like = λ n text pattern escape h. (tt, tt, any_escape escape);
  of_null = λ n a h. tt;
  of_exists = λ n q h. tt;
  of_negated = λ n c h. tt;
  of_conjunction = λ n cs h. tt;
  of_disjunction = λ n cs h. tt;
  of_first = λ n c cs h. (tt, tt);
}

pub any_select : {N : Naming} → SelectParts {N = N} (λ n e. ⊤) (λ n c. ⊤) (λ n q. ⊤) (λ from. ⊤)
any_select = record {
  of_select = λ n distinct list from filter by having h.
      (tt, any_list (suc n) list, any_clause (suc n) filter, all_true by, any_clause (suc n) having);
}

-- a condition without a subquery
pub plain_cond : {N : Naming} → CondParts {N = N} (λ n e. ⊤) (λ n c. has_subquery c ≡ false) (λ n cs. have_subquery cs ≡ false) (λ n q. ⊥)
plain_cond = record {
  of_compare = λ n op a b h. (tt, tt);
  of_scalar = λ n op a q h. absurd cc;
  of_quantified = λ n op k a q h. absurd cc;
  of_between = λ n a low high h. (tt, tt, tt);
  of_among = λ n a q h. absurd cc;
  of_list = λ n a es h. (tt, all_true es);
  of_like = λ n text pattern escape h. (tt, tt, any_escape escape);
  of_null = λ n a h. tt;
  of_exists = λ n q h. absurd cc;
  of_negated = λ n c h. h;
  of_conjunction = λ n cs h. h;
  of_disjunction = λ n cs h. h;
  of_first = λ n c cs h. or_parts (has_subquery c) (have_subquery cs) h;
}

-- no query specification
pub no_select : {N : Naming} (C : ℕ → Cond N → Type 0) → SelectParts (λ n e. ⊤) C (λ n q. ⊥) (λ from. ⊥)
no_select C = record { of_select = λ n distinct list from filter by having h. absurd h }

-- ---- the set functions of a tree are parts of it

module _ {N : Naming} (E : ℕ → Expr N → Type 0) (part : ExprParts E) where
  abbrev Have : ℕ → List (Expr N) → Type 0
  Have n es = AllByRecursion (E n) es

  joined : (n : ℕ) (es fs : List (Expr N)) → Have n es → Have n fs → Have n (es ++ fs)
  joined n = all_appended (E n)

  of_expr : (n : ℕ) (e : Expr N) → E n e → Have n (set_functions e)
  of_expr n (literal v) h = tt
  of_expr n (parameter p) h = tt
  of_expr n user h = tt
  of_expr n (column c) h = tt
  of_expr n count_rows h = (h, tt)
  of_expr n (set_function function distinct e) h = (h, tt)
  of_expr n (signed sign e) h = of_expr n e (part.of_signed n sign e h)
  of_expr n (added sign a b) h =
      let both = part.of_added n sign a b h in
      joined n (set_functions a) (set_functions b) (of_expr n a both.0) (of_expr n b both.1)
  of_expr n (scaled sign a b) h =
      let both = part.of_scaled n sign a b h in
      joined n (set_functions a) (set_functions b) (of_expr n a both.0) (of_expr n b both.1)
  of_expr n (bracketed e) h = of_expr n e (part.of_bracketed n e h)

  of_exprs : (n : ℕ) (es : List (Expr N)) → Have n es → Have n (flat_map set_functions es)
  of_exprs n es h = all_flat_mapped (E n) (E n) set_functions (of_expr n) es h

  of_escape : (n : ℕ) (escape : Option (Expr N)) → IfSome escape (E n) → Have n (escape_functions escape)
  of_escape n None h = tt
  of_escape n (Some e) h = of_expr n e h

  of_list : (n : ℕ) (list : SelectList N) → ListHas E n list → Have n (list_functions list)
  of_list n all_columns h = tt
  of_list n (expressions es) h = of_exprs n es h

  module _ (C : ℕ → Cond N → Type 0) (Cs : ℕ → Conds N → Type 0) (S : ℕ → Select N → Type 0)
      (parts : CondParts E C Cs S) where
    mutual
      of_cond : (n : ℕ) (c : Cond N) → C n c → Have n (cond_functions c)
      of_cond n (compare op a b) h =
          let both = parts.of_compare n op a b h in
          joined n (set_functions a) (set_functions b) (of_expr n a both.0) (of_expr n b both.1)
      of_cond n (compare_subquery op a q) h = of_expr n a ((parts.of_scalar n op a q h).0)
      of_cond n (compare_quantified op k a q) h = of_expr n a ((parts.of_quantified n op k a q h).0)
      of_cond n (between a low high) h =
          let all = parts.of_between n a low high h in
          joined n (set_functions a ++ set_functions low) (set_functions high)
          (joined n (set_functions a) (set_functions low) (of_expr n a all.0) (of_expr n low all.1)) (of_expr n high all.2)
      of_cond n (in_subquery a q) h = of_expr n a ((parts.of_among n a q h).0)
      of_cond n (in_list a es) h =
          let both = parts.of_list n a es h in
          joined n (set_functions a) (flat_map set_functions es) (of_expr n a both.0) (of_exprs n es both.1)
      of_cond n (like text pattern escape) h =
          let all = parts.of_like n text pattern escape h in
          joined n (set_functions text ++ set_functions pattern) (escape_functions escape)
          (joined n (set_functions text) (set_functions pattern) (of_expr n text all.0) (of_expr n pattern all.1))
          (of_escape n escape all.2)
      of_cond n (is_null a) h = of_expr n a (parts.of_null n a h)
      of_cond n (exists q) h = tt
      of_cond n (negated c) h = of_cond n c (parts.of_negated n c h)
      of_cond n (conjunction cs) h = of_conds n cs (parts.of_conjunction n cs h)
      of_cond n (disjunction cs) h = of_conds n cs (parts.of_disjunction n cs h)

      of_conds : (n : ℕ) (cs : Conds N) → Cs n cs → Have n (conds_functions cs)
      of_conds n no_cond h = tt
      of_conds n (a_cond c cs) h =
          let both = parts.of_first n c cs h in
          joined n (cond_functions c) (conds_functions cs) (of_cond n c both.0) (of_conds n cs both.1)

    of_clause : (n : ℕ) (c : Clause N) → ClauseHas C n c → Have n (clause_functions c)
    of_clause n absent h = tt
    of_clause n (present c) h = of_cond n c h

    -- what a select list and HAVING are made of has the property, and so do their set functions
    pub functions_have : (n : ℕ) (list : SelectList N) (having : Clause N) → ListHas E n list → ClauseHas C n having
        → AllByRecursion (E n) (list_functions list ++ clause_functions having)
    functions_have n list having h k =
        joined n (list_functions list) (clause_functions having) (of_list n list h) (of_clause n having k)
