-- Search conditions: what is read of one is the beginning of one.
use Rattle.std.proofs.Common.{◌≡◌, ℕ, zero, suc, ◌<◌, Bool, true, false, cond, [], ◌∷◌, ◌++◌, length, None, Ok, Err, refl, sym, ◌∙◌, ap, subst, arith, length-append, inl, inr, ◌⊎◌}
use Rattle.sq_lex.specs.declared.lexeme.Lexeme.{Lexeme}
use Rattle.sq_lex.specs.declared.lexeme.Lexeme.TheVariants as lexeme
use Rattle.sq_lex.specs.declared.symbol.Symbol.TheVariants as symbol
use Rattle.sq_lex.specs.declared.word.Word.TheVariants as word
use Rattle.sq_tree.specs.declared.expr.Primary.TheVariants as primary
use Rattle.sq_tree.specs.declared.cond.Comparison.{Comparison}
use Rattle.sq_tree.specs.declared.cond.Tail.{Tail}
use Rattle.sq_tree.specs.declared.cond.Tail.TheVariants as tails
use Rattle.sq_tree.specs.declared.cond.Cond.{Cond}
use Rattle.sq_grammar.specs.declared.cond_or_expr.CondOrExpr.{CondOrExpr}
use Rattle.sq_grammar.specs.Reading.{Tokens, Outcome, Parser, ◌>>=◌, ◌>>◌, and_then, pure, expect, sees, is_token, all}
use Rattle.sq_grammar.specs.Expr as expressions
use Rattle.sq_grammar.specs.Expr.{expr, close}
use Rattle.sq_grammar.specs.Cond.{must_be_cond, null_tail, inner_query, subquery, compared_expr, by_compared}
use Rattle.sq_grammar.proofs.Ends.Follows.{EndsBare, EndsTable, ends_expr, ends_table}
use Rattle.sq_grammar.proofs.Reading.Ranks.{is_token-is}
use Rattle.sq_run.proofs.Tokens.Ahead.{err_is}
use Rattle.sq_run.proofs.Tokens.Final.{Final}
use Rattle.sq_run.proofs.Tokens.CondFinal.{behind_bracket, bracket_opens, by_bracket, first_factor, first_primary, first_sum, first_term, no_bracket}
use Rattle.sq_run.proofs.Tokens.Viable.{Any, Begins, Begun, Eats, Inside, Kept, Starts, Viable, begun, done, done_starts, eaten, eats_expect, eats_first, eats_next, eats_seeing, from, if_begun, mapped, mapped_starts, must, must_starts, not_begun, opening, opening_starts, rows, rows_start, seeing, starts_with, then_part, then_some, uneaten}
use Rattle.sq_run.proofs.Tokens.NamesViable.{closing, one_digit}
use Rattle.sq_run.proofs.Tokens.ExprViable.{AfterExpr, adds, close_after, closed, expr_begun, exprs, exprs_eat, inner_begun, inner_exprs, inner_exprs_eat, no_added, no_scaled, scales}
use Rattle.sq_run.proofs.Tokens.SelectViable.{AfterTable, from_after, specification_begun, specifications, specifications_eat}

-- what may follow a condition, and an expression in the place of one
pub record Closes (ts : Tokens) : Type 0 where
  pub table : EndsTable ts
  pub bare : EndsBare ts

abbrev pub AfterCond : (Tokens → Type 0) → Type 0
AfterCond F = (other : Tokens) → F other → Closes other

pub closes_at : (ts : Tokens) → Closes (closing ∷ ts)
closes_at ts = record {
  table = ends_table _ refl refl;
  bare = record { expr = ends_expr _ refl; comparison = refl; is = refl; not = refl; between = refl; in_word = refl; like = refl };
}

pub close_cond : AfterCond (Begins closing)
close_cond = if_begun Closes closing closes_at

module _ {F : Tokens → Type 0} where
  pub null_tails : Viable null_tail null_tail F
  unfolding null_tail
  null_tails = then_some {G = Begins (lexeme.Word word.Null)} _ _
      (eaten (lexeme.Word word.Not) (not_begun (lexeme.Word word.Null) (lexeme.Word word.Not) (λ ts. refl)))
      (λ n. must (lexeme.Word word.Null) (λ ts. refl) done done_starts) (λ n. must_starts (lexeme.Word word.Null) (λ ts. refl) done_starts) (λ n other i. (_, refl)) (λ n. eats_first _ _ {F = Any} (eats_expect (lexeme.Word word.Null)) (λ u. done))

  pub null_starts : Starts null_tail F
  unfolding null_tail
  null_starts = starts_with {G = Begins (lexeme.Word word.Null)} _ (uneaten (lexeme.Word word.Not) (not_begun (lexeme.Word word.Null) (lexeme.Word word.Not) (λ ts. refl))) (must_starts (lexeme.Word word.Null) (λ ts. refl) done_starts) (λ other i. (_, refl))

module _ (left : ℕ) {inner deeper : Parser (CondOrExpr Cond)} (fi : Final inner) (fd : Final deeper)
    (hm : Viable (must_be_cond inner) (must_be_cond deeper) (Begins closing)) (km : Begun (must_be_cond deeper) (Begins closing) one_digit) where
  close_table : AfterTable (Begins closing)
  close_table other i = (close_cond other i).table

  pub queries : Viable (inner_query left inner) (inner_query (suc left) deeper) (Begins closing)
  queries = specifications (inner_exprs left from_after) (inner_begun left from_after) (inner_exprs_eat left) close_table hm (from km)

  query_begun : Begun (inner_query (suc left) deeper) (Begins closing) (lexeme.Word word.Select)
  query_begun = specification_begun (inner_exprs left from_after) (inner_begun left from_after) (inner_exprs_eat left) close_table hm (from km)

  queries_eat : Eats (inner_query left inner)
  queries_eat = specifications_eat (inner_exprs left from_after) (inner_begun left from_after) (inner_exprs_eat left) close_table hm (from km)

  module _ {F : Tokens → Type 0} where
    pub query_closed : {A : Type 0} (f : _ → A) → Viable (inner_query left inner >>= λ q. close >>= λ u. pure (f q)) (inner_query (suc left) deeper >>= λ q. close >>= λ u. pure (f q)) F
    query_closed f = then_some {G = Begins closing} _ _ queries (λ q. must closing (λ ts. refl) done done_starts) (λ q. must_starts closing (λ ts. refl) done_starts) (λ q other i. (_, refl)) (λ q. eats_first _ _ {F = Any} (eats_expect closing) (λ u. done))

    pub query_closed_begun : {A : Type 0} (f : _ → A) → Begun (inner_query (suc left) deeper >>= λ q. close >>= λ u. pure (f q)) F (lexeme.Word word.Select)
    query_closed_begun f = begun (lexeme.Word word.Select) _ (starts_with {G = Begins closing} _ (from query_begun) (must_starts closing (λ ts. refl) done_starts) (λ other i. (_, refl))) refl

  pub query_closed_eats : {A : Type 0} (f : _ → A) → Eats (inner_query left inner >>= λ q. close >>= λ u. pure (f q))
  query_closed_eats f = eats_next _ queries (λ q. eats_first _ _ {F = Any} (eats_expect closing) (λ u. done))

  module _ {F : Tokens → Type 0} where
    pub subqueries : Viable (subquery left inner) (subquery (suc left) deeper) F
    unfolding subquery
    subqueries = then_part {G = Any} _ _ (opening left) (λ u. query_closed (λ q. q)) (λ u. from (query_closed_begun (λ q. q))) (λ u other i. tt) (λ other i. tt)

    pub subquery_begun : Begun (subquery (suc left) deeper) F (lexeme.Symbol symbol.Open)
    unfolding subquery
    subquery_begun = begun (lexeme.Symbol symbol.Open) _ (starts_with {G = Any} _ (opening_starts left) (from (query_closed_begun (λ q. q))) (λ other i. tt)) refl

  pub subqueries_eat : Eats (subquery left inner)
  unfolding subquery
  subqueries_eat = eats_next _ (opening left {F = Any}) (λ u. query_closed_eats (λ q. q))

  -- ---- what follows a comparison

  module _ {F : Tokens → Type 0} (after : AfterExpr F) where
    scaled_rows : Viable (all (expressions.scaled_factor left (expressions.inside left))) (all (expressions.scaled_factor (suc left) (expressions.inside (suc left)))) F
    scaled_rows = rows (scales left (inner_exprs left close_after) (inner_begun left close_after) after) (no_scaled (suc left) (expressions.inside (suc left)) after)

    added_rows : Viable (all (expressions.added_term left (expressions.inside left))) (all (expressions.added_term (suc left) (expressions.inside (suc left)))) F
    added_rows = rows (adds left (inner_exprs left close_after) (inner_begun left close_after) after) (no_added (suc left) (expressions.inside (suc left)) after)

    abbrev scaled_start : Starts (all (expressions.scaled_factor (suc left) (expressions.inside (suc left)))) F
    scaled_start = rows_start (scales left (inner_exprs left close_after) (inner_begun left close_after) after) (no_scaled (suc left) (expressions.inside (suc left)) after)

    abbrev added_start : Starts (all (expressions.added_term (suc left) (expressions.inside (suc left)))) F
    added_start = rows_start (adds left (inner_exprs left close_after) (inner_begun left close_after) after) (no_added (suc left) (expressions.inside (suc left)) after)

    rests : Viable (behind_bracket left) (behind_bracket (suc left)) F
    unfolding behind_bracket first_primary first_factor first_term first_sum
    rests =
        then_part {G = F} _ _ (then_part {G = F} _ _ (mapped _ (closed left (inner_exprs left close_after) (inner_begun left close_after) primary.Bracketed))
        (λ f. mapped _ scaled_rows) (λ f. mapped_starts _ scaled_start) (λ f other i. i) (λ other i. i))
        (λ t. mapped _ added_rows) (λ t. mapped_starts _ added_start) (λ t other i. i) (λ other i. i)

    rests_eat : Eats (behind_bracket left)
    unfolding behind_bracket first_primary first_factor first_term first_sum
    rests_eat =
        eats_first _ _ {F = F} (eats_first _ _ {F = F} (eats_first _ _ {F = F} (eats_next _ (inner_exprs left close_after) (λ e. eats_first _ _ {F = F} (eats_expect closing) (λ u. done))) (λ p. done)) (λ f. mapped _ scaled_rows)) (λ t. mapped _ added_rows)

  module _ (op : Comparison) {F : Tokens → Type 0} (after : AfterExpr F) where
    sums : Viable (compared_expr left inner op) (compared_expr (suc left) deeper op) F
    sums = mapped _ (exprs left after)

    pub sums_eat : Eats (compared_expr left inner op)
    sums_eat = eats_first _ _ {F = F} (exprs_eat left) (λ e. done)

    opened_parts : Viable (bracket_opens op fi left) (bracket_opens op fd (suc left)) F
    unfolding bracket_opens
    opened_parts = seeing (sees (lexeme.Word word.Select)) (λ t ts us. refl)
        (eats_first _ _ {F = F} (query_closed_eats (λ q. q)) (λ q. done)) (eats_first _ _ {F = F} (rests_eat after) (λ e. done))
        (mapped _ (query_closed (λ q. q))) (mapped _ (rests after))

    opened_eats : Eats (bracket_opens op fi left)
    unfolding bracket_opens
    opened_eats = eats_seeing (sees (lexeme.Word word.Select)) (eats_first _ _ {F = F} (query_closed_eats (λ q. q)) (λ q. done)) (eats_first _ _ {F = F} (rests_eat after) (λ e. done))

    opened_starts : Starts (bracket_opens op fd (suc left)) F
    unfolding bracket_opens
    opened_starts =
        let k = query_closed_begun {F = F} (λ q. q) in
        record { more = lexeme.Word word.Select ∷ k.tail; value = tails.CompareQuery op None k.value; reads = λ other i. ap (λ r. and_then r (λ q. pure (tails.CompareQuery op None q))) (k.reads other i) }

    pub compared_start : Begun (by_compared (suc left) deeper op None) F one_digit
    compared_start = begun one_digit _ (record { more = one_digit ∷ k.tail; value = k.value; reads = k.reads }) refl
      where
        k : Begun (by_compared (suc left) deeper op None) F one_digit
        k = let e = expr_begun (suc left) after in record { tail = e.tail; value = tails.Compare op e.value; reads = λ other i. ap (λ r. and_then r (λ x. pure (tails.Compare op x))) (e.reads other i) }

-- a choice of two tokens, by one after the other
pub choices_at : (left : ℕ) {inner deeper : Parser (CondOrExpr Cond)} (fi : Final inner) (fd : Final deeper) → Viable (must_be_cond inner) (must_be_cond deeper) (Begins closing) → Begun (must_be_cond deeper) (Begins closing) one_digit
    → (op : Comparison) {F : Tokens → Type 0} → AfterExpr F → Viable (by_bracket op fi left) (by_bracket op fd (suc left)) F
unfolding by_bracket
choices_at zero {inner = inner} {deeper = deeper} fi fd hm km op {F = F} after = record { reads = reads; stops = stops }
  where
    q : Parser Tail
    q = by_bracket op fd 1

    plain : (b us : Tokens) (t : Lexeme) → is_token (lexeme.Symbol symbol.Open) t ≡ false → by_bracket op fd 1 (t ∷ us) ≡ compared_expr 1 deeper op (t ∷ us)
    plain b us t e = ap (λ c. cond c (expect (lexeme.Symbol symbol.Open) >> bracket_opens op fd 1) (compared_expr 1 deeper op) (t ∷ us)) e

    plainly : (b ts after us : Tokens) → 0 < length b → ts ≡ b ++ after → sees (lexeme.Symbol symbol.Open) ts ≡ false → by_bracket op fd 1 (b ++ us) ≡ compared_expr 1 deeper op (b ++ us)
    plainly [] ts after us some is e = absurd (omega arith)
    plainly (t ∷ b) ts after us some is e = plain b (b ++ us) t (sym (ap (sees (lexeme.Symbol symbol.Open)) is) ∙ e)

    at_bracket : (t : Lexeme) (ts : Tokens) → is_token (lexeme.Symbol symbol.Open) t ≡ true → compared_expr 0 inner op (t ∷ ts) ≡ Err (length (t ∷ ts))
    at_bracket t ts e = subst (λ u. compared_expr 0 inner op (u ∷ ts) ≡ Err (length (u ∷ ts))) (sym (is_token-is (lexeme.Symbol symbol.Open) t e)) (ap (λ r. and_then r (λ x. pure (tails.Compare op x))) (no_bracket ts))

    kept : (ts : Tokens) (x : Tail) (rest : Tokens) → sees (lexeme.Symbol symbol.Open) ts ≡ false → compared_expr 0 inner op ts ≡ Ok (x, rest) → Kept (by_bracket op fd 1) F ts x rest
    kept ts x rest no_open e =
        let k = (sums 0 fi fd hm km op after).reads ts x rest e in
        let less = sums_eat 0 fi fd hm km op after ts x rest e in
        record { before = k.before; text_is = k.text_is; keeps = λ other n. plainly k.before ts rest other (omega (arith, less, ap length k.text_is ∙ length-append k.before rest)) k.text_is no_open ∙ k.keeps other n }

    stopped : (ts : Tokens) (n : ℕ) → sees (lexeme.Symbol symbol.Open) ts ≡ false → (n ≡ length ts) ⊎ Inside (compared_expr 1 deeper op) F ts n → (n ≡ length ts) ⊎ Inside (by_bracket op fd 1) F ts n
    stopped ts n no_open (inl i) = inl i
    stopped ts n no_open (inr k) = inr (record {
      before = k.before;
      after = k.after;
      some = k.some;
      text_is = k.text_is;
      left = k.left;
      filled = record { more = k.filled.more; value = k.filled.value; reads = λ other j. plainly k.before ts k.after (k.filled.more ++ other) k.some k.text_is no_open ∙ k.filled.reads other j };
    })

    reads : (ts : Tokens) (x : Tail) (rest : Tokens) → compared_expr 0 inner op ts ≡ Ok (x, rest) → Kept (by_bracket op fd 1) F ts x rest
    reads [] x rest e = kept [] x rest refl e
    reads (t ∷ ts) x rest e = by (is_token (lexeme.Symbol symbol.Open) t) refl
      where
        never_ok : (let r : Outcome Tail = Err (length (t ∷ ts)) in r ≡ Ok (x, rest)) → ⊥
        never_ok i = cc

        by : (b : Bool) → is_token (lexeme.Symbol symbol.Open) t ≡ b → Kept (by_bracket op fd 1) F (t ∷ ts) x rest
        by true is = absurd (never_ok (sym (at_bracket t ts is) ∙ e))
        by false is = kept (t ∷ ts) x rest is e

    stops : (ts : Tokens) (n : ℕ) → compared_expr 0 inner op ts ≡ Err n → (n ≡ length ts) ⊎ Inside (by_bracket op fd 1) F ts n
    stops [] n e = stopped [] n refl ((sums 0 fi fd hm km op after).stops [] n e)
    stops (t ∷ ts) n e = by (is_token (lexeme.Symbol symbol.Open) t) refl
      where
        by : (b : Bool) → is_token (lexeme.Symbol symbol.Open) t ≡ b → (n ≡ length (t ∷ ts)) ⊎ Inside (by_bracket op fd 1) F (t ∷ ts) n
        by true is = inl (err_is Tail n (length (t ∷ ts)) (sym e ∙ at_bracket t ts is))
        by false is = stopped (t ∷ ts) n is ((sums 0 fi fd hm km op after).stops (t ∷ ts) n e)
choices_at (suc left) fi fd hm km op {F = F} after = seeing (sees (lexeme.Symbol symbol.Open)) (λ t ts us. refl)
    (eats_first _ _ {F = F} (eats_expect (lexeme.Symbol symbol.Open)) (λ u. opened_parts (suc left) fi fd hm km op after)) (sums_eat (suc left) fi fd hm km op after)
    (must (lexeme.Symbol symbol.Open) (λ ts. refl) (opened_parts (suc left) fi fd hm km op after) (opened_starts (suc left) fi fd hm km op after)) (sums (suc left) fi fd hm km op after)
