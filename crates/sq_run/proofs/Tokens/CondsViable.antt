-- Search conditions as a whole. Where a condition has to stand, an expression alone is made whole by IS NULL behind it.
use Rattle.std.proofs.Common.{◌≡◌, ℕ, zero, suc, ◌<◌, Bool, true, false, cond, List, [], ◌∷◌, ◌++◌, length, Option, Some, None, Ok, Err, refl, sym, ◌∙◌, ap, subst, arith, length-append, inl, inr, ◌⊎◌}
use Rattle.sq_lex.specs.declared.lexeme.Lexeme.{Lexeme}
use Rattle.sq_lex.specs.declared.lexeme.Lexeme.TheVariants as lexeme
use Rattle.sq_lex.specs.declared.symbol.Symbol.TheVariants as symbol
use Rattle.sq_lex.specs.declared.word.Word.TheVariants as word
use Rattle.sq_tree.specs.declared.expr.Expr.{Expr}
use Rattle.sq_tree.specs.declared.expr.Primary.TheVariants as primary
use Rattle.sq_tree.specs.declared.cond.Tail.{Tail}
use Rattle.sq_tree.specs.declared.cond.Tail.TheVariants as tails
use Rattle.sq_tree.specs.declared.cond.Body.{Body}
use Rattle.sq_tree.specs.declared.cond.Test.{Test}
use Rattle.sq_tree.specs.declared.cond.Conj.{Conj}
use Rattle.sq_tree.specs.declared.cond.Cond.{Cond}
use Rattle.sq_grammar.specs.declared.cond_or_expr.CondOrExpr.{CondOrExpr}
use Rattle.sq_grammar.specs.declared.cond_or_expr.CondOrExpr.TheVariants as came
use Rattle.sq_grammar.specs.Reading.{Tokens, Outcome, Parser, ◌>>=◌, and_then, pure, eat, opening_bracket, expect, sees, one_if_any, all, behind}
use Rattle.sq_grammar.specs.Expr.{expr, expr_from, close}
use Rattle.sq_grammar.specs.Cond.{comparison_of, only_cond, must_be_cond, null_tail, subquery, by_like, by_in, by_between, negatable_tail, by_is, by_comparison, tail, tailed, predicate_from, by_inner, bracket, by_open, by_exists, body, tested, test_at, must_be_test, conjoined, conj, must_be_conj, disjoined, level, inside, cond as condition, query_specification}
use Rattle.sq_grammar.proofs.Ends.Follows.{EndsExpr, ends_expr}
use Rattle.sq_grammar.proofs.Sound.Spells.{ok_pair}
use Rattle.sq_run.proofs.Tokens.Ahead.{err_is}
use Rattle.sq_run.proofs.Tokens.Final.{Final}
use Rattle.sq_run.proofs.Tokens.CondFinal.{inner_conds}
use Rattle.sq_run.proofs.Tokens.Viable.{Any, Begins, Begun, Blank, Eats, Not, Starts, Viable, alike, alike_starts, begun, behind_it, blank, blanks, done, done_starts, eats_expect, eats_first, eats_if_comes, eats_next, eats_seeing, from, if_comes, mapped, mapped_starts, must, must_starts, never, not_starts, opening, rows, rows_start, seeing, starts_with, then_part, then_some, unmet_starts}
use Rattle.sq_run.proofs.Tokens.NamesViable.{closing, one_digit}
use Rattle.sq_run.proofs.Tokens.ExprViable.{AfterExpr, expr_begun, exprs, exprs_eat, exprs_from}
use Rattle.sq_run.proofs.Tokens.SelectViable.{AfterTable, from_after, specification_begun, specifications, specifications_eat}
use Rattle.sq_run.proofs.Tokens.CondViable.{AfterCond, close_cond, subqueries, subquery_begun}
use Rattle.sq_tree.specs.declared.cond.Body.TheVariants as bodies
use Rattle.sq_tree.specs.declared.cond.Conj.{roll-Conj}
use Rattle.sq_tree.specs.declared.cond.Cond.{roll-Cond}
use Rattle.sq_grammar.proofs.Reading.Many.{all-none}
use Rattle.sq_grammar.proofs.Taken.Takes.{none_behind}
use Rattle.sq_run.proofs.Tokens.Ahead.{bind_ok}
use Rattle.sq_run.proofs.Tokens.ExprViable.{expr_rests}
use Rattle.sq_run.proofs.Tokens.Viable.{Filled, Inside, Kept, Next}
use Rattle.sq_run.proofs.Tokens.TailViable.{all_tails, tail_silent}

-- ---- one part after another, in other words

pub and_then_same : {A B : Type 0} (r : Outcome A) (f g : A → Parser B) → ((x : A) (ts : Tokens) → f x ts ≡ g x ts) → and_then r f ≡ and_then r g
and_then_same (Ok p) f g same = same p.0 p.1
and_then_same (Err n) f g same = refl

pub and_then_twice : {A B C : Type 0} (r : Outcome A) (f : A → Parser B) (g : B → Parser C) → and_then (and_then r f) g ≡ and_then r (λ x. f x >>= g)
and_then_twice (Ok p) f g = refl
and_then_twice (Err n) f g = refl

module _ {A : Type 0} where
  -- what has to be a condition
  must_kept : {p q : Parser (CondOrExpr A)} {F : Tokens → Type 0} → Viable p q F → (ts : Tokens) (x : A) (rest : Tokens) → must_be_cond p ts ≡ Ok (x, rest) → Kept (must_be_cond q) F ts x rest
  must_kept {p = p} {q = q} {F = F} h ts x rest e = let b = bind_ok (p ts) only_cond x rest e in by b.0 b.1 b.2 b.3
    where
      by : (m : CondOrExpr A) (after : Tokens) → p ts ≡ Ok (m, after) → only_cond m after ≡ Ok (x, rest) → Kept (must_be_cond q) F ts x rest
      by (came.Cond c) after i j =
          let o = ok_pair c x after rest j in
          let k = h.reads ts (came.Cond c) after i in
          record { before = k.before; text_is = k.text_is ∙ ap (λ us. k.before ++ us) o.1; keeps = λ other n. ap (λ r. and_then r only_cond) (k.keeps other (subst (λ us. Next F us other) (sym o.1) n)) ∙ ap (λ y. Ok (y, other)) o.0 }
      by (came.Expr x) after i j = cc

  must_eats : {p : Parser (CondOrExpr A)} → Eats p → Eats (must_be_cond p)
  must_eats {p = p} eats ts x rest e = let b = bind_ok (p ts) only_cond x rest e in by b.0 b.1 b.2 b.3
    where
      by : (m : CondOrExpr A) (after : Tokens) → p ts ≡ Ok (m, after) → only_cond m after ≡ Ok (x, rest) → length rest < length ts
      by (came.Cond c) after i j = omega (arith, eats ts (came.Cond c) after i, ap length (ok_pair c x after rest j).1)
      by (came.Expr x) after i j = cc

  unmust : {q : Parser (CondOrExpr A)} {F : Tokens → Type 0} {t : Lexeme} → Begun (must_be_cond q) F t → Begun q F t
  unmust {q = q} {F = F} {t = t} k = record { tail = k.tail; value = came.Cond k.value; reads = λ other i. let us : Tokens = t ∷ (k.tail ++ other) in let b = bind_ok (q us) only_cond k.value other (k.reads other i) in b.2 ∙ by b.0 b.1 other b.3 }
    where
      by : (m : CondOrExpr A) (after other : Tokens) → only_cond m after ≡ Ok (k.value, other) → (let r : Outcome (CondOrExpr A) = Ok (m, after) in r ≡ Ok (came.Cond k.value, other))
      by (came.Cond c) after other j = let o = ok_pair c k.value after other j in λ i. Ok (came.Cond (o.0 i), o.1 i)
      by (came.Expr x) after other j = cc

by_came : {A B : Type 0} {F : Tokens → Type 0} (f g : CondOrExpr B → Parser A) → ((c : B) → Viable (f (came.Cond c)) (g (came.Cond c)) F) → ((e : Expr) → Viable (f (came.Expr e)) (g (came.Expr e)) F) → (m : CondOrExpr B) → Viable (f m) (g m) F
by_came f g first second (came.Cond c) = first c
by_came f g first second (came.Expr e) = second e

came_blank : {A B : Type 0} {F : Tokens → Type 0} (g : CondOrExpr B → Parser A) → ((c : B) → Blank (g (came.Cond c)) F) → ((e : Expr) → Blank (g (came.Expr e)) F) → (m : CondOrExpr B) → Blank (g m) F
came_blank g first second (came.Cond c) = first c
came_blank g first second (came.Expr e) = second e

is_ends : (ts : Tokens) → EndsExpr (lexeme.Word word.Is ∷ ts)
is_ends ts = ends_expr _ refl

-- ---- a condition that comes from nothing: 1 IS NULL

module _ (l : ℕ) (i : Parser (CondOrExpr Cond)) where
  -- a condition in a test is read as the body is
  tested_as : (n : Bool) (ts : Tokens) → must_be_cond (body l i >>= tested l i n) ts ≡ (must_be_cond (body l i) >>= λ b. pure (record { negated = n; body = b })) ts
  tested_as n ts = by n (body l i ts)
    where
      by : (n : Bool) (r : Outcome (CondOrExpr Body)) → and_then (and_then r (tested l i n)) only_cond ≡ and_then (and_then r only_cond) (λ b. pure (record { negated = n; body = b }))
      by n (Ok (came.Cond b, us)) = refl
      by true (Ok (came.Expr e, us)) = refl
      by false (Ok (came.Expr e, us)) = refl
      by n (Err m) = refl

  conj_as : (ts : Tokens) → must_be_cond (conj l i) ts ≡ (must_be_cond (test_at l i) >>= λ t. all (behind (lexeme.Word word.And) (must_be_test l i)) >>= λ xs. pure (roll-Conj (record { first = t; rest = xs }))) ts
  unfolding conj
  conj_as ts = by (test_at l i ts)
    where
      to : (t : Test) (r : Outcome (List _)) → and_then (and_then r (λ xs. pure (came.Cond (roll-Conj (record { first = t; rest = xs }))))) only_cond ≡ and_then r (λ xs. pure (roll-Conj (record { first = t; rest = xs })))
      to t (Ok p) = refl
      to t (Err n) = refl

      by : (r : Outcome (CondOrExpr Test)) → and_then (and_then r (conjoined l i)) only_cond ≡ and_then (and_then r only_cond) (λ t. all (behind (lexeme.Word word.And) (must_be_test l i)) >>= λ xs. pure (roll-Conj (record { first = t; rest = xs })))
      by (Ok (came.Cond t, us)) = to t (all (behind (lexeme.Word word.And) (must_be_test l i)) us)
      by (Ok (came.Expr e, us)) = refl
      by (Err n) = refl

  level_as : (ts : Tokens) → must_be_cond (level l i) ts ≡ (must_be_cond (conj l i) >>= λ c. all (behind (lexeme.Word word.Or) (must_be_conj l i)) >>= λ xs. pure (roll-Cond (record { first = c; rest = xs }))) ts
  unfolding level
  level_as ts = by (conj l i ts)
    where
      to : (c : Conj) (r : Outcome (List _)) → and_then (and_then r (λ xs. pure (came.Cond (roll-Cond (record { first = c; rest = xs }))))) only_cond ≡ and_then r (λ xs. pure (roll-Cond (record { first = c; rest = xs })))
      to c (Ok p) = refl
      to c (Err n) = refl

      by : (r : Outcome (CondOrExpr Conj)) → and_then (and_then r (disjoined l i)) only_cond ≡ and_then (and_then r only_cond) (λ c. all (behind (lexeme.Word word.Or) (must_be_conj l i)) >>= λ xs. pure (roll-Cond (record { first = c; rest = xs })))
      by (Ok (came.Cond c, us)) = to c (all (behind (lexeme.Word word.Or) (must_be_conj l i)) us)
      by (Ok (came.Expr e, us)) = refl
      by (Err n) = refl

  null_reads : (e : Expr) (other : Tokens) → must_be_cond (predicate_from l i e) (lexeme.Word word.Is ∷ lexeme.Word word.Null ∷ other) ≡ Ok (bodies.Predicate e (tails.Null false), other)
  unfolding predicate_from tail null_tail eat expect one_if_any
  null_reads e other = refl

  module _ {F : Tokens → Type 0} (closes : AfterCond F) where
    plain_begins : Begun (must_be_cond (expr l >>= predicate_from l i)) F one_digit
    plain_begins = begun one_digit _ (alike_starts (λ ts. and_then_twice (expr l ts) (predicate_from l i) only_cond)
        (starts_with {G = EndsExpr} _ (from (expr_begun l (λ other j. j)))
        (record { more = lexeme.Word word.Is ∷ lexeme.Word word.Null ∷ []; value = bodies.Predicate (expr_begun l {F = EndsExpr} (λ other j. j)).value (tails.Null false); reads = λ other j. null_reads _ other }) (λ other j. is_ends _))) refl

    body_begins : Begun (must_be_cond (body l i)) F one_digit
    unfolding body
    body_begins = begun one_digit _ (alike_starts (λ ts. and_then_twice (eat (lexeme.Word word.Exists) ts) (by_exists l i) only_cond)
        (not_starts (lexeme.Word word.Exists) (λ b. must_be_cond (by_exists l i b)) (record { more = one_digit ∷ plain_begins.tail; value = plain_begins.value; reads = plain_begins.reads }) (λ other j. refl))) refl

    test_begins : Begun (must_be_cond (test_at l i)) F one_digit
    unfolding test_at
    test_begins = begun one_digit _ (alike_starts (λ ts. and_then_twice (eat (lexeme.Word word.Not) ts) (λ n. body l i >>= tested l i n) only_cond)
        (not_starts (lexeme.Word word.Not) (λ n. must_be_cond (body l i >>= tested l i n)) (alike_starts (tested_as false) (mapped_starts _ (from body_begins))) (λ other j. refl))) refl

    conj_begins : Begun (must_be_cond (conj l i)) F one_digit
    conj_begins = begun one_digit _ (alike_starts conj_as (starts_with {G = F} _ (from test_begins)
        (mapped_starts _ (record { more = []; value = []; reads = λ other j. all-none (behind (lexeme.Word word.And) (must_be_test l i)) other other (none_behind (lexeme.Word word.And) (must_be_test l i) other (closes other j).table.cond.conj.and) })) (λ other j. j))) refl

    pub level_begins : Begun (must_be_cond (level l i)) F one_digit
    level_begins = begun one_digit _ (alike_starts level_as (starts_with {G = F} _ (from conj_begins)
        (mapped_starts _ (record { more = []; value = []; reads = λ other j. all-none (behind (lexeme.Word word.Or) (must_be_conj l i)) other other (none_behind (lexeme.Word word.Or) (must_be_conj l i) other (closes other j).table.cond.or) })) (λ other j. j))) refl

module _ (left : ℕ) {inner deeper : Parser (CondOrExpr Cond)} (fi : Final inner) (fd : Final deeper)
    (hm : Viable (must_be_cond inner) (must_be_cond deeper) (Begins closing)) (km : Begun (must_be_cond deeper) (Begins closing) one_digit) (h : Viable inner deeper (Begins closing)) where
  k : Begun deeper (Begins closing) one_digit
  k = unmust km

  module _ {F : Tokens → Type 0} (closes : AfterCond F) where
    after : AfterExpr F
    after other i = (closes other i).bare.expr

    tailed_parts : (e : Expr) (o : Option Tail) → Viable (tailed left inner e o) (tailed (suc left) deeper e o) F
    tailed_parts e None = done
    tailed_parts e (Some t) = done

    tailed_blank : (e : Expr) (o : Option Tail) → Blank (tailed (suc left) deeper e o) F
    tailed_blank e None = blanks done_starts refl
    tailed_blank e (Some t) = blanks done_starts refl

    predicates : (e : Expr) → Viable (predicate_from left inner e) (predicate_from (suc left) deeper e) F
    unfolding predicate_from
    predicates e = then_part {G = F} _ _ (all_tails left fi fd hm km closes) (tailed_parts e) (λ o. blank (tailed_blank e o)) (λ o other i. i) (λ other i. i)

    is_null_reads : (e : Expr) (other : Tokens) → must_be_cond (predicate_from (suc left) deeper e) (lexeme.Word word.Is ∷ lexeme.Word word.Null ∷ other) ≡ Ok (bodies.Predicate e (tails.Null false), other)
    unfolding predicate_from tail null_tail eat expect one_if_any
    is_null_reads e other = refl

    abbrev is_null : (e : Expr) → Starts (must_be_cond (predicate_from (suc left) deeper e)) F
    is_null e = record { more = lexeme.Word word.Is ∷ lexeme.Word word.Null ∷ []; value = bodies.Predicate e (tails.Null false); reads = λ other i. is_null_reads e other }

    must_predicates : (e : Expr) → Viable (must_be_cond (predicate_from left inner e)) (must_be_cond (predicate_from (suc left) deeper e)) F
    unfolding predicate_from
    must_predicates e = record { reads = must_kept (predicates e); stops = λ ts n i. by ts n (tail left inner ts) refl i }
      where
        filled : (b : Tokens) → 0 < length b → (f : Filled (tail (suc left) deeper) F b) → Filled (must_be_cond (predicate_from (suc left) deeper e)) F b
        filled b some f = to f.value f.reads
          where
            to : (o : Option Tail) → ((other : Tokens) → F other → tail (suc left) deeper (b ++ (f.more ++ other)) ≡ Ok (o, other)) → Filled (must_be_cond (predicate_from (suc left) deeper e)) F b
            to (Some t) reads = record { more = f.more; value = bodies.Predicate e t; reads = λ other i. ap (λ r. and_then (and_then r (tailed (suc left) deeper e)) only_cond) (reads other i) }
            to None reads = record { more = f.more; value = bodies.Predicate e (tails.Null false); reads = λ other i. absurd (omega (arith, some, ap length (tail_silent (suc left) deeper (b ++ (f.more ++ other)) other (reads other i)), length-append b (f.more ++ other), length-append f.more other)) }

        of_tail : (ts : Tokens) (n : ℕ) → (n ≡ length ts) ⊎ Inside (tail (suc left) deeper) F ts n → (n ≡ length ts) ⊎ Inside (must_be_cond (predicate_from (suc left) deeper e)) F ts n
        of_tail ts n (inl i) = inl i
        of_tail ts n (inr j) = inr (record { before = j.before; after = j.after; some = j.some; text_is = j.text_is; left = j.left; filled = filled j.before j.some j.filled })

        by : (ts : Tokens) (n : ℕ) (r : Outcome (Option Tail)) → tail left inner ts ≡ r → and_then (and_then r (tailed left inner e)) only_cond ≡ Err n → (n ≡ length ts) ⊎ Inside (must_be_cond (predicate_from (suc left) deeper e)) F ts n
        by ts n (Err m) is i = of_tail ts n ((all_tails left fi fd hm km closes).stops ts n (is ∙ ap Err (err_is Body m n i)))
        by ts n (Ok (None, rest)) is i = inl (sym (err_is Body (length rest) n i) ∙ ap length (sym (tail_silent left inner ts rest is)))
        by ts n (Ok (Some t, rest)) is i = cc

    -- no tail where none may come
    no_tail_there : (other : Tokens) → F other → tail (suc left) deeper other ≡ Ok (None, other)
    unfolding tail negatable_tail
    no_tail_there other i =
        (unmet_starts {F = F} comparison_of (by_comparison (suc left) deeper)
        (not_starts (lexeme.Word word.Is) (by_is (suc left) deeper)
        (not_starts (lexeme.Word word.Not) (λ n. eat (lexeme.Word word.Between) >>= by_between (suc left) deeper n)
        (not_starts (lexeme.Word word.Between) (by_between (suc left) deeper false)
        (not_starts (lexeme.Word word.In) (by_in (suc left) deeper false)
        (not_starts (lexeme.Word word.Like) (by_like (suc left) deeper false) done_starts (λ o j. (closes o j).bare.like))
        (λ o j. (closes o j).bare.in_word)) (λ o j. (closes o j).bare.between)) (λ o j. (closes o j).bare.not)) (λ o j. (closes o j).bare.is)) (λ o j. (closes o j).bare.comparison)).reads other i

    predicate_blank : (e : Expr) → Blank (predicate_from (suc left) deeper e) F
    unfolding predicate_from
    predicate_blank e = blanks (starts_with {G = F} _ (record { more = []; value = None; reads = no_tail_there }) (blank (tailed_blank e None)) (λ other i. i)) refl

    -- ---- a bracket

    by_inners : (m : CondOrExpr Cond) → Viable (by_inner left inner m) (by_inner (suc left) deeper m) F
    by_inners (came.Cond c) = done
    by_inners (came.Expr e) = then_part {G = F} _ _ (exprs_from left _ after) predicates (λ e. blank (predicate_blank e)) (λ e other i. i) (λ other i. i)

    by_inner_starts : (m : CondOrExpr Cond) → Starts (by_inner (suc left) deeper m) F
    by_inner_starts (came.Cond c) = done_starts
    by_inner_starts (came.Expr e) = starts_with {G = F} _ (blank (expr_rests left _ after)) (blank (predicate_blank _)) (λ other i. i)

    brackets : Viable (bracket left inner) (bracket (suc left) deeper) F
    unfolding bracket
    brackets = then_part {G = Any} _ _ (opening left)
        (λ u. then_some {G = Begins closing} _ _ h (λ m. must closing (λ ts. refl) (by_inners m) (by_inner_starts m)) (λ m. must_starts closing (λ ts. refl) (by_inner_starts m)) (λ m other i. (_, refl)) (λ m. eats_first _ _ {F = F} (eats_expect closing) (λ v. by_inners m)))
        (λ u. starts_with {G = Begins closing} _ (from k) (must_starts closing (λ ts. refl) (by_inner_starts k.value)) (λ other i. (_, refl))) (λ u other i. tt) (λ other i. tt)

    brackets_eat : Eats (bracket left inner)
    unfolding bracket
    brackets_eat = eats_next _ (opening left {F = Any}) (λ u. eats_next _ h (λ m. eats_first _ _ {F = F} (eats_expect closing) (λ v. by_inners m)))

    plain_predicates : Viable (expr left >>= predicate_from left inner) (expr (suc left) >>= predicate_from (suc left) deeper) F
    plain_predicates = then_part {G = F} _ _ (exprs left after) predicates (λ e. blank (predicate_blank e)) (λ e other i. i) (λ other i. i)

    plain_predicates_eat : Eats (expr left >>= predicate_from left inner)
    plain_predicates_eat = eats_first _ _ {F = F} (exprs_eat left) predicates

    opens : Viable (by_open left inner) (by_open (suc left) deeper) F
    opens = seeing (sees (lexeme.Symbol symbol.Open)) (λ t ts us. refl) brackets_eat plain_predicates_eat brackets plain_predicates

    opens_eat : Eats (by_open left inner)
    opens_eat = eats_seeing (sees (lexeme.Symbol symbol.Open)) brackets_eat plain_predicates_eat

    all_bodies : Viable (body left inner) (body (suc left) deeper) F
    unfolding body
    all_bodies = if_comes (lexeme.Word word.Exists) (by_exists left inner) (by_exists (suc left) deeper) (inr opens_eat) (mapped _ (subqueries left fi fd hm km)) (mapped_starts _ (from (subquery_begun left fi fd hm km))) opens

    bodies_eat : Eats (body left inner)
    unfolding body
    bodies_eat = eats_if_comes (lexeme.Word word.Exists) (by_exists left inner) (by_exists (suc left) deeper) {F = F} opens_eat (mapped _ (subqueries left fi fd hm km))

    -- ---- where a condition has to stand

    must_expr : (m : CondOrExpr Cond) → Viable (must_be_cond (by_inner left inner m)) (must_be_cond (by_inner (suc left) deeper m)) F
    must_expr (came.Cond c) = done
    must_expr (came.Expr e) = alike (λ ts. and_then_twice (expr_from left (primary.Bracketed e) ts) (predicate_from left inner) only_cond) (λ ts. and_then_twice (expr_from (suc left) (primary.Bracketed e) ts) (predicate_from (suc left) deeper) only_cond)
        (then_part {G = EndsExpr} _ _ (exprs_from left _ (λ other i. i)) must_predicates is_null (λ x other i. is_ends _) after)

    must_expr_starts : (m : CondOrExpr Cond) → Starts (must_be_cond (by_inner (suc left) deeper m)) F
    must_expr_starts (came.Cond c) = done_starts
    must_expr_starts (came.Expr e) = alike_starts (λ ts. and_then_twice (expr_from (suc left) (primary.Bracketed e) ts) (predicate_from (suc left) deeper) only_cond)
        (starts_with {G = EndsExpr} _ (blank (expr_rests left _ (λ other i. i))) (is_null _) (λ other i. is_ends _))

    must_brackets : Viable (must_be_cond (bracket left inner)) (must_be_cond (bracket (suc left) deeper)) F
    unfolding bracket
    must_brackets = alike (regrouped left inner) (regrouped (suc left) deeper)
        (then_part {G = Any} _ _ (opening left)
        (λ u. then_some {G = Begins closing} _ _ h (λ m. must closing (λ ts. refl) (must_expr m) (must_expr_starts m)) (λ m. must_starts closing (λ ts. refl) (must_expr_starts m)) (λ m other i. (_, refl)) (λ m. eats_first _ _ {F = F} (eats_expect closing) (λ v. must_expr m)))
        (λ u. starts_with {G = Begins closing} _ (from k) (must_starts closing (λ ts. refl) (must_expr_starts k.value)) (λ other i. (_, refl))) (λ u other i. tt) (λ other i. tt))
      where
        regrouped : (l : ℕ) (i : Parser (CondOrExpr Cond)) (ts : Tokens) → must_be_cond (bracket l i) ts ≡ (opening_bracket l >>= λ u. i >>= λ m. close >>= λ v. must_be_cond (by_inner l i m)) ts
        regrouped l i ts =
            and_then_twice (opening_bracket l ts) (λ u. i >>= λ m. close >>= λ v. by_inner l i m) only_cond
            ∙ and_then_same (opening_bracket l ts) _ _ (λ u us. and_then_twice (i us) (λ m. close >>= λ v. by_inner l i m) only_cond ∙ and_then_same (i us) _ _ (λ m vs. and_then_twice (close vs) (λ v. by_inner l i m) only_cond))

    must_plain : Viable (must_be_cond (expr left >>= predicate_from left inner)) (must_be_cond (expr (suc left) >>= predicate_from (suc left) deeper)) F
    must_plain = alike (λ ts. and_then_twice (expr left ts) (predicate_from left inner) only_cond) (λ ts. and_then_twice (expr (suc left) ts) (predicate_from (suc left) deeper) only_cond)
        (then_part {G = EndsExpr} _ _ (exprs left (λ other i. i)) must_predicates is_null (λ x other i. is_ends _) after)

    must_opens : Viable (must_be_cond (by_open left inner)) (must_be_cond (by_open (suc left) deeper)) F
    must_opens = alike (split left inner) (split (suc left) deeper) (seeing (sees (lexeme.Symbol symbol.Open)) (λ t ts us. refl) (must_eats brackets_eat) (must_eats plain_predicates_eat) must_brackets must_plain)
      where
        split : (l : ℕ) (i : Parser (CondOrExpr Cond)) (ts : Tokens) → must_be_cond (by_open l i) ts ≡ (cond (sees (lexeme.Symbol symbol.Open) ts) (must_be_cond (bracket l i)) (must_be_cond (expr l >>= predicate_from l i))) ts
        split l i ts = by (sees (lexeme.Symbol symbol.Open) ts)
          where
            by : (b : Bool) → and_then (cond b (bracket l i) (expr l >>= predicate_from l i) ts) only_cond ≡ cond b (must_be_cond (bracket l i)) (must_be_cond (expr l >>= predicate_from l i)) ts
            by true = refl
            by false = refl

    must_bodies : Viable (must_be_cond (body left inner)) (must_be_cond (body (suc left) deeper)) F
    unfolding body
    must_bodies = alike (λ ts. and_then_twice (eat (lexeme.Word word.Exists) ts) (by_exists left inner) only_cond) (λ ts. and_then_twice (eat (lexeme.Word word.Exists) ts) (by_exists (suc left) deeper) only_cond)
        (if_comes (lexeme.Word word.Exists) (λ b. must_be_cond (by_exists left inner b)) (λ b. must_be_cond (by_exists (suc left) deeper b)) (inr (must_eats opens_eat))
        (alike (λ ts. and_then_twice (subquery left inner ts) (λ q. pure (came.Cond (bodies.Exists q))) only_cond) (λ ts. and_then_twice (subquery (suc left) deeper ts) (λ q. pure (came.Cond (bodies.Exists q))) only_cond) (mapped bodies.Exists (subqueries left fi fd hm km)))
        (alike_starts (λ ts. and_then_twice (subquery (suc left) deeper ts) (λ q. pure (came.Cond (bodies.Exists q))) only_cond) (mapped_starts bodies.Exists (from (subquery_begun left fi fd hm km))))
        must_opens)

    -- ---- tests

    must_tests : Viable (must_be_cond (test_at left inner)) (must_be_cond (test_at (suc left) deeper)) F
    unfolding test_at
    must_tests = alike (λ ts. and_then_twice (eat (lexeme.Word word.Not) ts) (λ n. body left inner >>= tested left inner n) only_cond) (λ ts. and_then_twice (eat (lexeme.Word word.Not) ts) (λ n. body (suc left) deeper >>= tested (suc left) deeper n) only_cond)
        (if_comes (lexeme.Word word.Not) (λ n. must_be_cond (body left inner >>= tested left inner n)) (λ n. must_be_cond (body (suc left) deeper >>= tested (suc left) deeper n)) (inl (λ other i. (closes other i).bare.not))
        (alike (tested_as left inner true) (tested_as (suc left) deeper true) (mapped _ must_bodies)) (alike_starts (tested_as (suc left) deeper true) (mapped_starts _ (from (body_begins (suc left) deeper closes))))
        (alike (tested_as left inner false) (tested_as (suc left) deeper false) (mapped _ must_bodies)))

    tested_false : (m : CondOrExpr Body) → Viable (tested left inner false m) (tested (suc left) deeper false m) F
    tested_false (came.Cond b) = done
    tested_false (came.Expr e) = done

    tested_blank : (m : CondOrExpr Body) → Blank (tested (suc left) deeper false m) F
    tested_blank (came.Cond b) = blanks done_starts refl
    tested_blank (came.Expr e) = blanks done_starts refl

    tested_true : (l : ℕ) (i : Parser (CondOrExpr Cond)) (ts : Tokens) → (body l i >>= tested l i true) ts ≡ (must_be_cond (body l i) >>= λ b. pure (came.Cond (record { negated = true; body = b }))) ts
    tested_true l i ts = by (body l i ts)
      where
        by : (r : Outcome (CondOrExpr Body)) → and_then r (tested l i true) ≡ and_then (and_then r only_cond) (λ b. pure (came.Cond (record { negated = true; body = b })))
        by (Ok (came.Cond b, us)) = refl
        by (Ok (came.Expr e, us)) = refl
        by (Err m) = refl

    tests : Viable (test_at left inner) (test_at (suc left) deeper) F
    unfolding test_at
    tests = if_comes (lexeme.Word word.Not) (λ n. body left inner >>= tested left inner n) (λ n. body (suc left) deeper >>= tested (suc left) deeper n) (inl (λ other i. (closes other i).bare.not))
        (alike (tested_true left inner) (tested_true (suc left) deeper) (mapped _ must_bodies)) (alike_starts (tested_true (suc left) deeper) (mapped_starts _ (from (body_begins (suc left) deeper closes))))
        (then_part {G = F} _ _ all_bodies tested_false (λ m. blank (tested_blank m)) (λ m other i. i) (λ other i. i))

    -- ---- conjunctions

    no_and : Not F (lexeme.Word word.And)
    no_and other i = (closes other i).table.cond.conj.and

    and_parts : Viable (behind (lexeme.Word word.And) (must_be_test left inner)) (behind (lexeme.Word word.And) (must_be_test (suc left) deeper)) F
    unfolding must_be_test
    and_parts = behind_it (lexeme.Word word.And) must_tests (from (test_begins (suc left) deeper closes)) no_and

    no_and_there : (other : Tokens) → F other → behind (lexeme.Word word.And) (must_be_test (suc left) deeper) other ≡ Ok (None, other)
    no_and_there other i = none_behind (lexeme.Word word.And) (must_be_test (suc left) deeper) other (no_and other i)

    conjoined_parts : (m : CondOrExpr Test) → Viable (conjoined left inner m) (conjoined (suc left) deeper m) F
    conjoined_parts (came.Cond t) = mapped _ (rows and_parts no_and_there)
    conjoined_parts (came.Expr e) = done

    conjoined_blank : (m : CondOrExpr Test) → Blank (conjoined (suc left) deeper m) F
    conjoined_blank (came.Cond t) = blanks (mapped_starts _ (rows_start and_parts no_and_there)) refl
    conjoined_blank (came.Expr e) = blanks done_starts refl

    conjunctions : Viable (conj left inner) (conj (suc left) deeper) F
    unfolding conj
    conjunctions = then_part {G = F} _ _ tests conjoined_parts (λ m. blank (conjoined_blank m)) (λ m other i. i) (λ other i. i)

    must_conjunctions : Viable (must_be_cond (conj left inner)) (must_be_cond (conj (suc left) deeper)) F
    must_conjunctions = alike (conj_as left inner) (conj_as (suc left) deeper) (then_part {G = F} _ _ must_tests (λ t. mapped _ (rows and_parts no_and_there)) (λ t. mapped_starts _ (rows_start and_parts no_and_there)) (λ t other i. i) (λ other i. i))

    -- ---- conditions

    no_or : Not F (lexeme.Word word.Or)
    no_or other i = (closes other i).table.cond.or

    or_parts : Viable (behind (lexeme.Word word.Or) (must_be_conj left inner)) (behind (lexeme.Word word.Or) (must_be_conj (suc left) deeper)) F
    unfolding must_be_conj
    or_parts = behind_it (lexeme.Word word.Or) must_conjunctions (from (conj_begins (suc left) deeper closes)) no_or

    no_or_there : (other : Tokens) → F other → behind (lexeme.Word word.Or) (must_be_conj (suc left) deeper) other ≡ Ok (None, other)
    no_or_there other i = none_behind (lexeme.Word word.Or) (must_be_conj (suc left) deeper) other (no_or other i)

    disjoined_parts : (m : CondOrExpr Conj) → Viable (disjoined left inner m) (disjoined (suc left) deeper m) F
    disjoined_parts (came.Cond c) = mapped _ (rows or_parts no_or_there)
    disjoined_parts (came.Expr e) = done

    disjoined_blank : (m : CondOrExpr Conj) → Blank (disjoined (suc left) deeper m) F
    disjoined_blank (came.Cond c) = blanks (mapped_starts _ (rows_start or_parts no_or_there)) refl
    disjoined_blank (came.Expr e) = blanks done_starts refl

    pub levels : Viable (level left inner) (level (suc left) deeper) F
    unfolding level
    levels = then_part {G = F} _ _ conjunctions disjoined_parts (λ m. blank (disjoined_blank m)) (λ m other i. i) (λ other i. i)

    pub must_levels : Viable (must_be_cond (level left inner)) (must_be_cond (level (suc left) deeper)) F
    must_levels = alike (level_as left inner) (level_as (suc left) deeper) (then_part {G = F} _ _ must_conjunctions (λ c. mapped _ (rows or_parts no_or_there)) (λ c. mapped_starts _ (rows_start or_parts no_or_there)) (λ c other i. i) (λ other i. i))

-- ---- what reads behind a bracket

pub record Inners (left : ℕ) : Type 0 where
  pub must : Viable (must_be_cond (inside left)) (must_be_cond (inside (suc left))) (Begins closing)
  pub begins : Begun (must_be_cond (inside (suc left))) (Begins closing) one_digit
  pub plain : Viable (inside left) (inside (suc left)) (Begins closing)

inside_begins : (left : ℕ) → Begun (must_be_cond (inside (suc left))) (Begins closing) one_digit
unfolding inside
inside_begins left = level_begins left (inside left) close_cond

pub inners : (left : ℕ) → Inners left
unfolding inside
inners zero = record { must = record { reads = λ ts x rest e. cc; stops = λ ts n e. inl (sym (err_is Cond (length ts) n e)) }; begins = inside_begins zero; plain = never }
inners (suc left) =
    let i = inners left in
    record {
      must = must_levels left (inner_conds left) (inner_conds (suc left)) i.must i.begins i.plain close_cond;
      begins = inside_begins (suc left);
      plain = levels left (inner_conds left) (inner_conds (suc left)) i.must i.begins i.plain close_cond;
    }

module _ (left : ℕ) {F : Tokens → Type 0} (closes : AfterCond F) where
  pub conds : Viable (condition left) (condition (suc left)) F
  unfolding condition
  conds = let i = inners left in must_levels left (inner_conds left) (inner_conds (suc left)) i.must i.begins i.plain closes

  pub cond_begun : Begun (condition left) F one_digit
  unfolding condition
  cond_begun = level_begins left (inside left) closes

  table_after : AfterTable F
  table_after other i = (closes other i).table

pub query_specifications : (left : ℕ) {F : Tokens → Type 0} → AfterCond F → Viable (query_specification left) (query_specification (suc left)) F
query_specifications left closes = specifications (exprs left from_after) (expr_begun (suc left) from_after) (exprs_eat left) (table_after left closes) (conds left closes) (from (cond_begun (suc left) closes))

pub query_specification_begun : (left : ℕ) {F : Tokens → Type 0} → AfterCond F → Begun (query_specification (suc left)) F (lexeme.Word word.Select)
query_specification_begun left closes = specification_begun (exprs left from_after) (expr_begun (suc left) from_after) (exprs_eat left) (table_after left closes) (conds left closes) (from (cond_begun (suc left) closes))

pub query_specifications_eat : (left : ℕ) {F : Tokens → Type 0} → AfterCond F → Eats (query_specification left)
query_specifications_eat left closes = specifications_eat (exprs left from_after) (expr_begun (suc left) from_after) (exprs_eat left) (table_after left closes) (conds left closes) (from (cond_begun (suc left) closes))
