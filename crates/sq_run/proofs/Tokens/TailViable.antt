-- What stands behind the first expression of a predicate: what is read of it is the beginning of one.
use Rattle.std.proofs.Common.{◌≡◌, ℕ, suc, Bool, true, false, ◌∷◌, ◌++◌, Option, Some, None, refl, inl}
use Rattle.sq_lex.specs.declared.lexeme.Lexeme.TheVariants as lexeme
use Rattle.sq_lex.specs.declared.word.Word.TheVariants as word
use Rattle.sq_tree.specs.declared.cond.Comparison.{Comparison}
use Rattle.sq_tree.specs.declared.cond.Quantifier.{Quantifier}
use Rattle.sq_tree.specs.declared.cond.Tail.{Tail}
use Rattle.sq_tree.specs.declared.cond.Tail.TheVariants as tails
use Rattle.sq_tree.specs.declared.cond.Cond.{Cond}
use Rattle.sq_grammar.specs.declared.cond_or_expr.CondOrExpr.{CondOrExpr}
use Rattle.sq_grammar.specs.Reading.{Tokens, Parser, ◌>>=◌, eat, sees, comma}
use Rattle.sq_grammar.specs.Cond.{comparison_of, compared_if_any, sees_query, must_be_cond, by_compared, comparison_tail, between_tail, in_list, in_by, in_tail, like_tail, no_tail, by_like, by_in, by_between, negatable_tail, by_is, by_comparison, tail}
use Rattle.sq_grammar.proofs.Ends.Follows.{EndsExpr, ends_expr}
use Rattle.sq_grammar.proofs.Sound.Spells.{ok_pair}
use Rattle.sq_run.proofs.Tokens.Final.{Final}
use Rattle.sq_run.proofs.Tokens.CondFinal.{alike_there, query_or_expr}
use Rattle.sq_run.proofs.Tokens.Viable.{Any, Begins, Begun, Blank, Eats, NeverNone, Not, Silent, Starts, Viable, comes_never, comes_silent, one_silent, some_found, alike, behind_it, blank, blanks, commas, comes_starts, done, done_starts, eats_expect, eats_first, eats_next, eats_seeing, from, if_begun, if_comes, if_one, mapped, mapped_starts, must, must_starts, never, not_begun, not_starts, opening, opening_starts, seeing, starts_with, then_part, then_some}
use Rattle.sq_run.proofs.Tokens.NamesViable.{closing, one_digit}
use Rattle.sq_run.proofs.Tokens.ExprViable.{AfterExpr, close_after, expr_begun, exprs, inner_begun, inner_exprs}
use Rattle.sq_run.proofs.Tokens.CondViable.{AfterCond, choices_at, compared_start, null_starts, null_tails, query_closed, query_closed_begun, query_closed_eats, subqueries, subqueries_eat, subquery_begun, sums_eat}

abbrev AfterAll : Tokens → Type 0
AfterAll ts = (sees (lexeme.Word word.All) ts ≡ false) × (sees (lexeme.Word word.Any) ts ≡ false) × (sees (lexeme.Word word.Some) ts ≡ false)

quantified : Viable compared_if_any compared_if_any AfterAll
quantified = if_comes _ _ _ (inl (λ ts n. n.0)) done done_starts (if_comes _ _ _ (inl (λ ts n. n.1)) done done_starts (if_comes _ _ _ (inl (λ ts n. n.2)) done done_starts done))

quantified_blank : Blank compared_if_any AfterAll
quantified_blank = blanks (not_starts (lexeme.Word word.All) _ (not_starts (lexeme.Word word.Any) _ (not_starts (lexeme.Word word.Some) _ done_starts (λ ts n. n.2)) (λ ts n. n.1)) (λ ts n. n.0)) refl

and_after : AfterExpr (Begins (lexeme.Word word.And))
and_after = if_begun EndsExpr (lexeme.Word word.And) (λ ts. ends_expr _ refl)

close_no_comma : Not (Begins closing) comma
close_no_comma = not_begun closing comma (λ ts. refl)

module _ (left : ℕ) {inner deeper : Parser (CondOrExpr Cond)} (fi : Final inner) (fd : Final deeper)
    (hm : Viable (must_be_cond inner) (must_be_cond deeper) (Begins closing)) (km : Begun (must_be_cond deeper) (Begins closing) one_digit) where
  module _ {F : Tokens → Type 0} (closes : AfterCond F) where
    after : AfterExpr F
    after other i = (closes other i).bare.expr

    by_quantifier : (op : Comparison) (o : Option Quantifier) → Viable (by_compared left inner op o) (by_compared (suc left) deeper op o) F
    unfolding query_or_expr
    by_quantifier op None = alike (alike_there op fi left) (alike_there op fd (suc left)) (choices_at left fi fd hm km op after)
    by_quantifier op (Some q) = mapped _ (subqueries left fi fd hm km)

    quantifier_starts : (op : Comparison) (o : Option Quantifier) → Starts (by_compared (suc left) deeper op o) F
    quantifier_starts op None = from (compared_start left fi fd hm km op after)
    quantifier_starts op (Some q) = mapped_starts _ (from (subquery_begun left fi fd hm km))

    quantifier_joins : (op : Comparison) (o : Option Quantifier) (other : Tokens) → F other → AfterAll ((quantifier_starts op o).more ++ other)
    unfolding quantifier_starts
    quantifier_joins op None other i = (refl, refl, refl)
    quantifier_joins op (Some q) other i = (refl, refl, refl)

    quantifier_eats : (op : Comparison) (o : Option Quantifier) → Eats (by_compared left inner op o)
    quantifier_eats op None = eats_seeing sees_query (eats_first _ _ {F = F} (subqueries_eat left fi fd hm km) (λ q. done)) (sums_eat left fi fd hm km op after)
    quantifier_eats op (Some q) = eats_first _ _ {F = F} (subqueries_eat left fi fd hm km) (λ s. done)

    comparisons : (op : Comparison) → Viable (comparison_tail left inner op) (comparison_tail (suc left) deeper op) F
    unfolding comparison_tail
    comparisons op = then_some {G = AfterAll} _ _ quantified (by_quantifier op) (quantifier_starts op) (quantifier_joins op) (quantifier_eats op)

    comparison_starts : (op : Comparison) → Starts (comparison_tail (suc left) deeper op) F
    unfolding comparison_tail
    comparison_starts op = starts_with {G = AfterAll} _ (blank quantified_blank) (quantifier_starts op quantified_blank.value) (λ other i. quantifier_joins op quantified_blank.value other i)

    betweens : (negated : Bool) → Viable (between_tail left inner negated) (between_tail (suc left) deeper negated) F
    unfolding between_tail
    betweens negated = then_some {G = Begins (lexeme.Word word.And)} _ _ (exprs left and_after)
        (λ low. must (lexeme.Word word.And) (λ ts. refl) (mapped _ (exprs left after)) (mapped_starts _ (from (expr_begun (suc left) after))))
        (λ low. must_starts (lexeme.Word word.And) (λ ts. refl) (mapped_starts _ (from (expr_begun (suc left) after)))) (λ low other i. (_, refl))
        (λ low. eats_first _ _ {F = F} (eats_expect (lexeme.Word word.And)) (λ u. mapped _ (exprs left after)))

    between_starts : (negated : Bool) → Starts (between_tail (suc left) deeper negated) F
    unfolding between_tail
    between_starts negated = starts_with {G = Begins (lexeme.Word word.And)} _ (from (expr_begun (suc left) and_after)) (must_starts (lexeme.Word word.And) (λ ts. refl) (mapped_starts _ (from (expr_begun (suc left) after)))) (λ other i. (_, refl))

    in_lists : (negated : Bool) → Viable (in_list left inner negated) (in_list (suc left) deeper negated) F
    in_lists negated = then_some {G = Begins closing} _ _ (commas (inner_exprs left close_after) (from (inner_begun left close_after)) close_no_comma) (λ es. must closing (λ ts. refl) done done_starts) (λ es. must_starts closing (λ ts. refl) done_starts)
        (λ es other i. (_, refl)) (λ es. eats_first _ _ {F = F} (eats_expect closing) (λ u. done))

    in_lists_eat : (negated : Bool) → Eats (in_list left inner negated)
    in_lists_eat negated = eats_next _ (commas (inner_exprs left close_after) (from (inner_begun left close_after)) close_no_comma) (λ es. eats_first _ _ {F = F} (eats_expect closing) (λ u. done))

    in_parts : (negated : Bool) → Viable (in_by left inner negated) (in_by (suc left) deeper negated) F
    in_parts negated = seeing (sees (lexeme.Word word.Select)) (λ t ts us. refl) (query_closed_eats left fi fd hm km (λ s. tails.InQuery negated s)) (in_lists_eat negated) (query_closed left fi fd hm km (λ s. tails.InQuery negated s)) (in_lists negated)

    in_part_starts : (negated : Bool) → Starts (in_by (suc left) deeper negated) F
    in_part_starts negated = let k = query_closed_begun left fi fd hm km {F = F} (λ s. tails.InQuery negated s) in record { more = lexeme.Word word.Select ∷ k.tail; value = k.value; reads = k.reads }

    ins : (negated : Bool) → Viable (in_tail left inner negated) (in_tail (suc left) deeper negated) F
    unfolding in_tail
    ins negated = then_part {G = Any} _ _ (opening left) (λ u. in_parts negated) (λ u. in_part_starts negated) (λ u other i. tt) (λ other i. tt)

    in_starts : (negated : Bool) → Starts (in_tail (suc left) deeper negated) F
    unfolding in_tail
    in_starts negated = starts_with {G = Any} _ (opening_starts left) (in_part_starts negated) (λ other i. tt)

    no_escape : Not F (lexeme.Word word.Escape)
    no_escape other i = (closes other i).table.cond.conj.test.escape

    likes : (negated : Bool) → Viable (like_tail left inner negated) (like_tail (suc left) deeper negated) F
    unfolding like_tail
    likes negated = then_part {G = F} _ _ (exprs left after) (λ p. mapped _ (behind_it (lexeme.Word word.Escape) (exprs left after) (from (expr_begun (suc left) after)) no_escape)) (λ p. mapped_starts _ (not_starts (lexeme.Word word.Escape) _ done_starts no_escape)) (λ p other i. i) (λ other i. i)

    like_starts : (negated : Bool) → Starts (like_tail (suc left) deeper negated) F
    unfolding like_tail
    like_starts negated = starts_with {G = F} _ (from (expr_begun (suc left) after)) (mapped_starts _ (not_starts (lexeme.Word word.Escape) _ done_starts no_escape)) (λ other i. i)

    no_tails : (negated : Bool) → Viable (no_tail left inner negated) (no_tail (suc left) deeper negated) F
    no_tails true = never
    no_tails false = done

    by_likes : (n : Bool) → Viable (eat (lexeme.Word word.Like) >>= by_like left inner n) (eat (lexeme.Word word.Like) >>= by_like (suc left) deeper n) F
    by_likes n = if_comes (lexeme.Word word.Like) (by_like left inner n) (by_like (suc left) deeper n) (inl (λ other i. (closes other i).bare.like)) (mapped _ (likes n)) (mapped_starts _ (like_starts n)) (no_tails n)

    by_ins : (n : Bool) → Viable (eat (lexeme.Word word.In) >>= by_in left inner n) (eat (lexeme.Word word.In) >>= by_in (suc left) deeper n) F
    by_ins n = if_comes (lexeme.Word word.In) (by_in left inner n) (by_in (suc left) deeper n) (inl (λ other i. (closes other i).bare.in_word)) (mapped _ (ins n)) (mapped_starts _ (in_starts n)) (by_likes n)

    by_betweens : (n : Bool) → Viable (eat (lexeme.Word word.Between) >>= by_between left inner n) (eat (lexeme.Word word.Between) >>= by_between (suc left) deeper n) F
    by_betweens n = if_comes (lexeme.Word word.Between) (by_between left inner n) (by_between (suc left) deeper n) (inl (λ other i. (closes other i).bare.between)) (mapped _ (betweens n)) (mapped_starts _ (between_starts n)) (by_ins n)

    negatables : Viable (negatable_tail left inner) (negatable_tail (suc left) deeper) F
    unfolding negatable_tail
    negatables = if_comes (lexeme.Word word.Not) _ _ (inl (λ other i. (closes other i).bare.not)) (by_betweens true) (comes_starts (lexeme.Word word.Between) (by_between (suc left) deeper true) refl (mapped_starts _ (between_starts true))) (by_betweens false)

    pub all_tails : Viable (tail left inner) (tail (suc left) deeper) F
    unfolding tail
    all_tails = if_one comparison_of (by_comparison left inner) (by_comparison (suc left) deeper) (inl (λ other i. (closes other i).bare.comparison)) (λ op. mapped _ (comparisons op)) (λ op. mapped_starts _ (comparison_starts op))
        (if_comes (lexeme.Word word.Is) (by_is left inner) (by_is (suc left) deeper) (inl (λ other i. (closes other i).bare.is)) (mapped _ null_tails) (mapped_starts _ null_starts) negatables)

-- ---- a tail is none only where nothing is read

module _ (left : ℕ) (inner : Parser (CondOrExpr Cond)) where
  likes_never : NeverNone (eat (lexeme.Word word.Like) >>= by_like left inner true)
  likes_never = comes_never (lexeme.Word word.Like) (by_like left inner true) (some_found _ _) (λ ts r e. cc)

  ins_never : NeverNone (eat (lexeme.Word word.In) >>= by_in left inner true)
  ins_never = comes_never (lexeme.Word word.In) (by_in left inner true) (some_found _ _) likes_never

  betweens_never : NeverNone (eat (lexeme.Word word.Between) >>= by_between left inner true)
  betweens_never = comes_never (lexeme.Word word.Between) (by_between left inner true) (some_found _ _) ins_never

  pure_silent : Silent (no_tail left inner false)
  pure_silent ts r e = (ok_pair {X = Option Tail} None None ts r e).1

  likes_silent : Silent (eat (lexeme.Word word.Like) >>= by_like left inner false)
  likes_silent = comes_silent (lexeme.Word word.Like) (by_like left inner false) (some_found _ _) pure_silent

  ins_silent : Silent (eat (lexeme.Word word.In) >>= by_in left inner false)
  ins_silent = comes_silent (lexeme.Word word.In) (by_in left inner false) (some_found _ _) likes_silent

  betweens_silent : Silent (eat (lexeme.Word word.Between) >>= by_between left inner false)
  betweens_silent = comes_silent (lexeme.Word word.Between) (by_between left inner false) (some_found _ _) ins_silent

  negatables_silent : Silent (negatable_tail left inner)
  unfolding negatable_tail
  negatables_silent = comes_silent (lexeme.Word word.Not) _ betweens_never betweens_silent

  pub tail_silent : Silent (tail left inner)
  unfolding tail
  tail_silent = one_silent comparison_of (by_comparison left inner) (λ op. some_found _ _) (comes_silent (lexeme.Word word.Is) (by_is left inner) (some_found _ _) negatables_silent)
