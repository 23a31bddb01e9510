-- Query expressions: what is read of one is the beginning of one.
use Rattle.std.proofs.Common.{◌≡◌, ℕ, zero, suc, [], None, Ok, refl}
use Rattle.sq_lex.specs.declared.lexeme.Lexeme.{Lexeme}
use Rattle.sq_lex.specs.declared.lexeme.Lexeme.TheVariants as lexeme
use Rattle.sq_lex.specs.declared.symbol.Symbol.TheVariants as symbol
use Rattle.sq_lex.specs.declared.word.Word.TheVariants as word
use Rattle.sq_tree.specs.declared.query.Query.{Query}
use Rattle.sq_grammar.specs.Reading.{Tokens, Parser, sees, behind}
use Rattle.sq_grammar.specs.Cond.{query_specification}
use Rattle.sq_grammar.specs.Query.{bracketed, bracketed_term, query_term, union_term, level, inside, query}
use Rattle.sq_grammar.proofs.Reading.Many.{all-none}
use Rattle.sq_grammar.proofs.Taken.Takes.{none_behind}
use Rattle.sq_run.proofs.Tokens.Viable.{Any, Begins, Begun, Eats, Not, Starts, Viable, begun, behind_it, done, done_starts, eaten, eats_expect, eats_first, eats_next, eats_seeing, from, mapped, mapped_starts, must, must_starts, never, never_eats, not_begun, opening, rows, rows_start, seeing, starts_with, then_part, then_some, uneaten}
use Rattle.sq_run.proofs.Tokens.NamesViable.{closing}
use Rattle.sq_run.proofs.Tokens.ExprViable.{expr_begun}
use Rattle.sq_run.proofs.Tokens.SelectViable.{from_after, specification_begun}
use Rattle.sq_run.proofs.Tokens.CondViable.{AfterCond, close_cond}
use Rattle.sq_run.proofs.Tokens.CondsViable.{cond_begun, query_specifications, query_specifications_eat}

select : Lexeme
select = lexeme.Word word.Select

-- a query specification from nothing
pub specification_begins : (l : ℕ) {F : Tokens → Type 0} → AfterCond F → Begun (query_specification l) F (lexeme.Word word.Select)
specification_begins l closes = specification_begun never (expr_begun l from_after) never_eats (λ other i. (closes other i).table) never (from (cond_begun l closes))

module _ (l : ℕ) (i : Parser Query) {F : Tokens → Type 0} (closes : AfterCond F) where
  term_begun : Begun (query_term l i) F (lexeme.Word word.Select)
  unfolding query_term
  term_begun = let k = mapped_starts {F = F} _ (from (specification_begins l closes)) in begun (lexeme.Word word.Select) _ (record { more = k.more; value = k.value; reads = k.reads }) refl

  module _ (no_union : Not F (lexeme.Word word.Union)) where
    level_begins : Begun (level l i) F (lexeme.Word word.Select)
    unfolding level
    level_begins = begun (lexeme.Word word.Select) _ (starts_with {G = F} _ (from term_begun)
        (mapped_starts _ (record { more = []; value = []; reads = λ other j. all-none (behind (lexeme.Word word.Union) (union_term l i)) other other (none_behind (lexeme.Word word.Union) (union_term l i) other (no_union other j)) })) (λ other j. j)) refl

module _ (left : ℕ) {inner deeper : Parser Query} (h : Viable inner deeper (Begins closing)) (k : Begun deeper (Begins closing) (lexeme.Word word.Select)) where
  module _ {F : Tokens → Type 0} where
    brackets : Viable (bracketed left inner) (bracketed (suc left) deeper) F
    unfolding bracketed
    brackets = then_part {G = Any} _ _ (opening left) (λ u. then_some {G = Begins closing} _ _ h (λ q. must closing (λ ts. refl) done done_starts) (λ q. must_starts closing (λ ts. refl) done_starts) (λ q other i. (_, refl)) (λ q. eats_first _ _ {F = Any} (eats_expect closing) (λ v. done)))
        (λ u. starts_with {G = Begins closing} _ (from k) (must_starts closing (λ ts. refl) done_starts) (λ other i. (_, refl))) (λ u other i. tt) (λ other i. tt)

  brackets_eat : Eats (bracketed left inner)
  unfolding bracketed
  brackets_eat = eats_next _ (opening left {F = Any}) (λ u. eats_next _ h (λ q. eats_first _ _ {F = Any} (eats_expect closing) (λ v. done)))

  module _ {F : Tokens → Type 0} (closes : AfterCond F) where
    query_terms : Viable (query_term left inner) (query_term (suc left) deeper) F
    unfolding query_term bracketed_term
    query_terms = seeing (sees (lexeme.Symbol symbol.Open)) (λ t ts us. refl) (eats_first _ _ {F = F} brackets_eat (λ q. done)) (eats_first _ _ {F = F} (query_specifications_eat left closes) (λ s. done)) (mapped _ brackets) (mapped _ (query_specifications left closes))

    terms_eat : Eats (query_term left inner)
    unfolding query_term bracketed_term
    terms_eat = eats_seeing (sees (lexeme.Symbol symbol.Open)) (eats_first _ _ {F = F} brackets_eat (λ q. done)) (eats_first _ _ {F = F} (query_specifications_eat left closes) (λ s. done))

    union_terms : Viable (union_term left inner) (union_term (suc left) deeper) F
    unfolding union_term
    union_terms = then_some {G = Begins (lexeme.Word word.Select)} _ _ (eaten (lexeme.Word word.All) (not_begun (lexeme.Word word.Select) (lexeme.Word word.All) (λ ts. refl)))
        (λ e. mapped _ query_terms) (λ e. mapped_starts _ (from (term_begun (suc left) deeper closes))) (λ e other i. (_, refl)) (λ e. eats_first _ _ {F = F} terms_eat (λ t. done))

    union_starts : Starts (union_term (suc left) deeper) F
    unfolding union_term
    union_starts = starts_with {G = Begins (lexeme.Word word.Select)} _ (uneaten (lexeme.Word word.All) (not_begun (lexeme.Word word.Select) (lexeme.Word word.All) (λ ts. refl))) (mapped_starts _ (from (term_begun (suc left) deeper closes))) (λ other i. (_, refl))

    module _ (no_union : Not F (lexeme.Word word.Union)) where
      none_there : (other : Tokens) → F other → behind (lexeme.Word word.Union) (union_term (suc left) deeper) other ≡ Ok (None, other)
      none_there other i = none_behind (lexeme.Word word.Union) (union_term (suc left) deeper) other (no_union other i)

      pub levels : Viable (level left inner) (level (suc left) deeper) F
      unfolding level
      levels = then_part {G = F} _ _ query_terms (λ x. mapped _ (rows (behind_it (lexeme.Word word.Union) union_terms union_starts no_union) none_there))
          (λ x. mapped_starts _ (rows_start (behind_it (lexeme.Word word.Union) union_terms union_starts no_union) none_there)) (λ x other i. i) (λ other i. i)

      pub levels_eat : Eats (level left inner)
      unfolding level
      levels_eat = eats_first _ _ {F = F} terms_eat (λ x. mapped _ (rows (behind_it (lexeme.Word word.Union) union_terms union_starts no_union) none_there))

close_no_union : Not (Begins closing) (lexeme.Word word.Union)
close_no_union = not_begun closing (lexeme.Word word.Union) (λ ts. refl)

inner_begun : (left : ℕ) → Begun (inside (suc left)) (Begins closing) (lexeme.Word word.Select)
unfolding inside
inner_begun left = level_begins left (inside left) close_cond close_no_union

inner_queries : (left : ℕ) → Viable (inside left) (inside (suc left)) (Begins closing)
unfolding inside
inner_queries zero = never
inner_queries (suc left) = levels left (inner_queries left) (inner_begun left) close_cond close_no_union

module _ (left : ℕ) {F : Tokens → Type 0} (closes : AfterCond F) (no_union : Not F (lexeme.Word word.Union)) where
  pub queries : Viable (query left) (query (suc left)) F
  queries = levels left (inner_queries left) (inner_begun left) closes no_union

  pub queries_eat : Eats (query left)
  queries_eat = levels_eat left (inner_queries left) (inner_begun left) closes no_union

pub query_begun : (l : ℕ) {F : Tokens → Type 0} → AfterCond F → Not F (lexeme.Word word.Union) → Begun (query l) F (lexeme.Word word.Select)
query_begun l closes no_union = level_begins l (inside l) closes no_union
