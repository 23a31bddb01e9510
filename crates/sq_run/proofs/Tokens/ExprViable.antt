-- Value expressions and data types: what is read of one is the beginning of one.
use Rattle.std.proofs.Common.{◌≡◌, ℕ, zero, suc, true, false, [], ◌++◌, Option, Some, None, Ok, refl, inl, inr, codes}
use Rattle.sq_lex.specs.declared.lexeme.Lexeme.{Lexeme}
use Rattle.sq_lex.specs.declared.lexeme.Lexeme.TheVariants as lexeme
use Rattle.sq_lex.specs.declared.symbol.Symbol.TheVariants as symbol
use Rattle.sq_lex.specs.declared.word.Word.TheVariants as word
use Rattle.sq_lex.specs.declared.name.Name.{Name}
use Rattle.sq_tree.specs.declared.expr.Expr.{Expr}
use Rattle.sq_tree.specs.declared.expr.TimesSign.{TimesSign}
use Rattle.sq_tree.specs.declared.expr.Sign.{Sign}
use Rattle.sq_tree.specs.declared.expr.Primary.{Primary}
use Rattle.sq_tree.specs.declared.expr.Primary.TheVariants as primary
use Rattle.sq_tree.specs.declared.expr.SetFunction.{SetFunction}
use Rattle.sq_tree.specs.declared.expr.SetFunction.TheVariants as function
use Rattle.sq_grammar.specs.Reading.{Tokens, Parser, ◌>>=◌, pure, eat, sees, one_if_any, name_of, number_of, text_of, all}
use Rattle.sq_grammar.specs.Names.{sign_if_any}
use Rattle.sq_grammar.specs.Expr.{times_if_any, quantifier_if_any, function_of, star_of, close, argument_of, set_function, bracketed, by_function, by_user, by_colon, by_name, by_text, by_number, primary_at, factor, scaled_by, scaled_factor, term, added_by, added_term, level, level_from, inside, expr, expr_from}
use Rattle.sq_grammar.proofs.Reading.Many.{all-none}
use Rattle.sq_grammar.proofs.Ends.Follows.{EndsExpr, ends_expr}
use Rattle.sq_run.proofs.Tokens.Viable.{Any, Begins, Begun, Blank, Eats, Not, Starts, Viable, begun, blank, blanks, done, done_starts, eats_expect, eats_first, eats_if_comes, eats_if_one, eats_next, from, if_begun, if_comes, if_one, mapped, mapped_starts, must, must_starts, never, never_eats, not_begun, not_starts, one_starts, opening, opening_starts, rows, rows_start, starts_with, then_part, then_some}
use Rattle.sq_run.proofs.Tokens.NamesViable.{closing, column_blank, column_tails, digit_sign_blank, digit_signs, one_digit, parameter_tail_begun, parameter_tails, signs}

-- what may follow an expression
abbrev pub AfterExpr : (Tokens → Type 0) → Type 0
AfterExpr F = (other : Tokens) → F other → EndsExpr other

pub close_after : AfterExpr (Begins closing)
close_after = if_begun EndsExpr closing (λ ts. ends_expr _ refl)

module _ {F : Tokens → Type 0} (no_all : Not F (lexeme.Word word.All)) (no_distinct : Not F (lexeme.Word word.Distinct)) where
  pub quantifiers : Viable quantifier_if_any quantifier_if_any F
  quantifiers = if_comes _ _ _ (inl no_all) done done_starts (if_comes _ _ _ (inl no_distinct) done done_starts done)

  pub quantifier_blank : Blank quantifier_if_any F
  quantifier_blank = blanks (not_starts (lexeme.Word word.All) _ (not_starts (lexeme.Word word.Distinct) _ done_starts no_distinct) no_all) refl

digit_quantifiers : Viable quantifier_if_any quantifier_if_any (Begins one_digit)
digit_quantifiers = quantifiers (not_begun one_digit (lexeme.Word word.All) (λ ts. refl)) (not_begun one_digit (lexeme.Word word.Distinct) (λ ts. refl))

digit_quantifier_blank : Blank quantifier_if_any (Begins one_digit)
digit_quantifier_blank = quantifier_blank (not_begun one_digit (lexeme.Word word.All) (λ ts. refl)) (not_begun one_digit (lexeme.Word word.Distinct) (λ ts. refl))

-- neither of two tokens comes
abbrev Neither : Lexeme → Lexeme → Tokens → Type 0
Neither t u ts = (sees t ts ≡ false) × (sees u ts ≡ false)

-- ---- starts: a digit

module _ (left : ℕ) (inner : Parser Expr) {F : Tokens → Type 0} where
  primary_begun : Begun (primary_at left inner) F one_digit
  unfolding primary_at
  primary_begun = begun one_digit _ (one_starts number_of (by_number left inner) one_digit (codes "1") refl done_starts) refl

  factor_begun : Begun (factor left inner) F one_digit
  unfolding factor
  factor_begun = begun one_digit _ (starts_with {G = Begins one_digit} _ (blank digit_sign_blank) (mapped_starts _ (from primary_begun)) (λ other i. (_, refl))) refl

  module _ (after : AfterExpr F) where
    plain_times : (other : Tokens) → F other → Neither (lexeme.Symbol symbol.Star) (lexeme.Symbol symbol.Slash) other
    plain_times other i = ((after other i).term.star, (after other i).term.slash)

    pub no_scaled : (other : Tokens) → F other → scaled_factor left inner other ≡ Ok (None, other)
    unfolding scaled_factor
    no_scaled other i =
        let k : Starts times_if_any (Neither (lexeme.Symbol symbol.Star) (lexeme.Symbol symbol.Slash)) =
        not_starts (lexeme.Symbol symbol.Star) _ (not_starts (lexeme.Symbol symbol.Slash) _ done_starts (λ ts n. n.1)) (λ ts n. n.0) in
        (starts_with {F = F} {G = Neither (lexeme.Symbol symbol.Star) (lexeme.Symbol symbol.Slash)} (scaled_by left inner) k done_starts plain_times).reads other i

    plain_signs : (other : Tokens) → F other → Neither (lexeme.Symbol symbol.Plus) (lexeme.Symbol symbol.Minus) other
    plain_signs other i = ((after other i).plus, (after other i).minus)

    pub no_added : (other : Tokens) → F other → added_term left inner other ≡ Ok (None, other)
    unfolding added_term
    no_added other i =
        let k : Starts sign_if_any (Neither (lexeme.Symbol symbol.Plus) (lexeme.Symbol symbol.Minus)) =
        not_starts (lexeme.Symbol symbol.Plus) _ (not_starts (lexeme.Symbol symbol.Minus) _ done_starts (λ ts n. n.1)) (λ ts n. n.0) in
        (starts_with {F = F} {G = Neither (lexeme.Symbol symbol.Plus) (lexeme.Symbol symbol.Minus)} (added_by left inner) k done_starts plain_signs).reads other i

    none_scaled : (other : Tokens) → F other → all (scaled_factor left inner) other ≡ Ok ([], other)
    none_scaled other i = all-none (scaled_factor left inner) other other (no_scaled other i)

    none_added : (other : Tokens) → F other → all (added_term left inner) other ≡ Ok ([], other)
    none_added other i = all-none (added_term left inner) other other (no_added other i)

    term_begun : Begun (term left inner) F one_digit
    unfolding term
    term_begun = begun one_digit _ (starts_with {F = F} {G = F} _ (from factor_begun) (mapped_starts _ (record { more = []; value = []; reads = none_scaled })) (λ other i. i)) refl

    pub level_begun : Begun (level left inner) F one_digit
    unfolding level
    level_begun = begun one_digit _ (starts_with {F = F} {G = F} _ (from term_begun) (mapped_starts _ (record { more = []; value = []; reads = none_added })) (λ other i. i)) refl

module _ (left : ℕ) {inner deeper : Parser Expr} (h : Viable inner deeper (Begins closing)) (k : Begun deeper (Begins closing) one_digit) where
  -- an expression and the bracket behind it
  module _ {A : Type 0} (f : Expr → A) {F : Tokens → Type 0} where
    pub closed : Viable (inner >>= λ e. close >>= λ u. pure (f e)) (deeper >>= λ e. close >>= λ u. pure (f e)) F
    closed = then_some {G = Begins closing} _ _ h (λ e. must closing (λ ts. refl) done done_starts) (λ e. must_starts closing (λ ts. refl) done_starts) (λ e other i. (other, refl)) (λ e. eats_first _ _ {F = Any} (eats_expect closing) (λ u. done))

    closed_begun : Begun (deeper >>= λ e. close >>= λ u. pure (f e)) F one_digit
    closed_begun = begun one_digit _ (starts_with {G = Begins closing} _ (from k) (must_starts closing (λ ts. refl) done_starts) (λ other i. (other, refl))) refl

  closed_eats : {A : Type 0} (f : Expr → A) → Eats (inner >>= λ e. close >>= λ u. pure (f e))
  closed_eats f = eats_next _ h (λ e. eats_first _ _ {F = Any} (eats_expect closing) (λ u. done))

  module _ {F : Tokens → Type 0} where
    arguments : (f : SetFunction) → Viable (argument_of left inner f false) (argument_of (suc left) deeper f false) F
    arguments f = then_some {G = Begins one_digit} _ _ digit_quantifiers (λ q. closed _) (λ q. from (closed_begun _)) (λ q other i. (_, refl)) (λ q. closed_eats _)

    abbrev argument_start : (f : SetFunction) → Starts (argument_of (suc left) deeper f false) F
    argument_start f = starts_with {G = Begins one_digit} _ (blank digit_quantifier_blank) (from (closed_begun _)) (λ other i. (_, refl))

  argument_eats : (f : SetFunction) → Eats (argument_of left inner f false)
  argument_eats f = eats_next _ digit_quantifiers (λ q. closed_eats _)

  module _ {F : Tokens → Type 0} where
    starred : (f : SetFunction) → Viable (star_of f >>= argument_of left inner f) (star_of f >>= argument_of (suc left) deeper f) F
    starred function.Count = if_comes (lexeme.Symbol symbol.Star) _ _ (inr (argument_eats function.Count)) (must closing (λ ts. refl) done done_starts) (must_starts closing (λ ts. refl) done_starts) (arguments function.Count)
    starred function.Sum = arguments function.Sum
    starred function.Avg = arguments function.Avg
    starred function.Min = arguments function.Min
    starred function.Max = arguments function.Max

    starred_starts : (f : SetFunction) → Starts (star_of f >>= argument_of (suc left) deeper f) F
    starred_starts function.Count = not_starts (lexeme.Symbol symbol.Star) _ (argument_start function.Count) (λ other i. refl)
    starred_starts function.Sum = argument_start function.Sum
    starred_starts function.Avg = argument_start function.Avg
    starred_starts function.Min = argument_start function.Min
    starred_starts function.Max = argument_start function.Max

    set_functions : (f : SetFunction) → Viable (set_function left inner f) (set_function (suc left) deeper f) F
    unfolding set_function
    set_functions f = then_part {G = Any} _ _ (opening left) (λ u. starred f) (λ u. starred_starts f) (λ u other i. tt) (λ other i. tt)

    set_starts : (f : SetFunction) → Starts (set_function (suc left) deeper f) F
    unfolding set_function
    set_starts f = starts_with {G = Any} _ (opening_starts left) (starred_starts f) (λ other i. tt)

    brackets : Viable (bracketed left inner) (bracketed (suc left) deeper) F
    unfolding bracketed
    brackets = then_part {G = Any} _ _ (opening left) (λ u. closed primary.Bracketed) (λ u. from (closed_begun primary.Bracketed)) (λ u other i. tt) (λ other i. tt)

  brackets_eat : Eats (bracketed left inner)
  unfolding bracketed
  brackets_eat = eats_next _ (opening left {F = Any}) (λ u. closed_eats primary.Bracketed)

  functions_eat : Eats (one_if_any function_of >>= by_function left inner)
  functions_eat = eats_if_one function_of (by_function left inner) (by_function (suc left) deeper) {F = Any} brackets_eat set_functions

  words_eat : Eats (eat (lexeme.Word word.User) >>= by_user left inner)
  words_eat = eats_if_comes (lexeme.Word word.User) (by_user left inner) (by_user (suc left) deeper) {F = Any} functions_eat done

  module _ {F : Tokens → Type 0} (after : AfterExpr F) where
    no_dot : Not F (lexeme.Symbol symbol.Dot)
    no_dot other i = (after other i).term.factor.dot

    no_colon : Not F (lexeme.Symbol symbol.Colon)
    no_colon other i = (after other i).term.factor.colon

    no_indicator : Not F (lexeme.Word word.Indicator)
    no_indicator other i = (after other i).term.factor.indicator

    words : Viable (eat (lexeme.Word word.User) >>= by_user left inner) (eat (lexeme.Word word.User) >>= by_user (suc left) deeper) F
    words = if_comes (lexeme.Word word.User) (by_user left inner) (by_user (suc left) deeper) (inr functions_eat) done done_starts (if_one function_of (by_function left inner) (by_function (suc left) deeper) (inr brackets_eat) set_functions set_starts brackets)

    parameters_of : Viable (by_colon left inner true) (by_colon (suc left) deeper true) F
    parameters_of = mapped _ (parameter_tails no_indicator no_colon)

    symbols_eat : Eats (eat (lexeme.Symbol symbol.Colon) >>= by_colon left inner)
    symbols_eat = eats_if_comes (lexeme.Symbol symbol.Colon) (by_colon left inner) (by_colon (suc left) deeper) words_eat parameters_of

    columns_of : (n : Name) → Viable (by_name left inner (Some n)) (by_name (suc left) deeper (Some n)) F
    columns_of n = mapped _ (column_tails no_dot n)

    names_eat : Eats (one_if_any name_of >>= by_name left inner)
    names_eat = eats_if_one name_of (by_name left inner) (by_name (suc left) deeper) symbols_eat columns_of

    texts_eat : Eats (one_if_any text_of >>= by_text left inner)
    texts_eat = eats_if_one text_of (by_text left inner) (by_text (suc left) deeper) {F = F} names_eat (λ cs. done)

    pub primary_eats : Eats (primary_at left inner)
    unfolding primary_at
    primary_eats = eats_if_one number_of (by_number left inner) (by_number (suc left) deeper) {F = F} texts_eat (λ n. done)

    primaries : Viable (primary_at left inner) (primary_at (suc left) deeper) F
    unfolding primary_at
    primaries =
        if_one number_of (by_number left inner) (by_number (suc left) deeper) (inr texts_eat) (λ n. done) (λ n. done_starts)
        (if_one text_of (by_text left inner) (by_text (suc left) deeper) (inr names_eat) (λ cs. done) (λ cs. done_starts)
        (if_one name_of (by_name left inner) (by_name (suc left) deeper) (inr symbols_eat) columns_of (λ n. mapped_starts _ (blank (column_blank no_dot n)))
        (if_comes (lexeme.Symbol symbol.Colon) (by_colon left inner) (by_colon (suc left) deeper) (inr words_eat) parameters_of (mapped_starts _ (from (parameter_tail_begun no_indicator no_colon))) words)))

    factors : Viable (factor left inner) (factor (suc left) deeper) F
    unfolding factor
    factors = then_some {G = Begins one_digit} _ _ digit_signs (λ s. mapped _ primaries) (λ s. mapped_starts _ (from (primary_begun (suc left) deeper))) (λ s other i. (_, refl)) (λ s. eats_first _ _ {F = Any} primary_eats (λ p. done))

    factors_eat : Eats (factor left inner)
    unfolding factor
    factors_eat = eats_next _ digit_signs (λ s. eats_first _ _ {F = Any} primary_eats (λ p. done))

    by_scaled : (o : Option TimesSign) → Viable (scaled_by left inner o) (scaled_by (suc left) deeper o) F
    by_scaled None = done
    by_scaled (Some t) = mapped _ factors

    by_scaled_starts : (o : Option TimesSign) → Starts (scaled_by (suc left) deeper o) F
    by_scaled_starts None = done_starts
    by_scaled_starts (Some t) = mapped_starts _ (from (factor_begun (suc left) deeper))

    scaled_joins : (o : Option TimesSign) (other : Tokens) → F other → Neither (lexeme.Symbol symbol.Star) (lexeme.Symbol symbol.Slash) ((by_scaled_starts o).more ++ other)
    unfolding by_scaled_starts
    scaled_joins None other i = plain_times left inner after other i
    scaled_joins (Some t) other i = (refl, refl)

    pub scales : Viable (scaled_factor left inner) (scaled_factor (suc left) deeper) F
    unfolding scaled_factor
    scales = then_part {G = Neither (lexeme.Symbol symbol.Star) (lexeme.Symbol symbol.Slash)} _ _
        (if_comes _ _ _ (inl (λ ts n. n.0)) done done_starts (if_comes _ _ _ (inl (λ ts n. n.1)) done done_starts done))
        by_scaled by_scaled_starts scaled_joins (plain_times left inner after)

    terms : Viable (term left inner) (term (suc left) deeper) F
    unfolding term
    terms = then_part {G = F} _ _ factors (λ x. mapped _ (rows scales (no_scaled (suc left) deeper after))) (λ x. mapped_starts _ (rows_start scales (no_scaled (suc left) deeper after))) (λ x other i. i) (λ other i. i)

    terms_eat : Eats (term left inner)
    unfolding term
    terms_eat = eats_first _ _ {F = F} factors_eat (λ x. mapped _ (rows scales (no_scaled (suc left) deeper after)))

    by_added : (o : Option Sign) → Viable (added_by left inner o) (added_by (suc left) deeper o) F
    by_added None = done
    by_added (Some t) = mapped _ terms

    by_added_starts : (o : Option Sign) → Starts (added_by (suc left) deeper o) F
    by_added_starts None = done_starts
    by_added_starts (Some t) = mapped_starts _ (from (term_begun (suc left) deeper after))

    added_joins : (o : Option Sign) (other : Tokens) → F other → Neither (lexeme.Symbol symbol.Plus) (lexeme.Symbol symbol.Minus) ((by_added_starts o).more ++ other)
    unfolding by_added_starts
    added_joins None other i = plain_signs left inner after other i
    added_joins (Some t) other i = (refl, refl)

    pub adds : Viable (added_term left inner) (added_term (suc left) deeper) F
    unfolding added_term
    adds = then_part {G = Neither (lexeme.Symbol symbol.Plus) (lexeme.Symbol symbol.Minus)} _ _ (signs (λ ts n. n.0) (λ ts n. n.1)) by_added by_added_starts added_joins (plain_signs left inner after)

    pub levels : Viable (level left inner) (level (suc left) deeper) F
    unfolding level
    levels = then_part {G = F} _ _ terms (λ x. mapped _ (rows adds (no_added (suc left) deeper after))) (λ x. mapped_starts _ (rows_start adds (no_added (suc left) deeper after))) (λ x other i. i) (λ other i. i)

    pub levels_eat : Eats (level left inner)
    unfolding level
    levels_eat = eats_first _ _ {F = F} terms_eat (λ x. mapped _ (rows adds (no_added (suc left) deeper after)))

    pub levels_from : (p : Primary) → Viable (level_from left inner p) (level_from (suc left) deeper p) F
    unfolding level_from
    levels_from p = then_part {G = F} _ _ (rows scales (no_scaled (suc left) deeper after)) (λ xs. mapped _ (rows adds (no_added (suc left) deeper after))) (λ xs. mapped_starts _ (rows_start adds (no_added (suc left) deeper after))) (λ xs other i. i) (λ other i. i)

    pub level_from_blank : (p : Primary) → Blank (level_from (suc left) deeper p) F
    unfolding level_from
    level_from_blank p = blanks (starts_with {G = F} _ (rows_start scales (no_scaled (suc left) deeper after)) (mapped_starts _ (rows_start adds (no_added (suc left) deeper after))) (λ other i. i)) refl

pub inner_begun : (left : ℕ) {F : Tokens → Type 0} → AfterExpr F → Begun (inside (suc left)) F one_digit
unfolding inside
inner_begun left after = level_begun left (inside left) after

pub inner_exprs : (left : ℕ) {F : Tokens → Type 0} → AfterExpr F → Viable (inside left) (inside (suc left)) F
unfolding inside
inner_exprs zero after = never
inner_exprs (suc left) after = levels left (inner_exprs left close_after) (inner_begun left close_after) after

module _ (left : ℕ) {F : Tokens → Type 0} (after : AfterExpr F) where
  pub exprs : Viable (expr left) (expr (suc left)) F
  exprs = levels left (inner_exprs left close_after) (inner_begun left close_after) after

  pub expr_begun : Begun (expr left) F one_digit
  expr_begun = level_begun left (inside left) after

pub exprs_eat : (left : ℕ) → Eats (expr left)
exprs_eat left = levels_eat left (inner_exprs left close_after) (inner_begun left close_after) close_after

pub inner_exprs_eat : (left : ℕ) → Eats (inside left)
unfolding inside
inner_exprs_eat zero = never_eats
inner_exprs_eat (suc left) = exprs_eat left

pub exprs_from : (left : ℕ) (p : Primary) {F : Tokens → Type 0} → AfterExpr F → Viable (expr_from left p) (expr_from (suc left) p) F
exprs_from left p after = levels_from left (inner_exprs left close_after) (inner_begun left close_after) after p

-- an expression whose first bracket is read
pub expr_rests : (left : ℕ) (p : Primary) {F : Tokens → Type 0} → AfterExpr F → Blank (expr_from (suc left) p) F
expr_rests left p after = level_from_blank left (inner_exprs left close_after) (inner_begun left close_after) after p
