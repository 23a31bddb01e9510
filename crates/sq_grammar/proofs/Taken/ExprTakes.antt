-- The tokens of a value expression are read as it.
use Rattle.std.proofs.Common.{◌≡◌, ℕ, zero, suc, ◌<◌, max, false, List, [], ◌∷◌, ◌++◌, length, map, Option, Some, None, Ok, refl, ap, arith, append_assoc}
use Rattle.std.specs.List.{flat_map}
use Rattle.sq_lex.specs.declared.lexeme.Lexeme.TheVariants as lexeme
use Rattle.sq_lex.specs.declared.symbol.Symbol.TheVariants as symbol
use Rattle.sq_lex.specs.declared.word.Word.{Word}
use Rattle.sq_lex.specs.declared.word.Word.TheVariants as word
use Rattle.sq_lex.specs.Word.{same_word}
use Rattle.sq_lex.specs.declared.name.Name.{Name}
use Rattle.sq_lex.specs.declared.number.Number.{Number}
use Rattle.sq_tree.specs.declared.names.ColumnReference.{ColumnReference}
use Rattle.sq_tree.specs.declared.names.Parameter.{Parameter}
use Rattle.sq_tree.specs.declared.expr.Sign.{Sign}
use Rattle.sq_tree.specs.declared.expr.Sign.TheVariants.{Plus, Minus}
use Rattle.sq_tree.specs.declared.expr.SetFunction.{SetFunction}
use Rattle.sq_tree.specs.declared.expr.SetFunction.TheVariants as function
use Rattle.sq_tree.specs.declared.expr.SetQuantifier.{SetQuantifier}
use Rattle.sq_tree.specs.declared.expr.SetQuantifier.TheVariants.{All, Distinct}
use Rattle.sq_tree.specs.declared.expr.TimesSign.{TimesSign}
use Rattle.sq_tree.specs.declared.expr.TimesSign.TheVariants.{Times, Over}
use Rattle.sq_tree.specs.declared.expr.Primary.{Primary}
use Rattle.sq_tree.specs.declared.expr.Primary.TheVariants as primary
use Rattle.sq_tree.specs.declared.expr.Expr.{Expr, out-Expr, roll-Expr, roll-out-Expr}
use Rattle.sq_tree.specs.declared.expr.Term.{Term, out-Term, roll-Term, roll-out-Term}
use Rattle.sq_tree.specs.declared.expr.Added.{Added, out-Added, roll-out-Added}
use Rattle.sq_tree.specs.declared.expr.Scaled.{Scaled}
use Rattle.sq_tree.specs.declared.expr.Factor.{Factor}
use Rattle.sq_tree.specs.Tree.{optional, bracketed}
use Rattle.sq_tree.proofs.TreeDepth.{greatest}
use Rattle.sq_tree.specs.Names.{column_reference_tokens}
use Rattle.sq_tree.specs.Expr.{sign_token, sign_tokens, times_token, quantifier_tokens, function_token, primary_tokens, factor_tokens, scaled_tokens, term_tokens, added_tokens, expr_tokens}
use Rattle.sq_tree.proofs.ExprDepth.{primary_depth, factor_depth, scaled_depth, term_depth, added_depth, expr_depth}
use Rattle.sq_tree.proofs.ExprLaws as law
use Rattle.sq_tree.proofs.ExprLaws.{primary_cases}
use Rattle.sq_grammar.specs.Reading.{Tokens, Parser, sees, number_of, text_of, name_of, all, pure}
use Rattle.sq_grammar.specs.Names.{sign_if_any, column_from, parameter_from}
use Rattle.sq_grammar.specs.Expr.{times_if_any, quantifier_if_any, function_of, argument_of, set_function, primary_at, factor, scaled_factor, term, added_term, level, level_from, inside, expr, expr_from}
use Rattle.sq_grammar.specs.Expr as spec
use Rattle.sq_grammar.proofs.Taken.Takes.{Takes, done, fits, lifted, andthen, plainly, mapped, word, mark, closing, expected, eaten, uneaten, met, unmet, openly, rows, follows}
use Rattle.sq_grammar.proofs.Taken.NamesTakes.{a_colon, column_cases, column_1, column_2, column_3, column_from_1, column_from_2, column_from_3, parameter_from_takes, sign_takes}
use Rattle.sq_grammar.proofs.Ends.Follows.{EndsFactor, EndsTerm, EndsExpr, ends_expr}

-- "*" | "/"
pub times_takes : (s : TimesSign) {a left : ℕ} {rest : Tokens} → Takes times_if_any (times_token s ∷ []) a a 0 left (Some s) rest
times_takes Times = eaten (mark symbol.Star (λ n. refl)) _ done
times_takes Over = uneaten (lexeme.Symbol symbol.Star) _ refl (eaten (mark symbol.Slash (λ n. refl)) _ done)

no_times : {a left : ℕ} {rest : Tokens} → sees (lexeme.Symbol symbol.Star) rest ≡ false → sees (lexeme.Symbol symbol.Slash) rest ≡ false → Takes times_if_any [] a a 0 left None rest
no_times no_star no_slash = uneaten (lexeme.Symbol symbol.Star) _ no_star (uneaten (lexeme.Symbol symbol.Slash) _ no_slash done)

-- [ ALL | DISTINCT ]
pub quantifier_takes : (q : Option SetQuantifier) {a left : ℕ} {rest : Tokens} → sees (lexeme.Word word.All) rest ≡ false → sees (lexeme.Word word.Distinct) rest ≡ false → Takes quantifier_if_any (optional quantifier_tokens q) a a 0 left q rest
quantifier_takes None no_all no_distinct = uneaten (lexeme.Word word.All) _ no_all (uneaten (lexeme.Word word.Distinct) _ no_distinct done)
quantifier_takes (Some All) no_all no_distinct = eaten (word word.All) _ done
quantifier_takes (Some Distinct) no_all no_distinct = uneaten (lexeme.Word word.All) _ refl (eaten (word word.Distinct) _ done)

-- ---- what an expression begins with

-- What holds of all tokens of which the first may begin a primary, and of an expression's.
pub record StartsPrimary (P : Tokens → Type 0) : Type 0 where
  pub number : (n : Number) (ts : Tokens) → P (lexeme.Number n ∷ ts)
  pub text : (characters : List ℕ) (ts : Tokens) → P (lexeme.Text characters ∷ ts)
  pub colon : (ts : Tokens) → P (lexeme.Symbol symbol.Colon ∷ ts)
  pub user : (ts : Tokens) → P (lexeme.Word word.User ∷ ts)
  pub name : (n : Name) (ts : Tokens) → P (lexeme.Name n ∷ ts)
  pub function : (f : SetFunction) (ts : Tokens) → P (function_token f ∷ ts)
  pub bracket : (e : Expr) (ts : Tokens) → P (lexeme.Symbol symbol.Open ∷ (expr_tokens e ++ ts))

pub record Starts (P : Tokens → Type 0) : Type 0 where
  pub primary : StartsPrimary P
  pub sign : (s : Sign) (ts : Tokens) → P (sign_token s ∷ ts)

module _ (P : Tokens → Type 0) (starts : StartsPrimary P) where
  column_starts : (c : ColumnReference) (rest : Tokens) → P (column_reference_tokens c ++ rest)
  column_starts c rest = column_cases (λ d. P (column_reference_tokens d ++ rest)) (λ n. starts.name n _) (λ t n. starts.name t _) (λ s t n. starts.name s _) c

  pub primary_starts : (p : Primary) (rest : Tokens) → P (primary_tokens p ++ rest)
  primary_starts p rest = primary_cases (λ q. P (primary_tokens q ++ rest))
      (λ n. rw (law.primary_tokens-Number n) (starts.number n rest))
      (λ t. rw (law.primary_tokens-Text t) (starts.text t rest))
      (λ q. rw (law.primary_tokens-Parameter q) (starts.colon _))
      (rw law.primary_tokens-User (starts.user rest))
      (λ c. rw (law.primary_tokens-Column c) (column_starts c rest))
      (rw law.primary_tokens-CountRows (starts.function function.Count _))
      (λ f q e. rw (law.primary_tokens-SetFunction f q e) (starts.function f _))
      (λ e. rw (law.primary_tokens-Bracketed e, append_assoc (expr_tokens e)) (starts.bracket e _)) p

module _ (P : Tokens → Type 0) (starts : Starts P) where
  factor_starts : (f : Factor) (rest : Tokens) → P (factor_tokens f ++ rest)
  factor_starts f rest = rw (law.factor_tokens-out f) (by f.sign f.primary)
    where
      by : (sign : Option Sign) (p : Primary) → P ((optional sign_tokens sign ++ primary_tokens p) ++ rest)
      by None p = primary_starts P starts.primary p rest
      by (Some s) p = starts.sign s _

  term_starts : (t : Term) (rest : Tokens) → P (term_tokens t ++ rest)
  term_starts t rest = rw (law.term_tokens-out t, append_assoc (factor_tokens (out-Term t).first)) (factor_starts (out-Term t).first _)

  pub expr_starts : (e : Expr) (rest : Tokens) → P (expr_tokens e ++ rest)
  expr_starts e rest = rw (law.expr_tokens-out e, append_assoc (term_tokens (out-Expr e).first)) (term_starts (out-Expr e).first _)

function_no_sign : (f : SetFunction) (ts : Tokens) → (sees (lexeme.Symbol symbol.Plus) (function_token f ∷ ts) ≡ false) × (sees (lexeme.Symbol symbol.Minus) (function_token f ∷ ts) ≡ false)
function_no_sign function.Count ts = (refl, refl)
function_no_sign function.Sum ts = (refl, refl)
function_no_sign function.Avg ts = (refl, refl)
function_no_sign function.Min ts = (refl, refl)
function_no_sign function.Max ts = (refl, refl)

-- a primary begins with no sign
primary_no_plus : StartsPrimary (λ ts. sees (lexeme.Symbol symbol.Plus) ts ≡ false)
primary_no_plus = record { number = λ n ts. refl; text = λ t ts. refl; colon = λ ts. refl; user = λ ts. refl; name = λ n ts. refl; function = λ f ts. (function_no_sign f ts).0; bracket = λ e ts. refl }

primary_no_minus : StartsPrimary (λ ts. sees (lexeme.Symbol symbol.Minus) ts ≡ false)
primary_no_minus = record { number = λ n ts. refl; text = λ t ts. refl; colon = λ ts. refl; user = λ ts. refl; name = λ n ts. refl; function = λ f ts. (function_no_sign f ts).1; bracket = λ e ts. refl }

-- A word begins no expression if it is neither USER nor a set function's.
pub foreign : (w : Word) → same_word word.User w ≡ false → same_word word.Count w ≡ false → same_word word.Sum w ≡ false → same_word word.Avg w ≡ false → same_word word.Min w ≡ false → same_word word.Max w ≡ false → Starts (λ ts. sees (lexeme.Word w) ts ≡ false)
foreign w user count sum avg min max = record {
  primary = record { number = λ n ts. refl; text = λ t ts. refl; colon = λ ts. refl; user = λ ts. user; name = λ n ts. refl; function = by; bracket = λ e ts. refl };
  sign = signs;
}
  where
    by : (f : SetFunction) (ts : Tokens) → sees (lexeme.Word w) (function_token f ∷ ts) ≡ false
    by function.Count ts = count
    by function.Sum ts = sum
    by function.Avg ts = avg
    by function.Min ts = min
    by function.Max ts = max

    signs : (s : Sign) (ts : Tokens) → sees (lexeme.Word w) (sign_token s ∷ ts) ≡ false
    signs Plus ts = refl
    signs Minus ts = refl

-- no expression begins with a star
pub no_star : Starts (λ ts. sees (lexeme.Symbol symbol.Star) ts ≡ false)
no_star = record {
  primary = record { number = λ n ts. refl; text = λ t ts. refl; colon = λ ts. refl; user = λ ts. refl; name = λ n ts. refl; function = by; bracket = λ e ts. refl };
  sign = signs;
}
  where
    by : (f : SetFunction) (ts : Tokens) → sees (lexeme.Symbol symbol.Star) (function_token f ∷ ts) ≡ false
    by function.Count ts = refl
    by function.Sum ts = refl
    by function.Avg ts = refl
    by function.Min ts = refl
    by function.Max ts = refl

    signs : (s : Sign) (ts : Tokens) → sees (lexeme.Symbol symbol.Star) (sign_token s ∷ ts) ≡ false
    signs Plus ts = refl
    signs Minus ts = refl

pub not_all : (e : Expr) (rest : Tokens) → sees (lexeme.Word word.All) (expr_tokens e ++ rest) ≡ false
not_all = expr_starts _ (foreign word.All refl refl refl refl refl refl)

pub not_distinct : (e : Expr) (rest : Tokens) → sees (lexeme.Word word.Distinct) (expr_tokens e ++ rest) ≡ false
not_distinct = expr_starts _ (foreign word.Distinct refl refl refl refl refl refl)

pub not_star : (e : Expr) (rest : Tokens) → sees (lexeme.Symbol symbol.Star) (expr_tokens e ++ rest) ≡ false
not_star = expr_starts _ no_star

-- ---- the rules, over what reads behind a bracket

-- a closing bracket ends an expression
pub close_ends : (ts : Tokens) → EndsExpr (lexeme.Symbol symbol.Close ∷ ts)
close_ends ts = ends_expr _ refl

sign_ends : (s : Sign) (ts : Tokens) → EndsTerm (sign_token s ∷ ts)
sign_ends Plus ts = record { factor = record { dot = refl; colon = refl; indicator = refl }; star = refl; slash = refl }
sign_ends Minus ts = record { factor = record { dot = refl; colon = refl; indicator = refl }; star = refl; slash = refl }

times_ends : (s : TimesSign) (ts : Tokens) → EndsFactor (times_token s ∷ ts)
times_ends Times ts = record { dot = refl; colon = refl; indicator = refl }
times_ends Over ts = record { dot = refl; colon = refl; indicator = refl }

module _ (left : ℕ) (inner : Parser Expr) (inner_takes : 0 < left → (e : Expr) (rest : Tokens) → EndsExpr rest → Takes inner (expr_tokens e) 1 1 (suc (expr_depth e)) left e rest) where
  abbrev closing_tokens : Tokens
  closing_tokens = lexeme.Symbol symbol.Close ∷ []

  -- [ ALL | DISTINCT ] expr ")"
  argument_takes : (f : SetFunction) (q : Option SetQuantifier) (e : Expr) (rest : Tokens) → 0 < left → Takes (argument_of left inner f false) (optional quantifier_tokens q ++ (expr_tokens e ++ closing_tokens)) 1 0 (suc (expr_depth e)) left (primary.SetFunction f q e) rest
  argument_takes f q e rest room =
      let rest' : Tokens = closing_tokens ++ rest in
      plainly quantifier_if_any _ q (quantifier_takes q (rw (append_assoc (expr_tokens e) closing_tokens rest) (not_all e rest')) (rw (append_assoc (expr_tokens e) closing_tokens rest) (not_distinct e rest')))
      (fits (λ h. omega arith) (λ h. omega arith) (andthen inner _ e (inner_takes room e rest' (close_ends rest)) (expected closing _ done)))

  function_takes : (f : SetFunction) (q : Option SetQuantifier) (e : Expr) (rest : Tokens) → Takes (set_function left inner f) (lexeme.Symbol symbol.Open ∷ (optional quantifier_tokens q ++ (expr_tokens e ++ closing_tokens))) 0 0 (suc (expr_depth e)) left (primary.SetFunction f q e) rest
  unfolding set_function
  function_takes function.Count q e rest = openly _ (omega arith) (λ room. uneaten (lexeme.Symbol symbol.Star) _ (no_star_first q) (argument_takes function.Count q e rest room))
    where
      no_star_first : (q : Option SetQuantifier) → sees (lexeme.Symbol symbol.Star) ((optional quantifier_tokens q ++ (expr_tokens e ++ closing_tokens)) ++ rest) ≡ false
      no_star_first None = rw (append_assoc (expr_tokens e) closing_tokens rest) (not_star e (closing_tokens ++ rest))
      no_star_first (Some All) = refl
      no_star_first (Some Distinct) = refl
  function_takes function.Sum q e rest = openly _ (omega arith) (λ room. argument_takes function.Sum q e rest room)
  function_takes function.Avg q e rest = openly _ (omega arith) (λ room. argument_takes function.Avg q e rest room)
  function_takes function.Min q e rest = openly _ (omega arith) (λ room. argument_takes function.Min q e rest room)
  function_takes function.Max q e rest = openly _ (omega arith) (λ room. argument_takes function.Max q e rest room)

  count_rows_takes : (rest : Tokens) → Takes (set_function left inner function.Count) (bracketed (lexeme.Symbol symbol.Star ∷ [])) 0 0 1 left primary.CountRows rest
  unfolding set_function
  count_rows_takes rest = openly _ (omega arith) (λ room. fits (λ h. omega arith) (λ h. omega arith) (eaten (mark symbol.Star (λ n. refl)) _ (expected closing _ done)))

  -- the word of a set function comes first
  by_word : (f : SetFunction) {more : Tokens} {d : ℕ} {p : Primary} {rest : Tokens} → Takes (set_function left inner f) more 0 0 d left p rest → Takes (primary_at left inner) (function_token f ∷ more) 0 0 d left p rest
  unfolding primary_at
  by_word function.Count s = unmet number_of _ refl (unmet text_of _ refl (unmet name_of _ refl (uneaten (lexeme.Symbol symbol.Colon) _ refl (uneaten (lexeme.Word word.User) _ refl (met function_of (lexeme.Word word.Count) function.Count refl (λ n. refl) _ s)))))
  by_word function.Sum s = unmet number_of _ refl (unmet text_of _ refl (unmet name_of _ refl (uneaten (lexeme.Symbol symbol.Colon) _ refl (uneaten (lexeme.Word word.User) _ refl (met function_of (lexeme.Word word.Sum) function.Sum refl (λ n. refl) _ s)))))
  by_word function.Avg s = unmet number_of _ refl (unmet text_of _ refl (unmet name_of _ refl (uneaten (lexeme.Symbol symbol.Colon) _ refl (uneaten (lexeme.Word word.User) _ refl (met function_of (lexeme.Word word.Avg) function.Avg refl (λ n. refl) _ s)))))
  by_word function.Min s = unmet number_of _ refl (unmet text_of _ refl (unmet name_of _ refl (uneaten (lexeme.Symbol symbol.Colon) _ refl (uneaten (lexeme.Word word.User) _ refl (met function_of (lexeme.Word word.Min) function.Min refl (λ n. refl) _ s)))))
  by_word function.Max s = unmet number_of _ refl (unmet text_of _ refl (unmet name_of _ refl (uneaten (lexeme.Symbol symbol.Colon) _ refl (uneaten (lexeme.Word word.User) _ refl (met function_of (lexeme.Word word.Max) function.Max refl (λ n. refl) _ s)))))

  -- a name comes first
  by_name : (n : Name) (c : ColumnReference) {more : Tokens} {rest : Tokens} → Takes (column_from n) more 0 0 0 left c rest → Takes (primary_at left inner) (lexeme.Name n ∷ more) 0 0 0 left (primary.Column c) rest
  unfolding primary_at
  by_name n c s = unmet number_of _ refl (unmet text_of _ refl (met name_of (lexeme.Name n) n refl (λ k. refl) _ (mapped (column_from n) _ c s refl)))

  -- a bracket comes first
  bracket_takes : (e : Expr) (rest : Tokens) → Takes (primary_at left inner) (lexeme.Symbol symbol.Open ∷ (expr_tokens e ++ closing_tokens)) 0 0 (suc (expr_depth e)) left (primary.Bracketed e) rest
  unfolding primary_at spec.bracketed
  bracket_takes e rest = unmet number_of _ refl (unmet text_of _ refl (unmet name_of _ refl (uneaten (lexeme.Symbol symbol.Colon) _ refl (uneaten (lexeme.Word word.User) _ refl (unmet function_of _ refl
      (openly _ (omega arith) (λ room. fits (λ h. omega arith) (λ h. omega arith) (andthen inner _ e (inner_takes room e (closing_tokens ++ rest) (close_ends rest)) (expected closing _ done)))))))))

  abbrev PrimaryTakes : Primary → Type 0
  PrimaryTakes p = (rest : Tokens) → EndsFactor rest → Takes (primary_at left inner) (primary_tokens p) 0 0 (primary_depth p) left p rest

  number_takes : (n : Number) → PrimaryTakes (primary.Number n)
  unfolding primary_at
  number_takes n rest ends = rw (law.primary_tokens-Number n, law.primary_depth-Number n) (met number_of (lexeme.Number n) n refl (λ k. refl) _ done)

  text_takes : (t : List ℕ) → PrimaryTakes (primary.Text t)
  unfolding primary_at
  text_takes t rest ends = rw (law.primary_tokens-Text t, law.primary_depth-Text t) (unmet number_of _ refl (met text_of (lexeme.Text t) t refl (λ k. refl) _ done))

  parameter_primary : (p : Parameter) → PrimaryTakes (primary.Parameter p)
  unfolding primary_at
  parameter_primary p rest ends = rw (law.primary_tokens-Parameter p, law.primary_depth-Parameter p) (unmet number_of _ refl (unmet text_of _ refl (unmet name_of _ refl (eaten a_colon _ (mapped parameter_from _ p (parameter_from_takes p ends.indicator ends.colon) refl)))))

  user_takes : PrimaryTakes primary.User
  unfolding primary_at
  user_takes rest ends = rw (law.primary_tokens-User, law.primary_depth-User) (unmet number_of _ refl (unmet text_of _ refl (unmet name_of _ refl (uneaten (lexeme.Symbol symbol.Colon) _ refl (eaten (word word.User) _ done)))))

  column_primary : (c : ColumnReference) → PrimaryTakes (primary.Column c)
  column_primary c rest ends = rw (law.primary_tokens-Column c, law.primary_depth-Column c) (column_cases (λ d. Takes (primary_at left inner) (column_reference_tokens d) 0 0 0 left (primary.Column d) rest)
      (λ n. by_name n (column_1 n) (column_from_1 ends.dot n))
      (λ t n. by_name t (column_2 t n) (column_from_2 ends.dot t n))
      (λ s t n. by_name s (column_3 s t n) (column_from_3 ends.dot s t n)) c)

  pub primary_takes : (p : Primary) → PrimaryTakes p
  primary_takes = primary_cases PrimaryTakes number_takes text_takes parameter_primary user_takes column_primary
      (λ rest ends. rw (law.primary_tokens-CountRows, law.primary_depth-CountRows) (by_word function.Count (count_rows_takes rest)))
      (λ f q e rest ends. rw (law.primary_tokens-SetFunction f q e, law.primary_depth-SetFunction f q e, append_assoc (optional quantifier_tokens q) (expr_tokens e) closing_tokens) (fits (λ h. omega arith) (λ h. omega arith) (by_word f (function_takes f q e rest))))
      (λ e rest ends. rw (law.primary_tokens-Bracketed e, law.primary_depth-Bracketed e) (fits (λ h. omega arith) (λ h. omega arith) (bracket_takes e rest)))

  pub factor_takes : (f : Factor) (rest : Tokens) → EndsFactor rest → Takes (factor left inner) (factor_tokens f) 0 0 (factor_depth f) left f rest
  unfolding factor
  factor_takes f rest ends = rw (law.factor_tokens-out f, law.factor_depth-out f)
      (plainly sign_if_any _ f.sign (sign_takes f.sign (primary_starts _ primary_no_plus f.primary rest) (primary_starts _ primary_no_minus f.primary rest)) (mapped (primary_at left inner) _ f.primary (primary_takes f.primary rest ends) refl))

  -- ( "*" | "/" ) factor
  pub scaled_each : (s : Scaled) (rest : Tokens) → EndsFactor rest → Takes (scaled_factor left inner) (scaled_tokens s) 0 0 (scaled_depth s) left (Some s) rest
  unfolding scaled_factor
  scaled_each s rest ends = rw (law.scaled_tokens-out s, law.scaled_depth-out s) (plainly times_if_any _ (Some s.sign) {tx = times_token s.sign ∷ []} (times_takes s.sign) (mapped (factor left inner) _ s.factor (factor_takes s.factor rest ends) refl))

  scaled_starts : (s : Scaled) (rest : Tokens) → EndsFactor (scaled_tokens s ++ rest)
  scaled_starts s rest = rw (law.scaled_tokens-out s) (times_ends s.sign _)

  scaled_long : (s : Scaled) → 0 < length (scaled_tokens s)
  scaled_long s = rw (law.scaled_tokens-out s) (omega arith)

  no_scaled : (rest : Tokens) → EndsTerm rest → scaled_factor left inner rest ≡ Ok (None, rest)
  unfolding scaled_factor
  no_scaled rest ends =
      let s : Takes (scaled_factor left inner) [] 0 0 0 left None rest = mapped times_if_any _ None (no_times ends.star ends.slash) refl in
      s.taken (omega arith)

  all_scaled : (xs : List Scaled) (rest : Tokens) → EndsTerm rest → Takes (all (scaled_factor left inner)) (flat_map scaled_tokens xs) 0 0 (greatest (map scaled_depth xs)) left xs rest
  all_scaled xs rest ends = rows (scaled_factor left inner) scaled_tokens scaled_depth 0 left EndsFactor scaled_each scaled_starts scaled_long xs rest ends.factor (no_scaled rest ends)

  behind_scaled : (xs : List Scaled) (rest : Tokens) → EndsFactor rest → EndsFactor (flat_map scaled_tokens xs ++ rest)
  behind_scaled = follows (scaled_factor left inner) scaled_tokens scaled_depth 0 left EndsFactor scaled_each scaled_starts scaled_long

  pub term_takes : (t : Term) (rest : Tokens) → EndsTerm rest → Takes (term left inner) (term_tokens t) 0 0 (term_depth t) left t rest
  unfolding term
  term_takes t rest ends =
      let first : Factor = (out-Term t).first in
      let others : List Scaled = (out-Term t).rest in
      rw (law.term_tokens-out t, law.term_depth-out t) (andthen (factor left inner) _ first (factor_takes first _ (behind_scaled others rest ends.factor)) (mapped (all (scaled_factor left inner)) _ others (all_scaled others rest ends) (ap pure (roll-out-Term t))))

  -- ( "+" | "-" ) term
  pub added_each : (s : Added) (rest : Tokens) → EndsTerm rest → Takes (added_term left inner) (added_tokens s) 0 0 (added_depth s) left (Some s) rest
  unfolding added_term
  added_each s rest ends =
      let sign : Sign = (out-Added s).sign in
      let t : Term = (out-Added s).term in
      rw (law.added_tokens-out s, law.added_depth-out s) (plainly sign_if_any _ (Some sign) {tx = sign_token sign ∷ []} (some_sign sign) (mapped (term left inner) _ t (term_takes t rest ends) (ap (λ x. pure (Some x)) (roll-out-Added s))))
    where
      some_sign : (sign : Sign) {more : Tokens} → Takes sign_if_any (sign_token sign ∷ []) 0 0 0 left (Some sign) more
      some_sign Plus = eaten (mark symbol.Plus (λ n. refl)) _ done
      some_sign Minus = uneaten (lexeme.Symbol symbol.Plus) _ refl (eaten (mark symbol.Minus (λ n. refl)) _ done)

  added_starts : (s : Added) (rest : Tokens) → EndsTerm (added_tokens s ++ rest)
  added_starts s rest = rw (law.added_tokens-out s) (sign_ends (out-Added s).sign _)

  added_long : (s : Added) → 0 < length (added_tokens s)
  added_long s = rw (law.added_tokens-out s) (omega arith)

  no_added : (rest : Tokens) → EndsExpr rest → added_term left inner rest ≡ Ok (None, rest)
  unfolding added_term
  no_added rest ends =
      let s : Takes (added_term left inner) [] 0 0 0 left None rest = mapped sign_if_any _ None (sign_takes None ends.plus ends.minus) refl in
      s.taken (omega arith)

  all_added : (xs : List Added) (rest : Tokens) → EndsExpr rest → Takes (all (added_term left inner)) (flat_map added_tokens xs) 0 0 (greatest (map added_depth xs)) left xs rest
  all_added xs rest ends = rows (added_term left inner) added_tokens added_depth 0 left EndsTerm added_each added_starts added_long xs rest ends.term (no_added rest ends)

  behind_added : (xs : List Added) (rest : Tokens) → EndsTerm rest → EndsTerm (flat_map added_tokens xs ++ rest)
  behind_added = follows (added_term left inner) added_tokens added_depth 0 left EndsTerm added_each added_starts added_long

  pub level_takes : (e : Expr) (rest : Tokens) → EndsExpr rest → Takes (level left inner) (expr_tokens e) 0 0 (expr_depth e) left e rest
  unfolding level
  level_takes e rest ends =
      let first : Term = (out-Expr e).first in
      let others : List Added = (out-Expr e).rest in
      rw (law.expr_tokens-out e, law.expr_depth-out e) (andthen (term left inner) _ first (term_takes first _ (behind_added others rest ends.term)) (mapped (all (added_term left inner)) _ others (all_added others rest ends) (ap pure (roll-out-Expr e))))

  -- an expression in its parts
  abbrev pub built : Option Sign → Primary → List Scaled → List Added → Expr
  built s p xs ys = roll-Expr (record { first = roll-Term (record { first = record { sign = s; primary = p }; rest = xs }); rest = ys })

  -- what follows the first primary
  pub level_from_takes : (p : Primary) (xs : List Scaled) (ys : List Added) (rest : Tokens) → EndsExpr rest → Takes (level_from left inner p) (flat_map scaled_tokens xs ++ flat_map added_tokens ys) 0 0 (max (greatest (map scaled_depth xs)) (greatest (map added_depth ys))) left (built None p xs ys) rest
  unfolding level_from
  level_from_takes p xs ys rest ends =
      andthen (all (scaled_factor left inner)) _ xs (all_scaled xs _ (behind_added ys rest ends.term)) (mapped (all (added_term left inner)) _ ys (all_added ys rest ends) refl)

-- behind a bracket that is one of `left`
pub inside_takes : (left : ℕ) (e : Expr) (rest : Tokens) → 0 < left → EndsExpr rest → Takes (inside left) (expr_tokens e) 1 1 (suc (expr_depth e)) left e rest
unfolding inside
inside_takes zero e rest room ends = absurd (omega arith)
inside_takes (suc left) e rest room ends = lifted (level_takes left (inside left) (λ h x r f. inside_takes left x r h f) e rest ends)

pub expr_takes : (left : ℕ) (e : Expr) (rest : Tokens) → EndsExpr rest → Takes (expr left) (expr_tokens e) 0 0 (expr_depth e) left e rest
expr_takes left = level_takes left (inside left) (λ h x r f. inside_takes left x r h f)

pub expr_from_takes : (left : ℕ) (p : Primary) (xs : List Scaled) (ys : List Added) (rest : Tokens) → EndsExpr rest → Takes (expr_from left p) (flat_map scaled_tokens xs ++ flat_map added_tokens ys) 0 0 (max (greatest (map scaled_depth xs)) (greatest (map added_depth ys))) left (roll-Expr (record { first = roll-Term (record { first = record { sign = None; primary = p }; rest = xs }); rest = ys })) rest
expr_from_takes left = level_from_takes left (inside left) (λ h x r f. inside_takes left x r h f)
