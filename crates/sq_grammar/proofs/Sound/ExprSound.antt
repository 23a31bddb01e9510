-- Value expressions are spelled by what was read.
use Rattle.std.proofs.Common.{◌≡◌, ℕ, zero, suc, ◌+◌, max, false, List, [], ◌∷◌, ◌++◌, map, Some, None, refl, ◌∙◌, ap, arith}
use Rattle.std.specs.List.{flat_map}
use Rattle.sq_lex.specs.declared.lexeme.Lexeme.{Lexeme}
use Rattle.sq_lex.specs.declared.lexeme.Lexeme.TheVariants as lexeme
use Rattle.sq_lex.specs.declared.symbol.Symbol.TheVariants as symbol
use Rattle.sq_lex.specs.declared.word.Word.TheVariants as word
use Rattle.sq_tree.specs.declared.expr.SetFunction.{SetFunction}
use Rattle.sq_tree.specs.declared.expr.SetFunction.TheVariants as function
use Rattle.sq_tree.specs.declared.expr.SetQuantifier.TheVariants.{All, Distinct}
use Rattle.sq_tree.specs.declared.expr.TimesSign.TheVariants.{Times, Over}
use Rattle.sq_tree.specs.declared.expr.Primary.{Primary}
use Rattle.sq_tree.specs.declared.expr.Primary.TheVariants as primary
use Rattle.sq_tree.specs.declared.expr.Expr.{Expr, roll-Expr}
use Rattle.sq_tree.specs.declared.expr.Term.{roll-Term}
use Rattle.sq_tree.specs.declared.expr.Added.{Added, roll-Added}
use Rattle.sq_tree.specs.declared.expr.Scaled.{Scaled}
use Rattle.sq_tree.specs.Tree.{optional}
use Rattle.sq_tree.proofs.TreeDepth.{optional_depth, greatest}
use Rattle.sq_tree.specs.Expr.{times_token, quantifier_tokens, function_token, primary_tokens, factor_tokens, scaled_tokens, term_tokens, added_tokens, expr_tokens}
use Rattle.sq_tree.proofs.ExprDepth.{primary_depth, factor_depth, scaled_depth, term_depth, added_depth, expr_depth}
use Rattle.sq_tree.proofs.ExprLaws as law
use Rattle.sq_grammar.specs.Reading.{Parser, one_if_any, number_of, text_of, name_of, all}
use Rattle.sq_grammar.specs.Names.{sign_if_any, column_from, parameter_from}
use Rattle.sq_grammar.specs.Expr.{times_if_any, quantifier_if_any, function_of, argument_of, set_function, bracketed, primary_at, factor, scaled_factor, term, added_term, level, level_from, inside, expr, expr_from}
use Rattle.sq_grammar.proofs.Sound.Spells.{Sound, After, sound, unsound, built, andthen, eaten, expected, openly, maybe, following, a_number, a_text, a_name, rows, one_maybe, some_is, raised}
use Rattle.sq_grammar.proofs.Sound.NamesSound.{signs, columns_behind, parameters_behind}

times : (left : ℕ) → Sound times_if_any (optional (λ s. times_token s ∷ [])) (λ _. 0) left
times left = sound (eaten (lexeme.Symbol symbol.Star) _
    (built (Some Times) _ _ refl (λ h. omega arith))
    (eaten (lexeme.Symbol symbol.Slash) _
    (built (Some Over) _ _ refl (λ h. omega arith))
    (built None _ _ refl (λ h. omega arith))))

pub quantifiers : (left : ℕ) → Sound quantifier_if_any (optional quantifier_tokens) (λ _. 0) left
quantifiers left = sound (eaten (lexeme.Word word.All) _
    (built (Some All) _ _ refl (λ h. omega arith))
    (eaten (lexeme.Word word.Distinct) _
    (built (Some Distinct) _ _ refl (λ h. omega arith))
    (built None _ _ refl (λ h. omega arith))))

function_is : (t : Lexeme) (f : SetFunction) → function_of t ≡ Some f → t ≡ function_token f
function_is (lexeme.Word word.Count) f e = ap function_token (some_is function.Count f e)
function_is (lexeme.Word word.Sum) f e = ap function_token (some_is function.Sum f e)
function_is (lexeme.Word word.Avg) f e = ap function_token (some_is function.Avg f e)
function_is (lexeme.Word word.Min) f e = ap function_token (some_is function.Min f e)
function_is (lexeme.Word word.Max) f e = ap function_token (some_is function.Max f e)
function_is _ f e = cc

module _ (left : ℕ) (inner : Parser Expr) (s : Sound inner expr_tokens (λ e. expr_depth e + 1) left) where
  argument_sound : (f : SetFunction) → After (function_token f ∷ lexeme.Symbol symbol.Open ∷ []) 0 left (argument_of left inner f false) primary_tokens primary_depth
  argument_sound f = andthen quantifier_if_any _ (quantifiers left) (λ q. andthen inner _ s (λ e. expected (lexeme.Symbol symbol.Close) _
      (built (primary.SetFunction f q e) _ _ (law.primary_tokens-SetFunction f q e) (λ h. rw (law.primary_depth-SetFunction f q e) (omega arith)))))

  function_sound : (f : SetFunction) → After (function_token f ∷ []) 0 left (set_function left inner f) primary_tokens primary_depth
  unfolding set_function
  function_sound function.Count = openly left _ (λ room. eaten (lexeme.Symbol symbol.Star) _
      (expected (lexeme.Symbol symbol.Close) _ (built primary.CountRows _ _ law.primary_tokens-CountRows (λ h. rw law.primary_depth-CountRows (omega arith))))
      (argument_sound function.Count))
  function_sound function.Sum = openly left _ (λ room. argument_sound function.Sum)
  function_sound function.Avg = openly left _ (λ room. argument_sound function.Avg)
  function_sound function.Min = openly left _ (λ room. argument_sound function.Min)
  function_sound function.Max = openly left _ (λ room. argument_sound function.Max)

  bracketed_sound : Sound (bracketed left inner) primary_tokens primary_depth left
  unfolding bracketed
  bracketed_sound = sound (openly left _ (λ room. andthen inner _ s (λ e. expected (lexeme.Symbol symbol.Close) _
      (built (primary.Bracketed e) _ _ (law.primary_tokens-Bracketed e) (λ h. rw (law.primary_depth-Bracketed e) (omega arith))))))

  primary_sound : Sound (primary_at left inner) primary_tokens primary_depth left
  unfolding primary_at
  primary_sound = sound (maybe (one_if_any number_of) _ (a_number left)
      (maybe (one_if_any text_of) _ (a_text left)
      (maybe (one_if_any name_of) _ (a_name left)
      (eaten (lexeme.Symbol symbol.Colon) _
      (following parameter_from _ (parameters_behind left) (λ p. built (primary.Parameter p) _ _ (law.primary_tokens-Parameter p) (λ h. rw (law.primary_depth-Parameter p) (omega arith))))
      (eaten (lexeme.Word word.User) _
      (built primary.User _ _ law.primary_tokens-User (λ h. rw law.primary_depth-User (omega arith)))
      (maybe (one_if_any function_of) _ (one_maybe function_of function_token function_is left)
      (unsound bracketed_sound)
      (λ f. function_sound f))))
      (λ n. following (column_from n) _ (columns_behind n left) (λ c. built (primary.Column c) _ _ (law.primary_tokens-Column c) (λ h. rw (law.primary_depth-Column c) (omega arith)))))
      (λ characters. built (primary.Text characters) _ _ (law.primary_tokens-Text characters) (λ h. rw (law.primary_depth-Text characters) (omega arith))))
      (λ n. built (primary.Number n) _ _ (law.primary_tokens-Number n) (λ h. rw (law.primary_depth-Number n) (omega arith))))

  factor_sound : Sound (factor left inner) factor_tokens factor_depth left
  unfolding factor
  factor_sound = sound (andthen sign_if_any _ (signs left) (λ sign. andthen (primary_at left inner) _ primary_sound (λ p.
      built (record { sign = sign; primary = p }) _ _ (law.factor_tokens-out _) (λ h. rw (law.factor_depth-out (record { sign = sign; primary = p })) (omega arith)))))

  scaled_sound : Sound (scaled_factor left inner) (optional scaled_tokens) (optional_depth scaled_depth) left
  unfolding scaled_factor
  scaled_sound = sound (maybe times_if_any _ (times left)
      (built None _ _ refl (λ h. omega arith))
      (λ sign. andthen (factor left inner) _ factor_sound (λ f. built (Some (record { sign = sign; factor = f })) _ _ (law.scaled_tokens-out _) (λ h. rw (law.scaled_depth-out (record { sign = sign; factor = f })) (omega arith)))))

  all_scaled_sound : Sound (all (scaled_factor left inner)) (flat_map scaled_tokens) (λ xs. greatest (map scaled_depth xs)) left
  all_scaled_sound = rows (scaled_factor left inner) scaled_tokens scaled_depth left scaled_sound

  term_sound : Sound (term left inner) term_tokens term_depth left
  unfolding term
  term_sound = sound (andthen (factor left inner) _ factor_sound (λ first. andthen (all (scaled_factor left inner)) _ all_scaled_sound (λ more.
      built (roll-Term (record { first = first; rest = more })) _ _ (law.term_tokens-roll first more) (λ h. rw (law.term_depth-roll first more) (omega arith)))))

  added_sound : Sound (added_term left inner) (optional added_tokens) (optional_depth added_depth) left
  unfolding added_term
  added_sound = sound (maybe sign_if_any _ (signs left)
      (built None _ _ refl (λ h. omega arith))
      (λ sign. andthen (term left inner) _ term_sound (λ t. built (Some (roll-Added (record { sign = sign; term = t }))) _ _ (law.added_tokens-roll sign t) (λ h. rw (law.added_depth-roll sign t) (omega arith)))))

  all_added_sound : Sound (all (added_term left inner)) (flat_map added_tokens) (λ xs. greatest (map added_depth xs)) left
  all_added_sound = rows (added_term left inner) added_tokens added_depth left added_sound

  pub level_sound : Sound (level left inner) expr_tokens expr_depth left
  unfolding level
  level_sound = sound (andthen (term left inner) _ term_sound (λ first. andthen (all (added_term left inner)) _ all_added_sound (λ more.
      built (roll-Expr (record { first = first; rest = more })) _ _ (law.expr_tokens-roll first more) (λ h. rw (law.expr_depth-roll first more) (omega arith)))))

  abbrev from : Primary → List Scaled → List Added → Expr
  from p xs ys = roll-Expr (record { first = roll-Term (record { first = record { sign = None; primary = p }; rest = xs }); rest = ys })

  from_tokens : (p : Primary) (xs : List Scaled) (ys : List Added) → expr_tokens (from p xs ys) ≡ (primary_tokens p ++ flat_map scaled_tokens xs) ++ flat_map added_tokens ys
  from_tokens p xs ys = law.expr_tokens-roll _ ys ∙ ap (λ u. u ++ flat_map added_tokens ys) (law.term_tokens-roll _ xs ∙ ap (λ u. u ++ flat_map scaled_tokens xs) (law.factor_tokens-out _))

  from_depth : (p : Primary) (xs : List Scaled) (ys : List Added) → expr_depth (from p xs ys) ≡ max (max (primary_depth p) (greatest (map scaled_depth xs))) (greatest (map added_depth ys))
  from_depth p xs ys = law.expr_depth-roll _ ys ∙ ap (λ u. max u (greatest (map added_depth ys))) (law.term_depth-roll _ xs ∙ ap (λ u. max u (greatest (map scaled_depth xs))) (law.factor_depth-out _))

  pub level_from_sound : (p : Primary) → After (primary_tokens p) (primary_depth p) left (level_from left inner p) expr_tokens expr_depth
  unfolding level_from
  level_from_sound p = andthen (all (scaled_factor left inner)) _ all_scaled_sound (λ xs. andthen (all (added_term left inner)) _ all_added_sound (λ ys.
      built (from p xs ys) _ _ (from_tokens p xs ys) (λ h. rw (from_depth p xs ys) (omega arith))))

pub inside_sound : (left : ℕ) → Sound (inside left) expr_tokens (λ e. expr_depth e + 1) left
unfolding inside
inside_sound zero = record { spells = λ ts x rest e. cc }
inside_sound (suc left) = raised left (level_sound left (inside left) (inside_sound left))

pub expr_sound : (left : ℕ) → Sound (expr left) expr_tokens expr_depth left
expr_sound left = level_sound left (inside left) (inside_sound left)

pub expr_from_sound : (left : ℕ) (p : Primary) → After (primary_tokens p) (primary_depth p) left (expr_from left p) expr_tokens expr_depth
expr_from_sound left p = level_from_sound left (inside left) (inside_sound left) p
