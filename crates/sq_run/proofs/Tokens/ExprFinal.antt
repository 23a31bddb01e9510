-- Value expressions: their readings are final.
use Rattle.sq_run.proofs.Tokens.Final.{Final, bind, done, never, by_bool, by_option, eaten, expected, opening, or_token, if_comes, if_one, rows}
use Rattle.std.proofs.Common.{ℕ, zero, suc}
use Rattle.sq_tree.specs.declared.expr.SetFunction.{SetFunction}
use Rattle.sq_tree.specs.declared.expr.SetFunction.TheVariants as function
use Rattle.sq_tree.specs.declared.expr.Primary.{Primary}
use Rattle.sq_tree.specs.declared.expr.Expr.{Expr}
use Rattle.sq_grammar.specs.Reading.{Parser, number_of, text_of, name_of}
use Rattle.sq_grammar.specs.Expr.{quantifier_if_any, function_of, star_of, close, argument_of, set_function, bracketed, by_function, by_user, by_colon, by_name, by_text, by_number, primary_at, factor, scaled_by, scaled_factor, term, added_by, added_term, level, level_from, inside, expr, expr_from}
use Rattle.sq_run.proofs.Tokens.NamesFinal.{column_tails, parameter_tails, signs}

pub quantifiers : Final quantifier_if_any
quantifiers = or_token _ _ (or_token _ _ done)

pub closed : Final close
closed = expected _

stars : (f : SetFunction) → Final (star_of f)
stars function.Count = eaten _
stars function.Sum = done
stars function.Avg = done
stars function.Min = done
stars function.Max = done

module _ (left : ℕ) {inner : Parser Expr} (h : Final inner) where
  set_functions : (f : SetFunction) → Final (set_function left inner f)
  unfolding set_function
  set_functions f = bind (opening left) (λ u. bind (stars f) (by_bool (argument_of left inner f)
      (bind closed (λ v. done))
      (bind quantifiers (λ q. bind h (λ e. bind closed (λ v. done))))))

  bracketed_expr : Final (bracketed left inner)
  unfolding bracketed
  bracketed_expr = bind (opening left) (λ u. bind h (λ e. bind closed (λ v. done)))

  pub primaries : Final (primary_at left inner)
  unfolding primary_at
  primaries =
      if_one number_of (by_number left inner)
      (if_one text_of (by_text left inner)
      (if_one name_of (by_name left inner)
      (if_comes _ (by_colon left inner) (bind parameter_tails (λ p. done))
      (if_comes _ (by_user left inner) done (if_one function_of (by_function left inner) bracketed_expr set_functions)))
      (λ n. bind (column_tails n) (λ c. done)))
      (λ characters. done))
      (λ n. done)

  pub factors : Final (factor left inner)
  unfolding factor
  factors = bind signs (λ sign. bind primaries (λ p. done))

  pub scales : Final (scaled_factor left inner)
  unfolding scaled_factor
  scales = bind (or_token _ _ (or_token _ _ done)) (by_option (scaled_by left inner) done (λ sign. bind factors (λ f. done)))

  pub terms : Final (term left inner)
  unfolding term
  terms = bind factors (λ first. bind (rows _ scales) (λ others. done))

  pub adds : Final (added_term left inner)
  unfolding added_term
  adds = bind signs (by_option (added_by left inner) done (λ sign. bind terms (λ t. done)))

  pub levels : Final (level left inner)
  unfolding level
  levels = bind terms (λ first. bind (rows _ adds) (λ others. done))

  pub levels_from : (p : Primary) → Final (level_from left inner p)
  unfolding level_from
  levels_from p = bind (rows _ scales) (λ xs. bind (rows _ adds) (λ ys. done))

pub inner_exprs : (left : ℕ) → Final (inside left)
unfolding inside
inner_exprs zero = never
inner_exprs (suc left) = levels left (inner_exprs left)

pub exprs : (left : ℕ) → Final (expr left)
exprs left = levels left (inner_exprs left)

pub exprs_from : (left : ℕ) (p : Primary) → Final (expr_from left p)
exprs_from left = levels_from left (inner_exprs left)
