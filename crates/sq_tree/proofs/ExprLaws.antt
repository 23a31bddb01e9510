-- The tokens and the depth of one level of a value expression, from its parts.
use Rattle.std.proofs.Common.{◌≡◌, ℕ, ◌+◌, max, List, [], ◌∷◌, ◌++◌, Option, refl, sym, ◌∙◌, ap, map, subst}
use Rattle.std.specs.List.{flat_map}
use Rattle.std.proofs.lemmas.List.Folds.{flat_map-map}
use Rattle.sq_lex.specs.declared.lexeme.Lexeme.TheVariants as lexeme
use Rattle.sq_lex.specs.declared.symbol.Symbol.TheVariants as symbol
use Rattle.sq_lex.specs.declared.word.Word.TheVariants as word
use Rattle.sq_lex.specs.declared.number.Number.{Number}
use Rattle.sq_tree.specs.Tree.{optional, bracketed}
use Rattle.sq_tree.proofs.TreeDepth.{greatest}
use Rattle.sq_tree.specs.Names.{parameter_tokens, column_reference_tokens}
use Rattle.sq_tree.specs.Expr.{expr_tokens, added_tokens, term_tokens, scaled_tokens, factor_tokens, primary_tokens, sign_token, sign_tokens, times_token, function_token, quantifier_tokens}
use Rattle.sq_tree.proofs.ExprDepth.{expr_depth, added_depth, term_depth, scaled_depth, factor_depth, primary_depth}
use Rattle.sq_tree.specs.declared.names.Parameter.{Parameter}
use Rattle.sq_tree.specs.declared.names.ColumnReference.{ColumnReference}
use Rattle.sq_tree.specs.declared.expr.Sign.{Sign}
use Rattle.sq_tree.specs.declared.expr.SetFunction.{SetFunction}
use Rattle.sq_tree.specs.declared.expr.SetQuantifier.{SetQuantifier}
use Rattle.sq_tree.specs.declared.expr.Expr.{Expr, out-Expr, fold_out-Expr, roll-Expr, out-roll-Expr}
use Rattle.sq_tree.specs.declared.expr.Term.{Term, out-Term, fold_out-Term, roll-Term, out-roll-Term}
use Rattle.sq_tree.specs.declared.expr.Added.{Added, out-Added, fold_out-Added, roll-Added, out-roll-Added}
use Rattle.sq_tree.specs.declared.expr.Scaled.{Scaled, fold_out-Scaled}
use Rattle.sq_tree.specs.declared.expr.Factor.{Factor, fold_out-Factor}
use Rattle.sq_tree.specs.declared.expr.Primary.{Primary, Primary-F, fold-roll-Primary, out-Primary, roll-Primary, roll-out-Primary}
use Rattle.sq_tree.specs.declared.expr.Primary.TheVariants as primary
use Rattle.sq_tree.specs.declared.expr.Primary.TheOpen as layer

pub expr_tokens-out : (e : Expr) → expr_tokens e ≡ term_tokens (out-Expr e).first ++ flat_map added_tokens (out-Expr e).rest
unfolding expr_tokens added_tokens term_tokens
expr_tokens-out e = fold_out-Expr _ _ _ _ _ _ _ _ _ _ _ _ e ∙ ap (λ ts. term_tokens (out-Expr e).first ++ ts) (flat_map-map (λ x. x) added_tokens (out-Expr e).rest)

pub term_tokens-out : (t : Term) → term_tokens t ≡ factor_tokens (out-Term t).first ++ flat_map scaled_tokens (out-Term t).rest
unfolding term_tokens scaled_tokens factor_tokens
term_tokens-out t = fold_out-Term _ _ _ _ _ _ _ _ _ _ _ _ t ∙ ap (λ ts. factor_tokens (out-Term t).first ++ ts) (flat_map-map (λ x. x) scaled_tokens (out-Term t).rest)

pub added_tokens-out : (a : Added) → added_tokens a ≡ sign_token (out-Added a).sign ∷ term_tokens (out-Added a).term
unfolding added_tokens term_tokens
added_tokens-out a = fold_out-Added _ _ _ _ _ _ _ _ _ _ _ _ a

pub scaled_tokens-out : (s : Scaled) → scaled_tokens s ≡ times_token s.sign ∷ factor_tokens s.factor
unfolding scaled_tokens factor_tokens
scaled_tokens-out s = fold_out-Scaled _ _ _ _ _ _ _ _ _ _ _ _ s

pub factor_tokens-out : (f : Factor) → factor_tokens f ≡ optional sign_tokens f.sign ++ primary_tokens f.primary
unfolding factor_tokens primary_tokens
factor_tokens-out f = fold_out-Factor _ _ _ _ _ _ _ _ _ _ _ _ f

pub primary_tokens-Number : (n : Number) → primary_tokens (primary.Number n) ≡ lexeme.Number n ∷ []
unfolding primary_tokens
primary_tokens-Number n = ap primary_tokens (sym (primary.rolls-Number n)) ∙ fold-roll-Primary _ _ _ _ _ _ _ _ _ _ _ _ (layer.Number n)

pub primary_tokens-Text : (characters : List ℕ) → primary_tokens (primary.Text characters) ≡ lexeme.Text characters ∷ []
unfolding primary_tokens
primary_tokens-Text characters = ap primary_tokens (sym (primary.rolls-Text characters)) ∙ fold-roll-Primary _ _ _ _ _ _ _ _ _ _ _ _ (layer.Text characters)

pub primary_tokens-Parameter : (p : Parameter) → primary_tokens (primary.Parameter p) ≡ parameter_tokens p
unfolding primary_tokens
primary_tokens-Parameter p = ap primary_tokens (sym (primary.rolls-Parameter p)) ∙ fold-roll-Primary _ _ _ _ _ _ _ _ _ _ _ _ (layer.Parameter p)

pub primary_tokens-User : primary_tokens primary.User ≡ lexeme.Word word.User ∷ []
unfolding primary_tokens
primary_tokens-User = ap primary_tokens (sym primary.rolls-User) ∙ fold-roll-Primary _ _ _ _ _ _ _ _ _ _ _ _ layer.User

pub primary_tokens-Column : (c : ColumnReference) → primary_tokens (primary.Column c) ≡ column_reference_tokens c
unfolding primary_tokens
primary_tokens-Column c = ap primary_tokens (sym (primary.rolls-Column c)) ∙ fold-roll-Primary _ _ _ _ _ _ _ _ _ _ _ _ (layer.Column c)

pub primary_tokens-CountRows : primary_tokens primary.CountRows ≡ lexeme.Word word.Count ∷ bracketed (lexeme.Symbol symbol.Star ∷ [])
unfolding primary_tokens
primary_tokens-CountRows = ap primary_tokens (sym primary.rolls-CountRows) ∙ fold-roll-Primary _ _ _ _ _ _ _ _ _ _ _ _ layer.CountRows

pub primary_tokens-SetFunction : (f : SetFunction) (q : Option SetQuantifier) (e : Expr) → primary_tokens (primary.SetFunction f q e) ≡ function_token f ∷ bracketed (optional quantifier_tokens q ++ expr_tokens e)
unfolding primary_tokens expr_tokens
primary_tokens-SetFunction f q e = ap primary_tokens (sym (primary.rolls-SetFunction f q e)) ∙ fold-roll-Primary _ _ _ _ _ _ _ _ _ _ _ _ (layer.SetFunction f q e)

pub primary_tokens-Bracketed : (e : Expr) → primary_tokens (primary.Bracketed e) ≡ bracketed (expr_tokens e)
unfolding primary_tokens expr_tokens
primary_tokens-Bracketed e = ap primary_tokens (sym (primary.rolls-Bracketed e)) ∙ fold-roll-Primary _ _ _ _ _ _ _ _ _ _ _ _ (layer.Bracketed e)

pub expr_depth-out : (e : Expr) → expr_depth e ≡ max (term_depth (out-Expr e).first) (greatest (map added_depth (out-Expr e).rest))
unfolding expr_depth added_depth term_depth
expr_depth-out e = fold_out-Expr _ _ _ _ _ _ _ _ _ _ _ _ e

pub term_depth-out : (t : Term) → term_depth t ≡ max (factor_depth (out-Term t).first) (greatest (map scaled_depth (out-Term t).rest))
unfolding term_depth scaled_depth factor_depth
term_depth-out t = fold_out-Term _ _ _ _ _ _ _ _ _ _ _ _ t

pub added_depth-out : (a : Added) → added_depth a ≡ term_depth (out-Added a).term
unfolding added_depth term_depth
added_depth-out a = fold_out-Added _ _ _ _ _ _ _ _ _ _ _ _ a

pub scaled_depth-out : (s : Scaled) → scaled_depth s ≡ factor_depth s.factor
unfolding scaled_depth factor_depth
scaled_depth-out s = fold_out-Scaled _ _ _ _ _ _ _ _ _ _ _ _ s

pub factor_depth-out : (f : Factor) → factor_depth f ≡ primary_depth f.primary
unfolding factor_depth primary_depth
factor_depth-out f = fold_out-Factor _ _ _ _ _ _ _ _ _ _ _ _ f

pub primary_depth-Number : (n : Number) → primary_depth (primary.Number n) ≡ 0
unfolding primary_depth
primary_depth-Number n = ap primary_depth (sym (primary.rolls-Number n)) ∙ fold-roll-Primary _ _ _ _ _ _ _ _ _ _ _ _ (layer.Number n)

pub primary_depth-Text : (characters : List ℕ) → primary_depth (primary.Text characters) ≡ 0
unfolding primary_depth
primary_depth-Text characters = ap primary_depth (sym (primary.rolls-Text characters)) ∙ fold-roll-Primary _ _ _ _ _ _ _ _ _ _ _ _ (layer.Text characters)

pub primary_depth-Parameter : (p : Parameter) → primary_depth (primary.Parameter p) ≡ 0
unfolding primary_depth
primary_depth-Parameter p = ap primary_depth (sym (primary.rolls-Parameter p)) ∙ fold-roll-Primary _ _ _ _ _ _ _ _ _ _ _ _ (layer.Parameter p)

pub primary_depth-User : primary_depth primary.User ≡ 0
unfolding primary_depth
primary_depth-User = ap primary_depth (sym primary.rolls-User) ∙ fold-roll-Primary _ _ _ _ _ _ _ _ _ _ _ _ layer.User

pub primary_depth-Column : (c : ColumnReference) → primary_depth (primary.Column c) ≡ 0
unfolding primary_depth
primary_depth-Column c = ap primary_depth (sym (primary.rolls-Column c)) ∙ fold-roll-Primary _ _ _ _ _ _ _ _ _ _ _ _ (layer.Column c)

pub primary_depth-CountRows : primary_depth primary.CountRows ≡ 1
unfolding primary_depth
primary_depth-CountRows = ap primary_depth (sym primary.rolls-CountRows) ∙ fold-roll-Primary _ _ _ _ _ _ _ _ _ _ _ _ layer.CountRows

pub primary_depth-SetFunction : (f : SetFunction) (q : Option SetQuantifier) (e : Expr) → primary_depth (primary.SetFunction f q e) ≡ expr_depth e + 1
unfolding primary_depth expr_depth
primary_depth-SetFunction f q e = ap primary_depth (sym (primary.rolls-SetFunction f q e)) ∙ fold-roll-Primary _ _ _ _ _ _ _ _ _ _ _ _ (layer.SetFunction f q e)

pub primary_depth-Bracketed : (e : Expr) → primary_depth (primary.Bracketed e) ≡ expr_depth e + 1
unfolding primary_depth expr_depth
primary_depth-Bracketed e = ap primary_depth (sym (primary.rolls-Bracketed e)) ∙ fold-roll-Primary _ _ _ _ _ _ _ _ _ _ _ _ (layer.Bracketed e)

pub ruleset expr_tokens_levels = (expr_tokens-out, term_tokens-out, added_tokens-out, scaled_tokens-out, factor_tokens-out, primary_tokens-Number, primary_tokens-Text, primary_tokens-Parameter, primary_tokens-User, primary_tokens-Column, primary_tokens-CountRows, primary_tokens-SetFunction, primary_tokens-Bracketed)

pub ruleset expr_depth_levels = (expr_depth-out, term_depth-out, added_depth-out, scaled_depth-out, factor_depth-out, primary_depth-Number, primary_depth-Text, primary_depth-Parameter, primary_depth-User, primary_depth-Column, primary_depth-CountRows, primary_depth-SetFunction, primary_depth-Bracketed)

-- The tokens and depths of a tree that is put together from its parts.

pub expr_tokens-roll : (t : Term) (rest : List Added) → expr_tokens (roll-Expr (record { first = t; rest = rest })) ≡ term_tokens t ++ flat_map added_tokens rest
expr_tokens-roll t rest = expr_tokens-out _ ∙ rw out-roll-Expr refl

pub term_tokens-roll : (f : Factor) (rest : List Scaled) → term_tokens (roll-Term (record { first = f; rest = rest })) ≡ factor_tokens f ++ flat_map scaled_tokens rest
term_tokens-roll f rest = term_tokens-out _ ∙ rw out-roll-Term refl

pub added_tokens-roll : (s : Sign) (t : Term) → added_tokens (roll-Added (record { sign = s; term = t })) ≡ sign_token s ∷ term_tokens t
added_tokens-roll s t = added_tokens-out _ ∙ rw out-roll-Added refl

pub expr_depth-roll : (t : Term) (rest : List Added) → expr_depth (roll-Expr (record { first = t; rest = rest })) ≡ max (term_depth t) (greatest (map added_depth rest))
expr_depth-roll t rest = expr_depth-out _ ∙ rw out-roll-Expr refl

pub term_depth-roll : (f : Factor) (rest : List Scaled) → term_depth (roll-Term (record { first = f; rest = rest })) ≡ max (factor_depth f) (greatest (map scaled_depth rest))
term_depth-roll f rest = term_depth-out _ ∙ rw out-roll-Term refl

pub added_depth-roll : (s : Sign) (t : Term) → added_depth (roll-Added (record { sign = s; term = t })) ≡ term_depth t
added_depth-roll s t = added_depth-out _ ∙ rw out-roll-Added refl

-- What holds of each kind of primary holds of all.
pub primary_cases : (P : Primary → Type 0)
    → ((n : Number) → P (primary.Number n))
    → ((characters : List ℕ) → P (primary.Text characters))
    → ((p : Parameter) → P (primary.Parameter p))
    → P primary.User
    → ((c : ColumnReference) → P (primary.Column c))
    → P primary.CountRows
    → ((f : SetFunction) (q : Option SetQuantifier) (e : Expr) → P (primary.SetFunction f q e))
    → ((e : Expr) → P (primary.Bracketed e))
    → (p : Primary) → P p
primary_cases P number text parameter user column rows function bracket p = subst P (roll-out-Primary p) (go (out-Primary p))
  where
    go : (x : Primary-F Primary Added Expr Factor Scaled Term) → P (roll-Primary x)
    go (layer.Number n) = subst P (sym (primary.rolls-Number n)) (number n)
    go (layer.Text characters) = subst P (sym (primary.rolls-Text characters)) (text characters)
    go (layer.Parameter p) = subst P (sym (primary.rolls-Parameter p)) (parameter p)
    go layer.User = subst P (sym primary.rolls-User) user
    go (layer.Column c) = subst P (sym (primary.rolls-Column c)) (column c)
    go layer.CountRows = subst P (sym primary.rolls-CountRows) rows
    go (layer.SetFunction f q e) = subst P (sym (primary.rolls-SetFunction f q e)) (function f q e)
    go (layer.Bracketed e) = subst P (sym (primary.rolls-Bracketed e)) (bracket e)
