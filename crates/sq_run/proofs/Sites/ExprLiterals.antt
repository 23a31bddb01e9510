-- No literal of a value expression that a text spells is the null value (ISO/IEC 9075:1992, 5.3).
use Rattle.std.proofs.Common.{List, [], ◌∷◌, Option, Some, None, map, subst, sym}
use Rattle.std.specs.Prelude.{fold}
use Rattle.sq_tree.specs.declared.expr.Added.{Added, Added-F, map-Added, roll-Added}
use Rattle.sq_tree.specs.declared.expr.Expr.{Expr as SpelledExpr, Expr-F, ind-Expr, map-Expr, roll-Expr}
use Rattle.sq_tree.specs.declared.expr.Factor.{Factor, Factor-F, map-Factor, roll-Factor}
use Rattle.sq_tree.specs.declared.expr.Primary.{Primary, Primary-F, map-Primary, roll-Primary}
use Rattle.sq_tree.specs.declared.expr.Primary.TheOpen as layer
use Rattle.sq_tree.specs.declared.expr.Primary.TheVariants as primary
use Rattle.sq_tree.specs.declared.expr.Scaled.{Scaled, Scaled-F, map-Scaled, roll-Scaled}
use Rattle.sq_tree.specs.declared.expr.Sign.{Sign}
use Rattle.sq_tree.specs.declared.expr.Term.{Term, Term-F, map-Term, roll-Term}
use Rattle.sq_tree.specs.declared.expr.TimesSign.{TimesSign}
use Rattle.sq_meaning.specs.Spelled.{Named, added_of, expr_of, factor_of, primary_of, scaled_of, term_of, with_sign_if}
use Rattle.sq_meaning.specs.Syntax.{Expr, added, scaled}
use Rattle.sq_meaning.proofs.SpelledLevels.{added_of-roll, expr_of-roll, factor_of-out, primary_of-Bracketed, primary_of-Column, primary_of-CountRows, primary_of-Number, primary_of-Parameter, primary_of-SetFunction, primary_of-Text, primary_of-User, scaled_of-out, term_of-roll}
use Rattle.sq_run.proofs.Sites.ExpressionSites.{SpellsNoNull}

abbrev OfPrimary : Primary → Type 0
OfPrimary p = SpellsNoNull (primary_of p)

abbrev OfAdded : Added → Type 0
OfAdded a = SpellsNoNull (added_of a).1

abbrev OfExpr : SpelledExpr → Type 0
OfExpr e = SpellsNoNull (expr_of e)

abbrev OfFactor : Factor → Type 0
OfFactor f = SpellsNoNull (factor_of f)

abbrev OfScaled : Scaled → Type 0
OfScaled s = SpellsNoNull (scaled_of s).1

abbrev OfTerm : Term → Type 0
OfTerm t = SpellsNoNull (term_of t)

-- each part with a proof beside it
abbrev P : Type 0
P = (p : Primary) × OfPrimary p

abbrev A : Type 0
A = (a : Added) × OfAdded a

abbrev E : Type 0
E = (e : SpelledExpr) × OfExpr e

abbrev F : Type 0
F = (f : Factor) × OfFactor f

abbrev S : Type 0
S = (s : Scaled) × OfScaled s

abbrev T : Type 0
T = (t : Term) × OfTerm t

sum_spells : (left : Expr Named) → SpellsNoNull left → (rest : List A) → SpellsNoNull (fold (λ l s. added s.0 l s.1) left (map added_of (map (λ e. e.0) rest)))
sum_spells left h [] = h
sum_spells left h (a ∷ rest) = sum_spells (added (added_of a.0).0 left (added_of a.0).1) (h, a.1) rest

product_spells : (left : Expr Named) → SpellsNoNull left → (rest : List S) → SpellsNoNull (fold (λ l s. scaled s.0 l s.1) left (map scaled_of (map (λ e. e.0) rest)))
product_spells left h [] = h
product_spells left h (s ∷ rest) = product_spells (scaled (scaled_of s.0).0 left (scaled_of s.0).1) (h, s.1) rest

signed_spells : (sign : Option Sign) (e : Expr Named) → SpellsNoNull e → SpellsNoNull (with_sign_if sign e)
signed_spells None e h = h
signed_spells (Some s) e h = h

primary_step : (y : Primary-F P A E F S T) → OfPrimary (roll-Primary (map-Primary P A E F S T Primary Added SpelledExpr Factor Scaled Term (λ e. e.0) (λ e. e.0) (λ e. e.0) (λ e. e.0) (λ e. e.0) (λ e. e.0) y))
primary_step (layer.Number k) = subst OfPrimary (sym (primary.rolls-Number k)) (subst SpellsNoNull (sym (primary_of-Number k)) tt)
primary_step (layer.Text characters) = subst OfPrimary (sym (primary.rolls-Text characters)) (subst SpellsNoNull (sym (primary_of-Text characters)) tt)
primary_step (layer.Parameter p) = subst OfPrimary (sym (primary.rolls-Parameter p)) (subst SpellsNoNull (sym (primary_of-Parameter p)) tt)
primary_step layer.User = subst OfPrimary (sym primary.rolls-User) (subst SpellsNoNull (sym primary_of-User) tt)
primary_step (layer.Column c) = subst OfPrimary (sym (primary.rolls-Column c)) (subst SpellsNoNull (sym (primary_of-Column c)) tt)
primary_step layer.CountRows = subst OfPrimary (sym primary.rolls-CountRows) (subst SpellsNoNull (sym primary_of-CountRows) tt)
primary_step (layer.SetFunction f q e) = subst OfPrimary (sym (primary.rolls-SetFunction f q e.0)) (subst SpellsNoNull (sym (primary_of-SetFunction f q e.0)) e.1)
primary_step (layer.Bracketed e) = subst OfPrimary (sym (primary.rolls-Bracketed e.0)) (subst SpellsNoNull (sym (primary_of-Bracketed e.0)) e.1)

added_step : (y : Added-F P A E F S T) → OfAdded (roll-Added (map-Added P A E F S T Primary Added SpelledExpr Factor Scaled Term (λ e. e.0) (λ e. e.0) (λ e. e.0) (λ e. e.0) (λ e. e.0) (λ e. e.0) y))
added_step y = subst (λ (s : Sign × Expr Named). SpellsNoNull s.1) (sym (added_of-roll y.sign y.term.0)) y.term.1

expr_step : (y : Expr-F P A E F S T) → OfExpr (roll-Expr (map-Expr P A E F S T Primary Added SpelledExpr Factor Scaled Term (λ e. e.0) (λ e. e.0) (λ e. e.0) (λ e. e.0) (λ e. e.0) (λ e. e.0) y))
expr_step y = subst SpellsNoNull (sym (expr_of-roll y.first.0 (map (λ e. e.0) y.rest))) (sum_spells (term_of y.first.0) y.first.1 y.rest)

factor_step : (y : Factor-F P A E F S T) → OfFactor (roll-Factor (map-Factor P A E F S T Primary Added SpelledExpr Factor Scaled Term (λ e. e.0) (λ e. e.0) (λ e. e.0) (λ e. e.0) (λ e. e.0) (λ e. e.0) y))
factor_step y = subst SpellsNoNull (sym (factor_of-out (record { sign = y.sign; primary = y.primary.0 }))) (signed_spells y.sign (primary_of y.primary.0) y.primary.1)

scaled_step : (y : Scaled-F P A E F S T) → OfScaled (roll-Scaled (map-Scaled P A E F S T Primary Added SpelledExpr Factor Scaled Term (λ e. e.0) (λ e. e.0) (λ e. e.0) (λ e. e.0) (λ e. e.0) (λ e. e.0) y))
scaled_step y = subst (λ (s : TimesSign × Expr Named). SpellsNoNull s.1) (sym (scaled_of-out (record { sign = y.sign; factor = y.factor.0 }))) y.factor.1

term_step : (y : Term-F P A E F S T) → OfTerm (roll-Term (map-Term P A E F S T Primary Added SpelledExpr Factor Scaled Term (λ e. e.0) (λ e. e.0) (λ e. e.0) (λ e. e.0) (λ e. e.0) (λ e. e.0) y))
term_step y = subst SpellsNoNull (sym (term_of-roll y.first.0 (map (λ e. e.0) y.rest))) (product_spells (factor_of y.first.0) y.first.1 y.rest)

-- no literal of a spelled expression is the null value
pub expr_spells : (e : SpelledExpr) → SpellsNoNull (expr_of e)
expr_spells e = ind-Expr OfPrimary OfAdded OfExpr OfFactor OfScaled OfTerm
    (λ x y is. subst (λ z. OfPrimary (roll-Primary z)) is (primary_step y))
    (λ x y is. subst (λ z. OfAdded (roll-Added z)) is (added_step y))
    (λ x y is. subst (λ z. OfExpr (roll-Expr z)) is (expr_step y))
    (λ x y is. subst (λ z. OfFactor (roll-Factor z)) is (factor_step y))
    (λ x y is. subst (λ z. OfScaled (roll-Scaled z)) is (scaled_step y))
    (λ x y is. subst (λ z. OfTerm (roll-Term z)) is (term_step y))
    e
