-- The name of the column that a select item is, if it is one.
use Rattle.std.proofs.Common.{◌≡◌, true, false, List, [], ◌∷◌, map, Option, Some, None, refl, sym, ap, ◌∙◌}
use Rattle.std.specs.Prelude.{fold}
use Rattle.std.specs.Option.{is_some}
use Rattle.sq_tree.proofs.ExprLaws.{primary_cases}
use Rattle.sq_tree.specs.declared.expr.Added.{Added}
use Rattle.sq_tree.specs.declared.expr.Expr.{Expr as SpelledExpr, out-Expr, roll-out-Expr}
use Rattle.sq_tree.specs.declared.expr.Factor.{Factor}
use Rattle.sq_tree.specs.declared.expr.Primary.{Primary}
use Rattle.sq_tree.specs.declared.expr.Primary.TheVariants as primary
use Rattle.sq_tree.specs.declared.expr.Scaled.{Scaled}
use Rattle.sq_tree.specs.declared.expr.Sign.{Sign}
use Rattle.sq_tree.specs.declared.expr.Term.{Term, out-Term, roll-out-Term}
use Rattle.sq_tree.specs.declared.expr.TimesSign.{TimesSign}
use Rattle.sq_tree.specs.declared.names.ColumnReference.{ColumnReference}
use Rattle.sq_meaning.proofs.SpelledLevels.{expr_of-roll, factor_of-out, primary_of-Bracketed, primary_of-Column, primary_of-CountRows, primary_of-Number, primary_of-Parameter, primary_of-SetFunction, primary_of-Text, primary_of-User, term_of-roll}
use Rattle.sq_meaning.specs.SortKeys.{item_name}
use Rattle.sq_meaning.specs.Spelled.{Named, added_of, expr_of, factor_of, primary_of, scaled_of, term_of, with_sign_if}
use Rattle.sq_meaning.specs.Syntax.{Expr, added, scaled}

-- operands that are joined have no name
joined_unnamed : {S : Type 0} (join : Expr Named → S → Expr Named) → ((left : Expr Named) (s : S) → item_name (join left s) ≡ None) → (left : Expr Named) (first : S) (rest : List S)
    → item_name (fold join left (first ∷ rest)) ≡ None
joined_unnamed join none left first [] = none left first
joined_unnamed join none left first (s ∷ rest) = joined_unnamed join none (join left first) s rest

abbrev sum : Expr Named → Sign × Expr Named → Expr Named
sum left s = added s.0 left s.1

terms_unnamed : (first : Expr Named) (rest : List Added) → (rest ≡ [] → ⊥) → item_name (fold sum first (map added_of rest)) ≡ None
terms_unnamed first [] some = absurd (some refl)
terms_unnamed first (a ∷ rest) some = joined_unnamed sum (λ left s. refl) first (added_of a) (map added_of rest)

pub sum_unnamed : (e : SpelledExpr) → ((out-Expr e).rest ≡ [] → ⊥) → item_name (expr_of e) ≡ None
sum_unnamed e some =
    let o = out-Expr e in
    ap item_name (ap expr_of (sym (roll-out-Expr e)) ∙ expr_of-roll o.first o.rest) ∙ terms_unnamed (term_of o.first) o.rest some

pub term_alone : (e : SpelledExpr) → (out-Expr e).rest ≡ [] → expr_of e ≡ term_of (out-Expr e).first
term_alone e none =
    let o = out-Expr e in
    ap expr_of (sym (roll-out-Expr e)) ∙ expr_of-roll o.first o.rest ∙ ap (λ l. fold sum (term_of o.first) (map added_of l)) none

abbrev product : Expr Named → TimesSign × Expr Named → Expr Named
product left s = scaled s.0 left s.1

factors_unnamed : (first : Expr Named) (rest : List Scaled) → (rest ≡ [] → ⊥) → item_name (fold product first (map scaled_of rest)) ≡ None
factors_unnamed first [] some = absurd (some refl)
factors_unnamed first (s ∷ rest) some = joined_unnamed product (λ left s. refl) first (scaled_of s) (map scaled_of rest)

pub product_unnamed : (t : Term) → ((out-Term t).rest ≡ [] → ⊥) → item_name (term_of t) ≡ None
product_unnamed t some =
    let o = out-Term t in
    ap item_name (ap term_of (sym (roll-out-Term t)) ∙ term_of-roll o.first o.rest) ∙ factors_unnamed (factor_of o.first) o.rest some

pub factor_alone : (t : Term) → (out-Term t).rest ≡ [] → term_of t ≡ factor_of (out-Term t).first
factor_alone t none =
    let o = out-Term t in
    ap term_of (sym (roll-out-Term t)) ∙ term_of-roll o.first o.rest ∙ ap (λ l. fold product (factor_of o.first) (map scaled_of l)) none

with_sign_unnamed : (s : Option Sign) (e : Expr Named) → is_some s ≡ true → item_name (with_sign_if s e) ≡ None
with_sign_unnamed None e some = cc
with_sign_unnamed (Some sign) e some = refl

pub signed_unnamed : (f : Factor) → is_some f.sign ≡ true → item_name (factor_of f) ≡ None
signed_unnamed f some = ap item_name (factor_of-out f) ∙ with_sign_unnamed f.sign (primary_of f.primary) some

without_sign : (s : Option Sign) (e : Expr Named) → is_some s ≡ false → with_sign_if s e ≡ e
without_sign None e none = refl
without_sign (Some sign) e none = cc

pub column_named : (f : Factor) (c : ColumnReference) → is_some f.sign ≡ false → f.primary ≡ primary.Column c → item_name (factor_of f) ≡ Some c.column
column_named f c none is = ap item_name (factor_of-out f ∙ without_sign f.sign (primary_of f.primary) none ∙ ap primary_of is ∙ primary_of-Column c)

primary_unnamed : (p : Primary) → ((c : ColumnReference) → p ≡ primary.Column c → ⊥) → item_name (primary_of p) ≡ None
primary_unnamed = primary_cases (λ p. ((c : ColumnReference) → p ≡ primary.Column c → ⊥) → item_name (primary_of p) ≡ None)
    (λ n other. ap item_name (primary_of-Number n))
    (λ characters other. ap item_name (primary_of-Text characters))
    (λ p other. ap item_name (primary_of-Parameter p))
    (λ other. ap item_name primary_of-User)
    (λ c other. absurd (other c refl))
    (λ other. ap item_name primary_of-CountRows)
    (λ f q e other. ap item_name (primary_of-SetFunction f q e))
    (λ e other. ap item_name (primary_of-Bracketed e))

pub other_unnamed : (f : Factor) → is_some f.sign ≡ false → ((c : ColumnReference) → f.primary ≡ primary.Column c → ⊥) → item_name (factor_of f) ≡ None
other_unnamed f none other = ap item_name (factor_of-out f ∙ without_sign f.sign (primary_of f.primary) none) ∙ primary_unnamed f.primary other
