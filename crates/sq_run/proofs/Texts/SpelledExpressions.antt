-- What meets the equations of value expressions reads each value expression as the definitions do, by induction over the tree.
use Rattle.std.proofs.Common.{◌≡◌, List, [], ◌∷◌, ◌++◌, Option, None, Some, refl, sym, ◌∙◌, ap, map, subst}
use Rattle.std.specs.Prelude.{fold}
use Rattle.std.proofs.lemmas.List.{append_assoc, append-nil}
use Rattle.std.proofs.lemmas.List.Folds.{fold-map}
use Rattle.sq_tree.specs.declared.expr.Sign.{Sign}
use Rattle.sq_tree.specs.declared.expr.TimesSign.{TimesSign}
use Rattle.sq_tree.specs.declared.expr.Expr.{Expr as SpelledExpr, Expr-F, roll-Expr, map-Expr, ind-Expr}
use Rattle.sq_tree.specs.declared.expr.Added.{Added, Added-F, roll-Added, out-Added, out-roll-Added, roll-out-Added, map-Added}
use Rattle.sq_tree.specs.declared.expr.Term.{Term, Term-F, roll-Term, map-Term}
use Rattle.sq_tree.specs.declared.expr.Scaled.{Scaled, Scaled-F, roll-Scaled, map-Scaled}
use Rattle.sq_tree.specs.declared.expr.Factor.{Factor, Factor-F, roll-Factor, map-Factor}
use Rattle.sq_tree.specs.declared.expr.Primary.{Primary, Primary-F, roll-Primary, map-Primary}
use Rattle.sq_tree.specs.declared.expr.Primary.TheVariants as primary
use Rattle.sq_tree.specs.declared.expr.Primary.TheOpen as layer
use Rattle.sq_meaning.specs.Syntax.{Expr, added, scaled, signed, set_function, bracketed}
use Rattle.sq_meaning.specs.Spelled.{Named, is_distinct_word, expr_of, term_of, factor_of, primary_of, added_of, scaled_of}
use Rattle.sq_meaning.proofs.SpelledLevels.{expr_of-roll, term_of-roll, added_of-roll, scaled_of-out, factor_of-out, primary_of-Number, primary_of-Text, primary_of-Parameter, primary_of-User, primary_of-Column, primary_of-CountRows, primary_of-SetFunction, primary_of-Bracketed}
use Rattle.sq_run.specs.Spelling.{Reading, sum, product, ReadsExpressions}

-- ---- lists

-- what each last item adds, the items add in their order
pub from_last : {A B : Type 0} (g : List A → B) (step : B → A → B) → ((before : List A) (last : A) → g (before ++ last ∷ []) ≡ step (g before) last)
    → (before rest : List A) → g (before ++ rest) ≡ fold step (g before) rest
from_last g step h before [] = ap g (append-nil before)
from_last g step h before (x ∷ rest) =
    ap g (sym (append_assoc before (x ∷ []) rest)) ∙ from_last g step h (before ++ x ∷ []) rest ∙ ap (λ b. fold step b rest) (h before x)

-- a first value, and what further items join to it
pub joined : {A B C : Type 0} (g : List A → B) (step : B → C → B) (f : A → C) → ((before : List A) (last : A) → g (before ++ last ∷ []) ≡ step (g before) (f last))
    → (rest : List A) → g rest ≡ fold step (g []) (map f rest)
joined g step f h rest = from_last g (λ b a. step b (f a)) h [] rest ∙ sym (fold-map step f (g []) rest)

-- items with proofs beside them
pub seen_alike : {A B : Type 0} (f g : A → B) (ys : List ((a : A) × f a ≡ g a)) → map f (map (λ y. y.0) ys) ≡ map g (map (λ y. y.0) ys)
seen_alike f g [] = refl
seen_alike f g (y ∷ ys) = λ i. y.1 i ∷ seen_alike f g ys i

-- ---- value expressions

module _ (r : Reading) (m : ReadsExpressions r) where
  added_read : Added → Sign × Expr Named
  added_read a = ((out-Added a).sign, r.term (out-Added a).term)

  scaled_read : Scaled → TimesSign × Expr Named
  scaled_read s = (s.sign, r.factor s.factor)

  abbrev PrimaryIs : Primary → Type 0
  PrimaryIs p = r.primary p ≡ primary_of p

  abbrev AddedIs : Added → Type 0
  AddedIs a = added_read a ≡ added_of a

  abbrev ExprIs : SpelledExpr → Type 0
  ExprIs e = r.expression e ≡ expr_of e

  abbrev FactorIs : Factor → Type 0
  FactorIs f = r.factor f ≡ factor_of f

  abbrev ScaledIs : Scaled → Type 0
  ScaledIs s = scaled_read s ≡ scaled_of s

  abbrev TermIs : Term → Type 0
  TermIs t = r.term t ≡ term_of t

  -- each part with a proof beside it
  abbrev P : Type 0
  P = (p : Primary) × PrimaryIs p

  abbrev A : Type 0
  A = (a : Added) × AddedIs a

  abbrev E : Type 0
  E = (e : SpelledExpr) × ExprIs e

  abbrev F : Type 0
  F = (f : Factor) × FactorIs f

  abbrev S : Type 0
  S = (s : Scaled) × ScaledIs s

  abbrev T : Type 0
  T = (t : Term) × TermIs t

  primary_step : (y : Primary-F P A E F S T) → PrimaryIs (roll-Primary (map-Primary P A E F S T Primary Added SpelledExpr Factor Scaled Term (λ e. e.0) (λ e. e.0) (λ e. e.0) (λ e. e.0) (λ e. e.0) (λ e. e.0) y))
  primary_step (layer.Number n) = subst PrimaryIs (sym (primary.rolls-Number n)) (m.numbers n ∙ sym (primary_of-Number n))
  primary_step (layer.Text characters) = subst PrimaryIs (sym (primary.rolls-Text characters)) (m.texts characters ∙ sym (primary_of-Text characters))
  primary_step (layer.Parameter p) = subst PrimaryIs (sym (primary.rolls-Parameter p)) (m.parameters p ∙ sym (primary_of-Parameter p))
  primary_step layer.User = subst PrimaryIs (sym primary.rolls-User) (m.users ∙ sym primary_of-User)
  primary_step (layer.Column c) = subst PrimaryIs (sym (primary.rolls-Column c)) (m.columns c ∙ sym (primary_of-Column c))
  primary_step layer.CountRows = subst PrimaryIs (sym primary.rolls-CountRows) (m.rows_counted ∙ sym primary_of-CountRows)
  primary_step (layer.SetFunction f q e) = subst PrimaryIs (sym (primary.rolls-SetFunction f q e.0)) (m.set_functions f q e.0 ∙ ap (set_function f (is_distinct_word q)) e.1 ∙ sym (primary_of-SetFunction f q e.0))
  primary_step (layer.Bracketed e) = subst PrimaryIs (sym (primary.rolls-Bracketed e.0)) (m.brackets e.0 ∙ ap bracketed e.1 ∙ sym (primary_of-Bracketed e.0))

  added_step : (y : Added-F P A E F S T) → AddedIs (roll-Added (map-Added P A E F S T Primary Added SpelledExpr Factor Scaled Term (λ e. e.0) (λ e. e.0) (λ e. e.0) (λ e. e.0) (λ e. e.0) (λ e. e.0) y))
  unfolding added_read
  added_step y =
      ap (λ (z : Added-F Primary Added SpelledExpr Factor Scaled Term). (z.sign, r.term z.term)) (out-roll-Added (record { sign = y.sign; term = y.term.0 }))
      ∙ ap (λ t. (y.sign, t)) y.term.1 ∙ sym (added_of-roll y.sign y.term.0)

  -- a sum is read term by term
  last_added : (t : Term) (before : List Added) (last : Added) → r.expression (sum t (before ++ last ∷ [])) ≡ added (added_read last).0 (r.expression (sum t before)) (added_read last).1
  unfolding added_read
  last_added t before last =
      ap (λ a. r.expression (sum t (before ++ a ∷ []))) (sym (roll-out-Added last)) ∙ m.last_term t before (out-Added last).sign (out-Added last).term

  expr_step : (y : Expr-F P A E F S T) → ExprIs (roll-Expr (map-Expr P A E F S T Primary Added SpelledExpr Factor Scaled Term (λ e. e.0) (λ e. e.0) (λ e. e.0) (λ e. e.0) (λ e. e.0) (λ e. e.0) y))
  expr_step y =
      joined (λ rest. r.expression (sum y.first.0 rest)) (λ left s. added s.0 left s.1) added_read (last_added y.first.0) (map (λ e. e.0) y.rest)
      ∙ (λ i. fold (λ left s. added s.0 left s.1) ((m.one_term y.first.0 ∙ y.first.1) i) (seen_alike added_read added_of y.rest i))
      ∙ sym (expr_of-roll y.first.0 (map (λ e. e.0) y.rest))

  factor_step : (y : Factor-F P A E F S T) → FactorIs (roll-Factor (map-Factor P A E F S T Primary Added SpelledExpr Factor Scaled Term (λ e. e.0) (λ e. e.0) (λ e. e.0) (λ e. e.0) (λ e. e.0) (λ e. e.0) y))
  factor_step y = by y.sign y.primary
    where
      by : (sign : Option Sign) (p : P) → FactorIs (record { sign = sign; primary = p.0 })
      by None p = m.unsigned p.0 ∙ p.1 ∙ sym (factor_of-out (record { sign = None; primary = p.0 }))
      by (Some sign) p = m.with_a_sign sign p.0 ∙ ap (signed sign) p.1 ∙ sym (factor_of-out (record { sign = Some sign; primary = p.0 }))

  scaled_step : (y : Scaled-F P A E F S T) → ScaledIs (roll-Scaled (map-Scaled P A E F S T Primary Added SpelledExpr Factor Scaled Term (λ e. e.0) (λ e. e.0) (λ e. e.0) (λ e. e.0) (λ e. e.0) (λ e. e.0) y))
  unfolding scaled_read
  scaled_step y = ap (λ f. (y.sign, f)) y.factor.1 ∙ sym (scaled_of-out (record { sign = y.sign; factor = y.factor.0 }))

  last_scaled : (f : Factor) (before : List Scaled) (last : Scaled) → r.term (product f (before ++ last ∷ [])) ≡ scaled (scaled_read last).0 (r.term (product f before)) (scaled_read last).1
  unfolding scaled_read
  last_scaled f before last = m.last_factor f before last.sign last.factor

  term_step : (y : Term-F P A E F S T) → TermIs (roll-Term (map-Term P A E F S T Primary Added SpelledExpr Factor Scaled Term (λ e. e.0) (λ e. e.0) (λ e. e.0) (λ e. e.0) (λ e. e.0) (λ e. e.0) y))
  term_step y =
      joined (λ rest. r.term (product y.first.0 rest)) (λ left s. scaled s.0 left s.1) scaled_read (last_scaled y.first.0) (map (λ e. e.0) y.rest)
      ∙ (λ i. fold (λ left s. scaled s.0 left s.1) ((m.one_factor y.first.0 ∙ y.first.1) i) (seen_alike scaled_read scaled_of y.rest i))
      ∙ sym (term_of-roll y.first.0 (map (λ e. e.0) y.rest))

  pub expression_is : (e : SpelledExpr) → ExprIs e
  expression_is e = ind-Expr PrimaryIs AddedIs ExprIs FactorIs ScaledIs TermIs
      (λ x y is. subst (λ z. PrimaryIs (roll-Primary z)) is (primary_step y))
      (λ x y is. subst (λ z. AddedIs (roll-Added z)) is (added_step y))
      (λ x y is. subst (λ z. ExprIs (roll-Expr z)) is (expr_step y))
      (λ x y is. subst (λ z. FactorIs (roll-Factor z)) is (factor_step y))
      (λ x y is. subst (λ z. ScaledIs (roll-Scaled z)) is (scaled_step y))
      (λ x y is. subst (λ z. TermIs (roll-Term z)) is (term_step y))
      e

  pub term_is : (t : Term) → TermIs t
  term_is t = sym (m.one_term t) ∙ expression_is (sum t []) ∙ expr_of-roll t []

  pub factor_is : (f : Factor) → FactorIs f
  factor_is f = sym (m.one_factor f) ∙ term_is (product f []) ∙ term_of-roll f []

  pub primary_is : (p : Primary) → PrimaryIs p
  primary_is p = sym (m.unsigned p) ∙ factor_is (record { sign = None; primary = p }) ∙ factor_of-out (record { sign = None; primary = p })
