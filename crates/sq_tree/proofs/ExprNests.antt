-- Value expressions close the brackets that they open, and are as deep as their parts say.
use Rattle.std.proofs.Common.{Option, refl, ◌∙◌, subst, arith}
use Rattle.sq_tree.specs.Tree.{optional}
use Rattle.sq_tree.specs.Names.{table_name_tokens, column_reference_tokens, indicator_tokens, parameter_tokens}
use Rattle.sq_tree.specs.Expr.{sign_token, sign_tokens, times_token, function_token, quantifier_token, quantifier_tokens, signed_number_tokens, expr_tokens, added_tokens, term_tokens, scaled_tokens, factor_tokens, primary_tokens}
use Rattle.sq_tree.proofs.ExprDepth.{expr_depth, added_depth, term_depth, scaled_depth, factor_depth, primary_depth}
use Rattle.sq_tree.proofs.Nests.{Nests, IsPlain, nests-is, nests-plain, nests-append, nests-bracketed, nests-if_written, nests-none, nests-proved, nests-optional0}
use Rattle.sq_tree.specs.declared.names.TableName.{TableName}
use Rattle.sq_tree.specs.declared.names.ColumnReference.{ColumnReference}
use Rattle.sq_tree.specs.declared.names.Indicator.{Indicator}
use Rattle.sq_tree.specs.declared.names.Parameter.{Parameter}
use Rattle.sq_tree.specs.declared.expr.Sign.{Sign}
use Rattle.sq_tree.specs.declared.expr.Sign.TheVariants as sign
use Rattle.sq_tree.specs.declared.expr.TimesSign.{TimesSign}
use Rattle.sq_tree.specs.declared.expr.TimesSign.TheVariants as times
use Rattle.sq_tree.specs.declared.expr.SignedNumber.{SignedNumber}
use Rattle.sq_tree.specs.declared.expr.SetFunction.{SetFunction}
use Rattle.sq_tree.specs.declared.expr.SetFunction.TheVariants as function
use Rattle.sq_tree.specs.declared.expr.SetQuantifier.{SetQuantifier}
use Rattle.sq_tree.specs.declared.expr.SetQuantifier.TheVariants as quantifier
use Rattle.sq_tree.specs.declared.expr.Expr.{Expr, Expr-F, roll-Expr, fold-roll-Expr, map-Expr, ind-Expr}
use Rattle.sq_tree.specs.declared.expr.Added.{Added, Added-F, roll-Added, fold-roll-Added, map-Added}
use Rattle.sq_tree.specs.declared.expr.Term.{Term, Term-F, roll-Term, fold-roll-Term, map-Term}
use Rattle.sq_tree.specs.declared.expr.Scaled.{Scaled, Scaled-F, roll-Scaled, fold-roll-Scaled, map-Scaled}
use Rattle.sq_tree.specs.declared.expr.Factor.{Factor, Factor-F, roll-Factor, fold-roll-Factor, map-Factor}
use Rattle.sq_tree.specs.declared.expr.Primary.{Primary, Primary-F, roll-Primary, fold-roll-Primary, map-Primary}
use Rattle.sq_tree.specs.declared.expr.Primary.TheOpen as layer

sign_plain : (s : Sign) → IsPlain (sign_token s)
sign_plain sign.Plus n = refl
sign_plain sign.Minus n = refl

times_plain : (s : TimesSign) → IsPlain (times_token s)
times_plain times.Times n = refl
times_plain times.Over n = refl

function_plain : (f : SetFunction) → IsPlain (function_token f)
function_plain function.Count n = refl
function_plain function.Sum n = refl
function_plain function.Avg n = refl
function_plain function.Min n = refl
function_plain function.Max n = refl

quantifier_plain : (q : SetQuantifier) → IsPlain (quantifier_token q)
quantifier_plain quantifier.All n = refl
quantifier_plain quantifier.Distinct n = refl

pub quantifier_nests : (q : Option SetQuantifier) → Nests (optional quantifier_tokens q) 0
quantifier_nests q = nests-optional0 quantifier_tokens (λ x. nests-plain _ (quantifier_plain x) nests-none) q

sign_nests : (s : Option Sign) → Nests (optional sign_tokens s) 0
sign_nests s = nests-optional0 sign_tokens (λ x. nests-plain _ (sign_plain x) nests-none) s

pub signed_number_nests : (n : SignedNumber) → Nests (signed_number_tokens n) 0
signed_number_nests n = nests-append (sign_nests n.sign) (nests-plain _ (λ n. refl) nests-none)

pub table_name_nests : (t : TableName) → Nests (table_name_tokens t) 0
table_name_nests t = nests-append (nests-optional0 _ (λ x. nests-plain _ (λ n. refl) (nests-plain _ (λ n. refl) nests-none)) t.schema) (nests-plain _ (λ n. refl) nests-none)

pub column_reference_nests : (c : ColumnReference) → Nests (column_reference_tokens c) 0
column_reference_nests c = nests-append (nests-optional0 _ (λ x. nests-append (table_name_nests x) (nests-plain _ (λ n. refl) nests-none)) c.qualifier) (nests-plain _ (λ n. refl) nests-none)

indicator_nests : (i : Indicator) → Nests (indicator_tokens i) 0
indicator_nests i = nests-append (nests-if_written i.word (nests-plain _ (λ n. refl) nests-none)) (nests-plain _ (λ n. refl) (nests-plain _ (λ n. refl) nests-none))

pub parameter_nests : (p : Parameter) → Nests (parameter_tokens p) 0
parameter_nests p = nests-plain _ (λ n. refl) (nests-plain _ (λ n. refl) (nests-optional0 indicator_tokens indicator_nests p.indicator))

abbrev PrimaryNests : Primary → Type 0
PrimaryNests p = Nests (primary_tokens p) (primary_depth p)

abbrev AddedNests : Added → Type 0
AddedNests a = Nests (added_tokens a) (added_depth a)

abbrev ExprNests : Expr → Type 0
ExprNests e = Nests (expr_tokens e) (expr_depth e)

abbrev FactorNests : Factor → Type 0
FactorNests f = Nests (factor_tokens f) (factor_depth f)

abbrev ScaledNests : Scaled → Type 0
ScaledNests s = Nests (scaled_tokens s) (scaled_depth s)

abbrev TermNests : Term → Type 0
TermNests t = Nests (term_tokens t) (term_depth t)

-- each part with a proof beside it
abbrev P : Type 0
P = (p : Primary) × PrimaryNests p

abbrev A : Type 0
A = (a : Added) × AddedNests a

abbrev E : Type 0
E = (e : Expr) × ExprNests e

abbrev F : Type 0
F = (f : Factor) × FactorNests f

abbrev S : Type 0
S = (s : Scaled) × ScaledNests s

abbrev T : Type 0
T = (t : Term) × TermNests t

primary_step : (y : Primary-F P A E F S T) → PrimaryNests (roll-Primary (map-Primary P A E F S T Primary Added Expr Factor Scaled Term (λ e. e.0) (λ e. e.0) (λ e. e.0) (λ e. e.0) (λ e. e.0) (λ e. e.0) y))
unfolding primary_tokens primary_depth expr_tokens expr_depth
primary_step (layer.Number k) = nests-is (nests-plain _ (λ n. refl) nests-none) (fold-roll-Primary _ _ _ _ _ _ _ _ _ _ _ _ _) (fold-roll-Primary _ _ _ _ _ _ _ _ _ _ _ _ _)
primary_step (layer.Text characters) = nests-is (nests-plain _ (λ n. refl) nests-none) (fold-roll-Primary _ _ _ _ _ _ _ _ _ _ _ _ _) (fold-roll-Primary _ _ _ _ _ _ _ _ _ _ _ _ _)
primary_step (layer.Parameter p) = nests-is (parameter_nests p) (fold-roll-Primary _ _ _ _ _ _ _ _ _ _ _ _ _) (fold-roll-Primary _ _ _ _ _ _ _ _ _ _ _ _ _)
primary_step layer.User = nests-is (nests-plain _ (λ n. refl) nests-none) (fold-roll-Primary _ _ _ _ _ _ _ _ _ _ _ _ _) (fold-roll-Primary _ _ _ _ _ _ _ _ _ _ _ _ _)
primary_step (layer.Column c) = nests-is (column_reference_nests c) (fold-roll-Primary _ _ _ _ _ _ _ _ _ _ _ _ _) (fold-roll-Primary _ _ _ _ _ _ _ _ _ _ _ _ _)
primary_step layer.CountRows = nests-is (nests-plain _ (λ n. refl) (nests-bracketed (nests-plain _ (λ n. refl) nests-none))) (fold-roll-Primary _ _ _ _ _ _ _ _ _ _ _ _ _) (fold-roll-Primary _ _ _ _ _ _ _ _ _ _ _ _ _)
primary_step (layer.SetFunction f q e) = nests-is (nests-plain _ (function_plain f) (nests-bracketed (nests-append (quantifier_nests q) e.1))) (fold-roll-Primary _ _ _ _ _ _ _ _ _ _ _ _ _) (fold-roll-Primary _ _ _ _ _ _ _ _ _ _ _ _ _ ∙ omega arith)
primary_step (layer.Bracketed e) = nests-is (nests-bracketed e.1) (fold-roll-Primary _ _ _ _ _ _ _ _ _ _ _ _ _) (fold-roll-Primary _ _ _ _ _ _ _ _ _ _ _ _ _)

added_step : (y : Added-F P A E F S T) → AddedNests (roll-Added (map-Added P A E F S T Primary Added Expr Factor Scaled Term (λ e. e.0) (λ e. e.0) (λ e. e.0) (λ e. e.0) (λ e. e.0) (λ e. e.0) y))
unfolding added_tokens added_depth term_tokens term_depth
added_step y = nests-is (nests-plain _ (sign_plain y.sign) y.term.1) (fold-roll-Added _ _ _ _ _ _ _ _ _ _ _ _ _) (fold-roll-Added _ _ _ _ _ _ _ _ _ _ _ _ _)

expr_step : (y : Expr-F P A E F S T) → ExprNests (roll-Expr (map-Expr P A E F S T Primary Added Expr Factor Scaled Term (λ e. e.0) (λ e. e.0) (λ e. e.0) (λ e. e.0) (λ e. e.0) (λ e. e.0) y))
unfolding expr_tokens expr_depth term_tokens term_depth added_tokens added_depth
expr_step y = nests-is (nests-append y.first.1 (nests-proved added_tokens added_depth (λ ts. ts) (λ ts d h. h) y.rest)) (fold-roll-Expr _ _ _ _ _ _ _ _ _ _ _ _ _) (fold-roll-Expr _ _ _ _ _ _ _ _ _ _ _ _ _)

factor_step : (y : Factor-F P A E F S T) → FactorNests (roll-Factor (map-Factor P A E F S T Primary Added Expr Factor Scaled Term (λ e. e.0) (λ e. e.0) (λ e. e.0) (λ e. e.0) (λ e. e.0) (λ e. e.0) y))
unfolding factor_tokens factor_depth primary_tokens primary_depth
factor_step y = nests-is (nests-append (sign_nests y.sign) y.primary.1) (fold-roll-Factor _ _ _ _ _ _ _ _ _ _ _ _ _) (fold-roll-Factor _ _ _ _ _ _ _ _ _ _ _ _ _ ∙ omega arith)

scaled_step : (y : Scaled-F P A E F S T) → ScaledNests (roll-Scaled (map-Scaled P A E F S T Primary Added Expr Factor Scaled Term (λ e. e.0) (λ e. e.0) (λ e. e.0) (λ e. e.0) (λ e. e.0) (λ e. e.0) y))
unfolding scaled_tokens scaled_depth factor_tokens factor_depth
scaled_step y = nests-is (nests-plain _ (times_plain y.sign) y.factor.1) (fold-roll-Scaled _ _ _ _ _ _ _ _ _ _ _ _ _) (fold-roll-Scaled _ _ _ _ _ _ _ _ _ _ _ _ _)

term_step : (y : Term-F P A E F S T) → TermNests (roll-Term (map-Term P A E F S T Primary Added Expr Factor Scaled Term (λ e. e.0) (λ e. e.0) (λ e. e.0) (λ e. e.0) (λ e. e.0) (λ e. e.0) y))
unfolding term_tokens term_depth factor_tokens factor_depth scaled_tokens scaled_depth
term_step y = nests-is (nests-append y.first.1 (nests-proved scaled_tokens scaled_depth (λ ts. ts) (λ ts d h. h) y.rest)) (fold-roll-Term _ _ _ _ _ _ _ _ _ _ _ _ _) (fold-roll-Term _ _ _ _ _ _ _ _ _ _ _ _ _)

pub expr_nests : (e : Expr) → ExprNests e
expr_nests e = ind-Expr PrimaryNests AddedNests ExprNests FactorNests ScaledNests TermNests
    (λ x y is. subst (λ z. PrimaryNests (roll-Primary z)) is (primary_step y))
    (λ x y is. subst (λ z. AddedNests (roll-Added z)) is (added_step y))
    (λ x y is. subst (λ z. ExprNests (roll-Expr z)) is (expr_step y))
    (λ x y is. subst (λ z. FactorNests (roll-Factor z)) is (factor_step y))
    (λ x y is. subst (λ z. ScaledNests (roll-Scaled z)) is (scaled_step y))
    (λ x y is. subst (λ z. TermNests (roll-Term z)) is (term_step y))
    e
