-- Two value expressions with one list of tokens are one, and so for their parts.
use Rattle.std.proofs.Common.{◌≡◌, ℕ, max, [], ◌∷◌, Some, arith, refl}
use Rattle.sq_tree.specs.declared.expr.Sign.{Sign}
use Rattle.sq_tree.specs.declared.expr.TimesSign.{TimesSign}
use Rattle.sq_tree.specs.declared.expr.SetQuantifier.{SetQuantifier}
use Rattle.sq_tree.specs.declared.expr.SetFunction.{SetFunction}
use Rattle.sq_tree.specs.declared.expr.SetFunction.TheVariants.{Count, Sum, Avg, Min, Max}
use Rattle.sq_tree.specs.declared.expr.SignedNumber.{SignedNumber}
use Rattle.sq_tree.specs.declared.expr.Primary.{Primary}
use Rattle.sq_tree.specs.declared.expr.Factor.{Factor}
use Rattle.sq_tree.specs.declared.expr.Scaled.{Scaled}
use Rattle.sq_tree.specs.declared.expr.Term.{Term}
use Rattle.sq_tree.specs.declared.expr.Added.{Added}
use Rattle.sq_tree.specs.declared.expr.Expr.{Expr}
use Rattle.sq_tree.specs.Expr.{sign_token, times_token, quantifier_token, function_token, signed_number_tokens, primary_tokens, factor_tokens, scaled_tokens, term_tokens, added_tokens, expr_tokens}
use Rattle.sq_tree.proofs.ExprDepth.{primary_depth, factor_depth, scaled_depth, term_depth, added_depth, expr_depth}
use Rattle.sq_grammar.specs.Expr.{function_of, inside}
use Rattle.sq_grammar.proofs.Sound.Spells.{some_is}
use Rattle.sq_grammar.proofs.Unique.OneTree.{one_tree}
use Rattle.sq_grammar.proofs.Unique.OneToken.{one_token}
use Rattle.sq_grammar.proofs.Taken.NamesTakes.{sign_takes, signed_takes}
use Rattle.sq_grammar.proofs.Taken.ExprTakes.{times_takes, quantifier_takes, primary_takes, factor_takes, scaled_each, term_takes, added_each, expr_takes, inside_takes}
use Rattle.sq_grammar.proofs.Ends.Follows.{EndsExpr, ends_expr}

pub one_sign : (a b : Sign) → sign_token a ∷ [] ≡ sign_token b ∷ [] → a ≡ b
one_sign a b same = some_is a b (one_tree (sign_takes (Some a) {a = 0} {left = 0} {rest = []} refl refl) (sign_takes (Some b) {a = 0} {rest = []} refl refl) (omega arith) (omega arith) same)

pub one_times_sign : (a b : TimesSign) → times_token a ∷ [] ≡ times_token b ∷ [] → a ≡ b
one_times_sign a b same = some_is a b (one_tree (times_takes a {a = 0} {left = 0} {rest = []}) (times_takes b {a = 0} {rest = []}) (omega arith) (omega arith) same)

pub one_set_quantifier : (a b : SetQuantifier) → quantifier_token a ∷ [] ≡ quantifier_token b ∷ [] → a ≡ b
one_set_quantifier a b same = some_is a b (one_tree (quantifier_takes (Some a) {a = 0} {left = 0} {rest = []} refl refl) (quantifier_takes (Some b) {a = 0} {rest = []} refl refl) (omega arith) (omega arith) same)

function_is : (f : SetFunction) → function_of (function_token f) ≡ Some f
function_is Count = refl
function_is Sum = refl
function_is Avg = refl
function_is Min = refl
function_is Max = refl

pub one_set_function : (a b : SetFunction) → function_token a ∷ [] ≡ function_token b ∷ [] → a ≡ b
one_set_function = one_token function_of function_token function_is

pub one_signed_number : (a b : SignedNumber) → signed_number_tokens a ≡ signed_number_tokens b → a ≡ b
one_signed_number a b same = one_tree (signed_takes a {a = 0} {left = 0} {rest = []}) (signed_takes b {a = 0} {rest = []}) (omega arith) (omega arith) same

pub end_of_expr : EndsExpr []
end_of_expr = ends_expr _ refl

pub one_primary : (a b : Primary) → primary_tokens a ≡ primary_tokens b → a ≡ b
one_primary a b same =
    let left : ℕ = max (primary_depth a) (primary_depth b) in
    let takes = primary_takes left (inside left) (λ h e rest f. inside_takes left e rest h f) in
    one_tree (takes a [] end_of_expr.term.factor) (takes b [] end_of_expr.term.factor) (omega arith) (omega arith) same

pub one_factor : (a b : Factor) → factor_tokens a ≡ factor_tokens b → a ≡ b
one_factor a b same =
    let left : ℕ = max (factor_depth a) (factor_depth b) in
    let takes = factor_takes left (inside left) (λ h e rest f. inside_takes left e rest h f) in
    one_tree (takes a [] end_of_expr.term.factor) (takes b [] end_of_expr.term.factor) (omega arith) (omega arith) same

pub one_scaled : (a b : Scaled) → scaled_tokens a ≡ scaled_tokens b → a ≡ b
one_scaled a b same =
    let left : ℕ = max (scaled_depth a) (scaled_depth b) in
    let takes = scaled_each left (inside left) (λ h e rest f. inside_takes left e rest h f) in
    some_is a b (one_tree (takes a [] end_of_expr.term.factor) (takes b [] end_of_expr.term.factor) (omega arith) (omega arith) same)

pub one_term : (a b : Term) → term_tokens a ≡ term_tokens b → a ≡ b
one_term a b same =
    let left : ℕ = max (term_depth a) (term_depth b) in
    let takes = term_takes left (inside left) (λ h e rest f. inside_takes left e rest h f) in
    one_tree (takes a [] end_of_expr.term) (takes b [] end_of_expr.term) (omega arith) (omega arith) same

pub one_added : (a b : Added) → added_tokens a ≡ added_tokens b → a ≡ b
one_added a b same =
    let left : ℕ = max (added_depth a) (added_depth b) in
    let takes = added_each left (inside left) (λ h e rest f. inside_takes left e rest h f) in
    some_is a b (one_tree (takes a [] end_of_expr.term) (takes b [] end_of_expr.term) (omega arith) (omega arith) same)

pub one_expr : (a b : Expr) → expr_tokens a ≡ expr_tokens b → a ≡ b
one_expr a b same =
    let left : ℕ = max (expr_depth a) (expr_depth b) in
    one_tree (expr_takes left a [] end_of_expr) (expr_takes left b [] end_of_expr) (omega arith) (omega arith) same
