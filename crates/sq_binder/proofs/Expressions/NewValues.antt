-- A value that is stored is bound as one that agrees with its column.
use Rattle.std.proofs.Common.{◌≡◌, Ok, Err, refl}
use Rattle.std.specs.Prelude.{Result, IfOk}
use Rattle.sq_value.specs.declared.domain.Kind.{Kind}
use Rattle.sq_value.specs.declared.domain.Kind.TheVariants.{Chars, Num, Vary}
use Rattle.sq_tree.specs.declared.expr.Expr.{Expr}
use Rattle.sq_tree.specs.declared.statement.NewValue.TheVariants as new_value
use Rattle.sq_meaning.specs.Spelled.{expr_of}
use Rattle.sq_meaning.specs.WellFormed.{is_comparable}
use Rattle.sq_meaning.specs.declared.fault.BindingFault.TheVariants as fault
use Rattle.sq_bound.specs.declared.expression.BoundExpr.{BoundExpr}
use Rattle.sq_binding.specs.Change.{new_value_bound}
use Rattle.sq_binding.specs.Condition.{agreeing}
use Rattle.sq_binding.specs.Found.{◌>>=◌, must, pure}
use Rattle.sq_binding.specs.Seen.{numbered_of}
use Rattle.sq_binding.specs.Select.{Surroundings, value}
use Rattle.sq_binder.specs.Found.{Finds, counts_of, found_of}
use Rattle.sq_binder.specs.declared.found.Counts.{Counts}
use Rattle.sq_binder.specs.declared.found.Found.{Found}
use Rattle.sq_binder.specs.declared.stop.Stop.{Stop}
use Rattle.sq_binding.specs.There.{IsPlain}
use Rattle.sq_binding.proofs.WellFormed.NotNull.{agreeing_plain}

comparable_turn : (k l : Kind) → is_comparable k l ≡ is_comparable l k
comparable_turn (Num s) (Num t) = refl
comparable_turn (Num s) (Chars n) = refl
comparable_turn (Num s) (Vary n) = refl
comparable_turn (Chars m) (Num t) = refl
comparable_turn (Chars m) (Chars n) = refl
comparable_turn (Chars m) (Vary n) = refl
comparable_turn (Vary m) (Num t) = refl
comparable_turn (Vary m) (Chars n) = refl
comparable_turn (Vary m) (Vary n) = refl

pub value_is : (a : Surroundings) (k : Kind) (e : Expr) → new_value_bound a k (new_value.Expr e) ≡ agreeing a k (expr_of e)
value_is a k e = λ i. value a (expr_of e) >>= λ x. must (comparable_turn x.kind k i) fault.KindMismatch >>= λ u. pure x.tree

-- the value of an expression is not the word NULL
pub value_plain : (a : Surroundings) (k : Kind) (e : Expr) (before : Counts) (r : Result (Found BoundExpr) Stop) → Finds numbered_of (agreeing a k (expr_of e)) before r → IfOk r (λ found. IsPlain found.part)
value_plain a k e before (Ok x) found = agreeing_plain a k (expr_of e) (counts_of before) (found_of numbered_of x) found.0 x.part refl
value_plain a k e before (Err stop) s = tt
