-- Parts that never end with 42000.
use Rattle.std.proofs.Common.{◌≡◌, ◌⊎◌, List, [], sym, subst, inl, inr, Result, Ok, Err}
use Rattle.std.specs.Prelude.{⊤, IfErr, IsErrAnd}
use Rattle.sq_lex.specs.declared.name.Name.{Name}
use Rattle.sq_value.specs.declared.value.Value.{Value}
use Rattle.sq_meaning.specs.Expression.{value}
use Rattle.sq_meaning.specs.Placed.{by_place}
use Rattle.sq_meaning.specs.WellFormed.{Answers}
use Rattle.sq_bound.specs.Expression.{PlacedExpr}
use Rattle.sq_bound.specs.declared.expression.BoundExpr.TheVariants as bound
use Rattle.sq_bound.proofs.ExpressionLaws.{expr_of-User}
use Rattle.sq_meaning.specs.Status.{Outcome}
use Rattle.sq_expression.specs.Fault.{Meets}
use Rattle.sq_expression.specs.declared.fault.Fault.TheVariants as fault
use Rattle.sq_query.specs.MayRead.{MayEnd}
use Rattle.sq_change.specs.Made.{Fails}
use Rattle.sq_query.specs.Row.{HasValueOn, outside}
use Rattle.sq_expression.specs.declared.fault.Fault.{Fault}
use Rattle.sq_query.proofs.Needs.Fitting.{ends_right}
use Rattle.sq_change.proofs.NewRows.Fitting.{no_rows}

-- `?` hands the fault on
pub ends_so : {A : Type 0} (r : Result A Fault) (f : Fault) → IsErrAnd r (λ g. g ≡ f) → MayEnd f → IfErr r MayEnd
ends_so (Ok x) f is may = tt
ends_so (Err g) f is may = subst MayEnd (sym is) may

-- USER has a value
pub user_ends : (f : Fault) (parameters : List Value) (name : Name) → HasValueOn (Err f) bound.User [] parameters name → MayEnd f
user_ends f parameters name found =
    ends_right {A = Value} (Err f) (λ v. ⊤) _
    (subst (λ (t : PlacedExpr). Answers (λ (v : Value). ⊤) (value (by_place no_rows) t (outside [] parameters name))) (sym (expr_of-User [])) tt)
    (found no_rows)

-- ---- how a statement ends

pub memory_right : {A : Type 0} (r : Result A Fault) → IfErr r (λ f. f ≡ fault.NoMemory) → IfErr r MayEnd
memory_right (Ok x) h = tt
memory_right (Err f) h = subst MayEnd (sym h) (λ e. cc)

-- `?` hands the fault on
pub hands_on : {A B : Type 0} (r : Result A Fault) (f : Fault) (o : Outcome B) → IsErrAnd r (λ g. g ≡ f) → Meets {A = B} (Err f) o → IfErr r (λ g. Fails g o)
hands_on (Ok x) f o is h = tt
hands_on {A} {B} (Err g) f o is h = subst (λ (x : Fault). Fails {A = B} x o) (sym is) h

-- changes that can fail by a refusal of memory alone
pub memory_fails : {A B C : Type 0} (changes : Result A Fault) (r : Result B Fault) (o : Outcome C) → IfErr changes (λ f. f ≡ fault.NoMemory)
    → IfErr r (λ f. (f ≡ fault.NoMemory) ⊎ (changes ≡ Err f)) → IfErr r (λ f. Fails f o)
memory_fails changes (Ok x) o memory h = tt
memory_fails {A} {B} {C} changes (Err f) o memory (inl none) = subst (λ (x : Fault). Fails {A = C} x o) (sym none) tt
memory_fails {A} {B} {C} changes (Err f) o memory (inr failed) =
    subst (λ (x : Fault). Fails {A = C} x o) (sym (subst (λ (r : Result A Fault). IfErr r (λ f. f ≡ fault.NoMemory)) failed memory)) tt
