-- Statements without a fault do not end with 42000.
use Rattle.std.proofs.Common.{◌≡◌, Bool, true, false, if◌then◌else◌, List, Option, Some, None, Err, IfSome, refl, subst, sym}
use Rattle.sq_meaning.specs.WellFormed.{IsNoSyntaxError}
use Rattle.sq_meaning.specs.declared.status.Status.TheVariants as status
use Rattle.sq_bound.specs.declared.names.ParameterDesc.{ParameterDesc}
use Rattle.sq_expression.specs.Fault.{status_of}
use Rattle.sq_query.specs.MayRead.{MayEnd}
use Rattle.sq_expression.specs.declared.fault.Failure.{Failure}
use Rattle.sq_expression.specs.declared.fault.Failure.TheVariants as failure
use Rattle.sq_expression.specs.declared.fault.Fault.{Fault}
use Rattle.sq_expression.specs.declared.fault.Fault.TheVariants as fault
use Rattle.sq_session.specs.Step.{EndsRight, ending}
use Rattle.sq_session.specs.Target.{ended, set_reply}
use Rattle.sq_session.specs.declared.reply.Done.{Done}
use Rattle.sq_session.specs.declared.target.Assignments.{Assignments}

status_right : (f : Failure) → MayEnd (fault.Status f) → IsNoSyntaxError (status_of f)
status_right failure.NoData h = tt
status_right failure.CardinalityViolation h = tt
status_right failure.TextTooLong h = tt
status_right failure.NullWithoutIndicator h = tt
status_right failure.NumericValueOutOfRange h = tt
status_right failure.DivisionByZero h = tt
status_right failure.InvalidEscapeCharacter h = tt
status_right failure.InvalidEscapeSequence h = tt
status_right failure.IntegrityConstraintViolation h = tt
status_right failure.InvalidCursorState h = tt
status_right failure.SyntaxErrorOrAccessRuleViolation h = h refl
status_right failure.CheckOptionViolation h = tt
status_right failure.NoRowNumberLeft h = tt

-- a fault with which something well formed may end
pub fault_right : (f : Fault) → MayEnd f → IfSome (ending (Err f)) EndsRight
fault_right (fault.Status f) h = status_right f h
fault_right fault.NoMemory h = tt

-- success
pub done_right : (d : Done) → d ≡ ended status.SuccessfulCompletion → EndsRight d
done_right d h = subst EndsRight (sym h) tt

pub no_row_right : (d : Done) → d ≡ ended status.NoData → EndsRight d
no_row_right d h = subst EndsRight (sym h) tt

-- targets that are set
set_or_cut : (cut : Bool) → IsNoSyntaxError (if cut then status.TextTruncated else status.SuccessfulCompletion)
set_or_cut true = tt
set_or_cut false = tt

pub set_right : (parameters : List ParameterDesc) (a : Assignments) (d : Done) → d ≡ set_reply parameters a → EndsRight d
set_right parameters a d h = subst EndsRight (sym h) (set_or_cut a.is_cut)

-- a cursor that isn't on a row
pub invalid_right : (f : Fault) → f ≡ fault.Status failure.InvalidCursorState → IfSome (ending (Err f)) EndsRight
invalid_right f h = subst (λ (x : Fault). IfSome (ending (Err x)) EndsRight) (sym h) tt

-- a step that may be taken, an ending that is right, and what holds besides
pub all_if : {D : Type 0} (P Q : D → Type 0) (R : Type 0) (o : Option D) → IfSome o P → IfSome o Q → R → IfSome o (λ d. P d × Q d × R)
all_if P Q R None h k there = tt
all_if P Q R (Some d) h k there = (h, k, there)

-- A fact that is no matter of the ending, beside one of each ending.
pub also_if : {D : Type 0} (P : D → Type 0) (R : Type 0) (o : Option D) → R → IfSome o P → IfSome o (λ d. R × P d)
also_if P R None there h = tt
also_if P R (Some d) there h = (there, h)
