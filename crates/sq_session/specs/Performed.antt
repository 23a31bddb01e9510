-- How a statement is performed: how it ends, and how many rows it reads.
use Rattle.std.specs.Prelude.{ℕ, List, IfSome, Result}
use Rattle.sq_value.specs.declared.value.Value.{Value}
use Rattle.sq_expression.specs.declared.fault.Fault.{Fault}
use Rattle.sq_session.specs.Kind.{Kind}
use Rattle.sq_session.specs.Metered.{StepReads}
use Rattle.sq_session.specs.Schemas.{Schemas}
use Rattle.sq_session.specs.State.{State}
use Rattle.sq_session.specs.Step.{EndsRight, MayStep, ending}
use Rattle.sq_session.specs.declared.reply.Done.{Done}

-- A statement of this kind ends as it may, not with 42000, and reads no more rows than it may.
pub record IsPerformed (s : Schemas) (k : Kind) (values : List Value) (before : State) (r : Result Done Fault)
    (after : State) (count : ℕ) : Type 0 where
  pub step : IfSome (ending r) (λ d. MayStep s k values before d after)
  pub right : IfSome (ending r) EndsRight
  pub read : IfSome (ending r) (λ d. StepReads k values before count)
