use Rattle.std.proofs.Common.{◌≡◌, length, take, true}
use Rattle.sq_run.specs.Processor.{takes}
use Rattle.sq_host.proofs.trial.find_first_unfit.Given as goal

-- the values up to here fit, with nulls after them
abbrev pub invariant-loop-place : goal.invariant-loop-place
invariant-loop-place l = record {
  fits : takes l.processor.program l.procedure l.tried.items ≡ true;
  same : take l.place l.tried.items ≡ take l.place l.values;
  long : length l.tried.items ≡ length l.values;
}
